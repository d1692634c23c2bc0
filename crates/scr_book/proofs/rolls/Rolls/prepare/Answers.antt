use Rattle.std.proofs.Common.{◌≡◌, ℕ, ℤ, true, false, List, Option, None, refl, sym, ap, subst, ◌∙◌}
use Rattle.std.proofs.lemmas.Result.{IfOk-weaker}
use Rattle.scr_dates.specs.declared.day.Day.{Day}
use Rattle.scr_profile.specs.declared.group_kind.GroupKind.{GroupKind}
use Rattle.scr_sheet.specs.declared.{edit.Edit.Edit, keys.Projection.Projection, keys.Table.Table, rows.Class.Class, rows.LiabilityKind.LiabilityKind}
use Rattle.scr_sheet.specs.declared.edit.Edit.TheVariants as edits
use Rattle.scr_book.specs.Rolls.{AreKept, IsPrepared, moves_in}
use Rattle.scr_book.specs.Verbs.{takes_no_memory}
use Rattle.scr_book.specs.declared.rolls.Aim.TheVariants as aims
use Rattle.scr_book.proofs.RollGrowth.{kept-same}
use Rattle.scr_book.proofs.RollPrepared.{on-err}
use Rattle.scr_book.proofs.RollsDropped.{prepared-none}
use Rattle.scr_book.proofs.rolls.Rolls.prepare.Goals as goal

-- a record of none of these kinds moves no row
none-moves : (edit : Edit)
    → ((name : List ℕ) (class : Class) (group : Option (List ℕ)) (currency : List ℕ) (duration : ℤ) → edit ≡ edits.Security name class group currency duration → ⊥)
    → ((security : List ℕ) (flows : List (Day × ℤ)) → edit ≡ edits.Flows security flows → ⊥)
    → ((name : List ℕ) (components : List (List ℕ × ℤ)) → edit ≡ edits.Fund name components → ⊥)
    → ((name : List ℕ) (kind : GroupKind) (step : Option ℕ) → edit ≡ edits.Group name kind step → ⊥)
    → ((name : List ℕ) (kind : LiabilityKind) (currency : List ℕ) → edit ≡ edits.Liability name kind currency → ⊥)
    → ((liability : List ℕ) (projection : Projection) (flows : List (Day × ℤ)) → edit ≡ edits.LiabilityFlows liability projection flows → ⊥)
    → ((table : Table) (name : List ℕ) → edit ≡ edits.Remove table name → ⊥)
    → moves_in edit ≡ None
none-moves (edits.Security name class group currency duration) security flows fund groups liability projected removed = absurd (security name class group currency duration refl)
none-moves (edits.Flows name paid) security flows fund groups liability projected removed = absurd (flows name paid refl)
none-moves (edits.Fund name components) security flows fund groups liability projected removed = absurd (fund name components refl)
none-moves (edits.Group name kind step) security flows fund groups liability projected removed = absurd (groups name kind step refl)
none-moves (edits.Liability name kind currency) security flows fund groups liability projected removed = absurd (liability name kind currency refl)
none-moves (edits.LiabilityFlows name projection paid) security flows fund groups liability projected removed = absurd (projected name projection paid refl)
none-moves (edits.Remove table name) security flows fund groups liability projected removed = absurd (removed table name refl)
none-moves edit security flows fund groups liability projected removed = refl

pub of_security-requires : goal.of_security-requires
of_security-requires c = (c.args.sheet.now, c.requires.rolls)

pub returns-in-Security-clause-err : goal.returns-in-Security-clause-err
returns-in-Security-clause-err c = on-err c.of_security.result (AreKept c.args.sheet.now c.args.self.now c.of_security.new.self) (c.of_security.ensures.kept c.args.sheet.now c.requires.rolls)

pub returns-in-Security-clause-kept : goal.returns-in-Security-clause-kept
returns-in-Security-clause-kept c = λ memory. c.of_security.ensures.kept c.args.sheet.now c.requires.rolls

pub returns-in-Security-clause-prepared : goal.returns-in-Security-clause-prepared
returns-in-Security-clause-prepared c =
    IfOk-weaker c.of_security.result _ (λ aim. IsPrepared c.args.edit.now c.args.sheet.now aim c.args.self.now c.of_security.new.self)
    (λ aim told. subst (λ (e : Edit). IsPrepared e c.args.sheet.now aim c.args.self.now c.of_security.new.self) (sym c.in-Security.is) (told c.args.sheet.now c.in-Security.duration c.requires.rolls)) c.of_security.ensures.prepared

pub of_fund-requires : goal.of_fund-requires
of_fund-requires c = (c.args.sheet.now, c.requires.rolls)

pub returns-in-Fund-clause-err : goal.returns-in-Fund-clause-err
returns-in-Fund-clause-err c = on-err c.of_fund.result (AreKept c.args.sheet.now c.args.self.now c.of_fund.new.self) (c.of_fund.ensures.kept c.args.sheet.now c.requires.rolls)

pub returns-in-Fund-clause-kept : goal.returns-in-Fund-clause-kept
returns-in-Fund-clause-kept c = λ memory. c.of_fund.ensures.kept c.args.sheet.now c.requires.rolls

pub returns-in-Fund-clause-prepared : goal.returns-in-Fund-clause-prepared
returns-in-Fund-clause-prepared c =
    IfOk-weaker c.of_fund.result _ (λ aim. IsPrepared c.args.edit.now c.args.sheet.now aim c.args.self.now c.of_fund.new.self)
    (λ aim told. subst (λ (e : Edit). IsPrepared e c.args.sheet.now aim c.args.self.now c.of_fund.new.self) (sym c.in-Fund.is) (told c.args.sheet.now c.requires.rolls)) c.of_fund.ensures.prepared

pub of_group-requires : goal.of_group-requires
of_group-requires c = (c.args.sheet.now, c.requires.rolls)

pub returns-in-Group-clause-err : goal.returns-in-Group-clause-err
returns-in-Group-clause-err c = on-err c.of_group.result (AreKept c.args.sheet.now c.args.self.now c.of_group.new.self) (c.of_group.ensures.kept c.args.sheet.now c.requires.rolls)

pub returns-in-Group-clause-kept : goal.returns-in-Group-clause-kept
returns-in-Group-clause-kept c = λ memory. c.of_group.ensures.kept c.args.sheet.now c.requires.rolls

pub returns-in-Group-clause-prepared : goal.returns-in-Group-clause-prepared
returns-in-Group-clause-prepared c =
    IfOk-weaker c.of_group.result _ (λ aim. IsPrepared c.args.edit.now c.args.sheet.now aim c.args.self.now c.of_group.new.self)
    (λ aim told. subst (λ (e : Edit). IsPrepared e c.args.sheet.now aim c.args.self.now c.of_group.new.self) (sym c.in-Group.is) (told c.args.sheet.now c.in-Group.kind c.in-Group.step c.requires.rolls)) c.of_group.ensures.prepared

pub of_liability-requires : goal.of_liability-requires
of_liability-requires c = (c.args.sheet.now, c.requires.rolls)

pub returns-in-Liability-clause-err : goal.returns-in-Liability-clause-err
returns-in-Liability-clause-err c = on-err c.of_liability.result (AreKept c.args.sheet.now c.args.self.now c.of_liability.new.self) (c.of_liability.ensures.kept c.args.sheet.now c.requires.rolls)

pub returns-in-Liability-clause-kept : goal.returns-in-Liability-clause-kept
returns-in-Liability-clause-kept c = λ memory. c.of_liability.ensures.kept c.args.sheet.now c.requires.rolls

pub returns-in-Liability-clause-prepared : goal.returns-in-Liability-clause-prepared
returns-in-Liability-clause-prepared c =
    IfOk-weaker c.of_liability.result _ (λ aim. IsPrepared c.args.edit.now c.args.sheet.now aim c.args.self.now c.of_liability.new.self)
    (λ aim told. subst (λ (e : Edit). IsPrepared e c.args.sheet.now aim c.args.self.now c.of_liability.new.self) (sym c.in-Liability.is) (told c.args.sheet.now c.requires.rolls)) c.of_liability.ensures.prepared

pub returns-in-Flows-clause-err : goal.returns-in-Flows-clause-err
returns-in-Flows-clause-err c = on-err c.of_payments.result (AreKept c.args.sheet.now c.args.self.now c.of_payments.new.self) (c.of_payments.ensures.kept)

pub returns-in-Flows-clause-kept : goal.returns-in-Flows-clause-kept
returns-in-Flows-clause-kept c = λ memory. c.of_payments.ensures.kept

pub returns-in-Flows-clause-prepared : goal.returns-in-Flows-clause-prepared
returns-in-Flows-clause-prepared c =
    IfOk-weaker c.of_payments.result _ (λ aim. IsPrepared c.args.edit.now c.args.sheet.now aim c.args.self.now c.of_payments.new.self)
    (λ aim told. subst (λ (e : Edit). IsPrepared e c.args.sheet.now aim c.args.self.now c.of_payments.new.self) (sym c.in-Flows.is) told) c.of_payments.ensures.prepared

pub returns-in-LiabilityFlows-clause-err : goal.returns-in-LiabilityFlows-clause-err
returns-in-LiabilityFlows-clause-err c = on-err c.of_projection.result (AreKept c.args.sheet.now c.args.self.now c.of_projection.new.self) (c.of_projection.ensures.kept)

pub returns-in-LiabilityFlows-clause-kept : goal.returns-in-LiabilityFlows-clause-kept
returns-in-LiabilityFlows-clause-kept c = λ memory. c.of_projection.ensures.kept

pub returns-in-LiabilityFlows-clause-prepared : goal.returns-in-LiabilityFlows-clause-prepared
returns-in-LiabilityFlows-clause-prepared c =
    IfOk-weaker c.of_projection.result _ (λ aim. IsPrepared c.args.edit.now c.args.sheet.now aim c.args.self.now c.of_projection.new.self)
    (λ aim told. subst (λ (e : Edit). IsPrepared e c.args.sheet.now aim c.args.self.now c.of_projection.new.self) (sym c.in-LiabilityFlows.is) told) c.of_projection.ensures.prepared

pub returns-in-Remove-clause-kept : goal.returns-in-Remove-clause-kept
returns-in-Remove-clause-kept c = λ memory.
    let never : true ≡ false = sym (ap takes_no_memory c.in-Remove.is) ∙ memory in
    absurd (cc)

pub returns-in-Remove-clause-prepared : goal.returns-in-Remove-clause-prepared
returns-in-Remove-clause-prepared c =
    subst (λ (e : Edit). IsPrepared e c.args.sheet.now aims.Still c.args.self.now c.release.new.self) (sym c.in-Remove.is) c.release.ensures

pub returns-in_default-clause-kept : goal.returns-in_default-clause-kept
returns-in_default-clause-kept c = λ memory. kept-same c.args.sheet.now c.args.self.now c.requires.rolls

pub returns-in_default-clause-prepared : goal.returns-in_default-clause-prepared
returns-in_default-clause-prepared c =
    prepared-none c.args.edit.now c.args.sheet.now c.args.self.now
    (none-moves c.args.edit.now c.in_default.not-Security c.in_default.not-Flows c.in_default.not-Fund c.in_default.not-Group c.in_default.not-Liability c.in_default.not-LiabilityFlows c.in_default.not-Remove)
    c.requires.rolls
