use Rattle.std.proofs.Common.{◌+◌, length, eqb, refl, sym, ap, subst, ◌∙◌, arith}
use Rattle.std.specs.Prelude.{if◌then◌else◌}
use Rattle.scr_member_lists.specs.Seatings.{NOWHERE}
use Rattle.scr_sheet.specs.BalanceSheet.{liability_name}
use Rattle.scr_sheet.specs.declared.edit.Edit.TheVariants as edits
use Rattle.scr_sheet.specs.declared.keys.Table.TheVariants as tables
use Rattle.scr_sheet.specs.declared.roll.Roll.TheVariants as rolls
use Rattle.scr_book.specs.Rolls.{IsPrepared, kind_number}
use Rattle.scr_book.specs.declared.rolls.Aim.TheVariants as aims
use Rattle.scr_book.specs.Sums.{place_of}
use Rattle.scr_book.proofs.RollGrowth.{kept-same, roomy-liabilities}
use Rattle.scr_book.proofs.RollPrepared.{empty-of, found-place, prepared-no-line, prepared-projected}
use Rattle.scr_book.proofs.RollsStill.{once-in}
use Rattle.scr_book.proofs.rolls.Rolls.of_projection.Goals as goal

pub returns-in_default-clause-prepared : goal.returns-in_default-clause-prepared
returns-in_default-clause-prepared c = prepared-no-line c.args.sheet.now c.requires.valid c.args.self.now c.requires.rolls c.args.name.now c.args.projection c.args.flows.now (sym c.in_default.ensures.there)

pub returns-then-is_empty-clause-prepared : goal.returns-then-is_empty-clause-prepared
returns-then-is_empty-clause-prepared c =
    let f = found-place liability_name c.args.sheet.now.liabilities c.in-Some.place c.args.name.now (once-in tables.Liability c.args.sheet.now c.requires.valid refl) c.in-Some.ensures.place in
    subst (λ s. IsPrepared (edits.LiabilityFlows c.args.name.now c.args.projection c.args.flows.now) c.args.sheet.now (aims.Projected c.in-Some.place s NOWHERE) c.args.self.now c.args.self.now) (sym c.place_of-seat.ensures.place)
    (prepared-projected c.args.sheet.now c.requires.valid c.args.self.now c.requires.rolls c.in-Some.place c.args.name.now c.in-Some.ensures.place c.args.projection c.args.flows.now f.0 f.1 c.args.self.now (kept-same c.args.sheet.now c.args.self.now c.requires.rolls) NOWHERE
    (ap (λ b. if b then NOWHERE else kind_number f.0.kind + place_of c.args.projection) (c.if-is_empty.ensures ∙ ap (λ l. eqb (length l) 0) c.as_slice.ensures ∙ empty-of c.args.flows.now))
    (λ some. absurd (some refl)))

pub at-requires : goal.at-requires
at-requires c =
    let f = found-place liability_name c.args.sheet.now.liabilities c.in-Some.place c.args.name.now (once-in tables.Liability c.args.sheet.now c.requires.valid refl) c.in-Some.ensures.place in
    f.2

pub reserve-requires : goal.reserve-requires
reserve-requires c = (
  omega arith,
  λ some.
      let inside = (c.requires.rolls.numbered.own (rolls.Losses c.at.result.now.kind c.args.projection) (kind_number c.at.result.now.kind + place_of c.args.projection) refl).0 in
      let losses = c.first_loss.ensures.number in
      let seat = c.place_of-seat.ensures.place in
      omega (arith, inside, losses, seat),
)

pub returns-in_err-reserve-clause-kept : goal.returns-in_err-reserve-clause-kept
returns-in_err-reserve-clause-kept c = roomy-liabilities c.args.sheet.now c.args.self.now c.requires.rolls c.reserve.new.self c.reserve.ensures.grows

pub returns-clause-kept : goal.returns-clause-kept
returns-clause-kept c = roomy-liabilities c.args.sheet.now c.args.self.now c.requires.rolls c.reserve.new.self c.reserve.ensures.grows

pub returns-clause-prepared : goal.returns-clause-prepared
returns-clause-prepared c =
    let kept = roomy-liabilities c.args.sheet.now c.args.self.now c.requires.rolls c.reserve.new.self c.reserve.ensures.grows in
    subst (λ s. IsPrepared (edits.LiabilityFlows c.args.name.now c.args.projection c.args.flows.now) c.args.sheet.now (aims.Projected c.in-Some.place s (c.first_loss.result + c.place_of-seat.result)) c.args.self.now (record c.args.self.now { liabilities = c.reserve.new.self }))
    (sym c.place_of-seat.ensures.place)
    (prepared-projected c.args.sheet.now c.requires.valid (record c.args.self.now { liabilities = c.reserve.new.self }) kept.kept c.in-Some.place c.args.name.now c.in-Some.ensures.place c.args.projection c.args.flows.now c.at.result.now c.at.ensures c.args.self.now kept
    (c.first_loss.result + c.place_of-seat.result)
    (ap (λ a. a + c.place_of-seat.result) c.first_loss.ensures.number ∙ ap (λ s. kind_number c.at.result.now.kind + s) c.place_of-seat.ensures.place
    ∙ ap (λ b. if b then NOWHERE else kind_number c.at.result.now.kind + place_of c.args.projection) (c.if-is_empty.ensures ∙ ap (λ l. eqb (length l) 0) c.as_slice.ensures ∙ empty-of c.args.flows.now))
    c.in_ok-reserve.ensures.ok)
