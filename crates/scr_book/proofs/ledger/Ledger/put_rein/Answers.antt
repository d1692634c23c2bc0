use Rattle.std.proofs.Common.{◌≡◌, ℕ, ◌+◌, ◌-◌, ap, ◌∙◌, arith, w64, refl, List, sym, subst}
use Rattle.std.proofs.lemmas.Int.{to_z-of_z}
use Rattle.scr_sheet.specs.BalanceSheet.{rein_name}
use Rattle.scr_tables.specs.Tables.{with_row}
use Rattle.scr_sheet.specs.Records.{applied, natural}
use Rattle.scr_sheet.specs.declared.rows.Rein.{Rein}
use Rattle.scr_sheet.proofs.Sums.{defaults-part_rein}
use Rattle.scr_book.specs.Kept.{IsKept}
use Rattle.scr_book.specs.declared.ledger.Ledger.TheInside.{Inside}
use Rattle.scr_sheet.specs.declared.edit.Edit.TheVariants as edits
use Rattle.scr_book.proofs.Moved.{rein_part, sums-rein}
use Rattle.scr_book.proofs.Applied.{sums_now, kept-applied}
use Rattle.scr_book.proofs.ledger.Ledger.put_rein.Goals as goal

kept : (c : goal.After-self-1) → let defaults : ℕ = c.self.inside.sums.defaults - c.rein_total-old.result + c.natural-recoverables.result + c.natural-mitigation.result in
    let new : Inside = record c.self.inside { sheet = record c.self.inside.sheet { reinsurers = c.put.new.self }; sums = record c.self.inside.sums { defaults = defaults } } in
    IsKept new × (new.sheet ≡ applied (edits.Rein c.args.name.now c.args.group.now c.args.recoverables c.args.mitigation c.args.collateral) c.args.self.now)
kept c =
    let defaults : ℕ = c.self.inside.sums.defaults - c.rein_total-old.result + c.natural-recoverables.result + c.natural-mitigation.result in
    let new : Inside = record c.self.inside { sheet = record c.self.inside.sheet { reinsurers = c.put.new.self }; sums = record c.self.inside.sums { defaults = defaults } } in
    let recoverables : c.natural-recoverables.result ≡ natural c.args.recoverables = c.natural-recoverables.ensures ∙ ap natural (to_z-of_z w64 c.args.recoverables c.ranges.recoverables) in
    let mitigation : c.natural-mitigation.result ≡ natural c.args.mitigation = c.natural-mitigation.ensures ∙ ap natural (to_z-of_z w64 c.args.mitigation c.ranges.mitigation) in
    let collateral : c.natural.result ≡ natural c.args.collateral = c.natural.ensures ∙ ap natural (to_z-of_z w64 c.args.collateral c.ranges.collateral) in
    let rein : ℕ → ℕ → ℕ → Rein = λ r m k. record { name = c.args.name.now; group = c.args.group.now; recoverables = r; mitigation = m; collateral = k } in
    let rows = λ (r m k : ℕ). with_row rein_name (rein r m k) c.self.inside.sheet.reinsurers in
    let sum : defaults ≡ c.self.inside.sums.defaults - rein_part c.args.name.now c.args.self.now + natural c.args.recoverables + natural c.args.mitigation =
    ap (λ n. c.self.inside.sums.defaults - n + c.natural-recoverables.result + c.natural-mitigation.result) c.rein_total-old.ensures.value
    ∙ ap (λ n. c.self.inside.sums.defaults - rein_part c.args.name.now c.args.self.now + n + c.natural-mitigation.result) recoverables
    ∙ ap (λ n. c.self.inside.sums.defaults - rein_part c.args.name.now c.args.self.now + natural c.args.recoverables + n) mitigation in
    kept-applied c.self.inside new c.args.self.now c.self.view_is c.self.invariant (edits.Rein c.args.name.now c.args.group.now c.args.recoverables c.args.mitigation c.args.collateral) c.requires.formed c.requires.no_fault refl
    (ap (λ rows. record c.self.inside.sheet { reinsurers = rows })
    (c.in_ok-put.ensures.ok ∙ ap (λ n. rows n c.natural-mitigation.result c.natural.result) recoverables ∙ ap (λ n. rows (natural c.args.recoverables) n c.natural.result) mitigation
    ∙ ap (λ n. rows (natural c.args.recoverables) (natural c.args.mitigation) n) collateral))
    (sums-rein c.args.name.now c.args.group.now c.args.recoverables c.args.mitigation c.args.collateral c.args.self.now c.self.inside.sums defaults (sums_now c.self.inside c.args.self.now c.self.view_is c.self.invariant) sum)

pub overflow_sub-self : goal.overflow_sub-self
overflow_sub-self c =
    let are = sums_now c.self.inside c.args.self.now c.self.view_is c.self.invariant in
    omega (arith, are.defaults, defaults-part_rein c.args.name.now c.args.self.now, c.rein_total-old.ensures.value)

pub invariant_of-self-2 : goal.invariant_of-self-2
invariant_of-self-2 c = (kept c).0

pub returns-clause-ok : goal.returns-clause-ok
returns-clause-ok c = (kept c).1

pub invariant_of-self : goal.invariant_of-self
invariant_of-self c =
    subst (λ (rows : List Rein). IsKept (record c.self.inside { sheet = record c.self.inside.sheet { reinsurers = rows } })) (sym c.in_err-put.ensures.err) c.self.invariant
