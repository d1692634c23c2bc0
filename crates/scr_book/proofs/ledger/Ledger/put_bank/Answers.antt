use Rattle.std.proofs.Common.{◌≡◌, ℕ, ◌+◌, ◌-◌, ap, ◌∙◌, arith, w64, refl, List, sym, subst}
use Rattle.std.proofs.lemmas.Int.{to_z-of_z}
use Rattle.scr_sheet.specs.BalanceSheet.{bank_name}
use Rattle.scr_tables.specs.Tables.{with_row}
use Rattle.scr_sheet.specs.Records.{applied, natural}
use Rattle.scr_sheet.specs.declared.rows.Bank.{Bank}
use Rattle.scr_sheet.proofs.Sums.{defaults-part_bank}
use Rattle.scr_book.specs.Kept.{IsKept}
use Rattle.scr_book.specs.declared.ledger.Ledger.TheInside.{Inside}
use Rattle.scr_sheet.specs.declared.edit.Edit.TheVariants as edits
use Rattle.scr_book.proofs.Moved.{bank_part, sums-bank}
use Rattle.scr_book.proofs.Applied.{sums_now, kept-applied}
use Rattle.scr_book.proofs.ledger.Ledger.put_bank.Goals as goal

kept : (c : goal.After-self-1) → let defaults : ℕ = c.self.inside.sums.defaults - c.bank_total-old.result + c.natural-cents.result in
    let new : Inside = record c.self.inside { sheet = record c.self.inside.sheet { banks = c.put.new.self }; sums = record c.self.inside.sums { defaults = defaults } } in
    IsKept new × (new.sheet ≡ applied (edits.Bank c.args.name.now c.args.group.now c.args.cents) c.args.self.now)
kept c =
    let defaults : ℕ = c.self.inside.sums.defaults - c.bank_total-old.result + c.natural-cents.result in
    let new : Inside = record c.self.inside { sheet = record c.self.inside.sheet { banks = c.put.new.self }; sums = record c.self.inside.sums { defaults = defaults } } in
    let amount : c.natural-cents.result ≡ natural c.args.cents = c.natural-cents.ensures ∙ ap natural (to_z-of_z w64 c.args.cents c.ranges.cents) in
    let bank : ℕ → Bank = λ n. record { name = c.args.name.now; group = c.args.group.now; cents = n } in
    let sum : defaults ≡ c.self.inside.sums.defaults - bank_part c.args.name.now c.args.self.now + natural c.args.cents =
    ap (λ n. c.self.inside.sums.defaults - n + c.natural-cents.result) c.bank_total-old.ensures.value ∙ ap (λ n. c.self.inside.sums.defaults - bank_part c.args.name.now c.args.self.now + n) amount in
    kept-applied c.self.inside new c.args.self.now c.self.view_is c.self.invariant (edits.Bank c.args.name.now c.args.group.now c.args.cents) c.requires.formed c.requires.no_fault refl
    (ap (λ rows. record c.self.inside.sheet { banks = rows }) (c.in_ok-put.ensures.ok ∙ ap (λ n. with_row bank_name (bank n) c.self.inside.sheet.banks) amount))
    (sums-bank c.args.name.now c.args.group.now c.args.cents c.args.self.now c.self.inside.sums defaults (sums_now c.self.inside c.args.self.now c.self.view_is c.self.invariant) sum)

pub overflow_sub-self : goal.overflow_sub-self
overflow_sub-self c =
    let are = sums_now c.self.inside c.args.self.now c.self.view_is c.self.invariant in
    omega (arith, are.defaults, defaults-part_bank c.args.name.now c.args.self.now, c.bank_total-old.ensures.value)

pub invariant_of-self-2 : goal.invariant_of-self-2
invariant_of-self-2 c = (kept c).0

pub returns-clause-ok : goal.returns-clause-ok
returns-clause-ok c = (kept c).1

pub invariant_of-self : goal.invariant_of-self
invariant_of-self c =
    subst (λ (rows : List Bank). IsKept (record c.self.inside { sheet = record c.self.inside.sheet { banks = rows } })) (sym c.in_err-put.ensures.err) c.self.invariant
