use Rattle.std.proofs.Common.{◌≡◌, ℕ, ◌+◌, ◌-◌, List, subst, ap, ◌∙◌, arith, w64, refl}
use Rattle.std.proofs.lemmas.Int.{to_z-of_z}
use Rattle.scr_sheet.specs.BalanceSheet.{position_name, stake_name, held_of}
use Rattle.scr_sheet.specs.declared.sheet.BalanceSheet.{BalanceSheet}
use Rattle.scr_tables.specs.Tables.{changed}
use Rattle.scr_sheet.specs.Records.{applied, natural}
use Rattle.scr_sheet.specs.Validity.{Valid}
use Rattle.scr_sheet.proofs.Sums.{held-part}
use Rattle.scr_book.specs.Kept.{IsKept}
use Rattle.scr_book.specs.declared.ledger.Ledger.TheInside.{Inside}
use Rattle.scr_sheet.specs.declared.edit.Edit.{Edit}
use Rattle.scr_sheet.specs.declared.edit.Edit.TheVariants as edits
use Rattle.scr_book.proofs.Moved.{sums-hold}
use Rattle.scr_book.proofs.Applied.{sums_now, kept-applied}
use Rattle.scr_book.proofs.ledger.Ledger.put_held.Goals as goal

amount : (c : goal.After-self-1) → c.natural-new.result ≡ natural c.args.cents
amount c = c.natural-new.ensures ∙ ap natural (to_z-of_z w64 c.args.cents c.ranges.cents)

-- the sheet in which so much is held of the name
abbrev holding : List ℕ → BalanceSheet → ℕ → BalanceSheet
holding name sheet held =
    record sheet {
      securities = changed position_name (λ p. record p { held = held }) name sheet.securities;
      funds = changed stake_name (λ s. record s { held = held }) name sheet.funds;
    }

was : (c : goal.After-self-1) → c.exchange_held-old.result ≡ held_of c.args.self.now c.args.name.now
was c = c.exchange_held-old.ensures.was ∙ ap (λ (s : BalanceSheet). held_of s c.args.name.now) c.self.view_is

kept : (c : goal.After-self-1) → let held : ℕ = c.self.inside.sums.held - c.exchange_held-old.result + c.natural-new.result in
    let new : Inside = record c.self.inside { sheet = c.exchange_held-old.new.sheet; sums = record c.self.inside.sums { held = held } } in
    IsKept new × (new.sheet ≡ applied (edits.Hold c.args.name.now c.args.cents) c.args.self.now)
kept c =
    let held : ℕ = c.self.inside.sums.held - c.exchange_held-old.result + c.natural-new.result in
    let new : Inside = record c.self.inside { sheet = c.exchange_held-old.new.sheet; sums = record c.self.inside.sums { held = held } } in
    let edit : Edit = edits.Hold c.args.name.now c.args.cents in
    let sum : held ≡ c.self.inside.sums.held - held_of c.args.self.now c.args.name.now + natural c.args.cents =
    ap (λ n. c.self.inside.sums.held - n + c.natural-new.result) (was c) ∙ ap (λ n. c.self.inside.sums.held - held_of c.args.self.now c.args.name.now + n) (amount c) in
    kept-applied c.self.inside new c.args.self.now c.self.view_is c.self.invariant edit c.requires.formed c.requires.no_fault refl
    (c.exchange_held-old.ensures.is ∙ ap (holding c.args.name.now c.self.inside.sheet) (amount c))
    (sums-hold c.args.name.now c.args.cents c.args.self.now (subst Valid c.self.view_is c.self.invariant.valid) c.requires.no_fault c.self.inside.sums held
    (sums_now c.self.inside c.args.self.now c.self.view_is c.self.invariant) sum)

pub overflow_sub-self : goal.overflow_sub-self
overflow_sub-self c =
    let are = sums_now c.self.inside c.args.self.now c.self.view_is c.self.invariant in
    let before = c.exchange_held-old.ensures.was ∙ ap (λ (s : BalanceSheet). held_of s c.args.name.now) c.self.view_is in
    omega (arith, are.held, held-part c.args.name.now c.args.self.now, before)

pub invariant_of-self : goal.invariant_of-self
invariant_of-self c = (kept c).0

pub returns : goal.returns
returns c = (kept c).1
