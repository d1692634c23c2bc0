use Rattle.std.proofs.Common.{◌≡◌, ℕ, List, refl, sym, ap, ◌∙◌, rules, w64}
use Rattle.std.proofs.lemmas.Int.{to_z-of_z}
use Rattle.scr_sheet.specs.BalanceSheet.{curve_name}
use Rattle.scr_sheet.specs.declared.sheet.BalanceSheet.{BalanceSheet}
use Rattle.scr_tables.specs.Tables.{changed}
use Rattle.scr_sheet.specs.Records.{applied, natural, placed, absorb_place, with_absorb}
use Rattle.scr_sheet.specs.declared.keys.AbsorbKey.{AbsorbKey}
use Rattle.scr_sheet.specs.declared.numbers.Numbers.{Numbers}
use Rattle.scr_sheet.specs.declared.rows.Curve.{Curve}
use Rattle.scr_sheet.specs.declared.edit.Edit.TheVariants as edits
use Rattle.scr_book.specs.Kept.{IsKept}
use Rattle.scr_book.specs.declared.ledger.Ledger.TheInside.{Inside}
use Rattle.scr_book.proofs.Applied.{changed-from, kept-still, with_absorb-other}
use Rattle.scr_book.proofs.ledger.Ledger.put_absorb.Goals as goal

-- the numbers with an absorption of this key
abbrev absorbed : ℕ → Numbers → AbsorbKey → Numbers
absorbed n numbers key = record numbers { absorb = placed (absorb_place key) n numbers.absorb }

-- the sheet with other curves
abbrev with_curves : BalanceSheet → List Curve → BalanceSheet
with_curves sheet curves = record sheet { curves = curves }

kept-up : (c : goal.After-change) → let new : Inside = record c.self.inside { sheet = record c.self.inside.sheet { curves = c.change.new.self } } in IsKept new × (new.sheet ≡ applied (edits.Absorb c.args.key c.args.cents) c.args.self.now)
kept-up c =
    let new : Inside = record c.self.inside { sheet = record c.self.inside.sheet { curves = c.change.new.self } } in
    let n : ℕ = natural c.args.cents in
    let amount : c.natural-cents.result ≡ n = c.natural-cents.ensures ∙ ap natural (to_z-of_z w64 c.args.cents c.ranges.cents) in
    let written : c.change.new.self ≡ changed curve_name (λ r. record r { absorb_up = c.natural-cents.result }) c.in-CurrencyUp.currency c.self.inside.sheet.curves =
    changed-from curve_name (λ r. record r { absorb_up = c.natural-cents.result }) _ c.in-CurrencyUp.currency c.self.inside.sheet.curves c.change.new.self (λ old row ran. search rules) c.change.ensures in
    kept-still c.self.inside new c.args.self.now c.self.view_is c.self.invariant (edits.Absorb c.args.key c.args.cents) c.requires.formed c.requires.no_fault refl
    (ap (λ m. record new.sheet { numbers = m }) (sym (ap (absorbed n c.self.inside.sheet.numbers) c.in-CurrencyUp.is))
    ∙ ap (with_curves (applied (edits.Absorb c.args.key c.args.cents) c.self.inside.sheet))
    (written ∙ ap (λ m. changed curve_name (λ r. record r { absorb_up = m }) c.in-CurrencyUp.currency c.self.inside.sheet.curves) amount ∙ sym (ap (λ k. with_absorb k n c.self.inside.sheet.curves) c.in-CurrencyUp.is)))
    refl

kept-down : (c : goal.After-change-in-CurrencyDown) → let new : Inside = record c.self.inside { sheet = record c.self.inside.sheet { curves = c.change-in-CurrencyDown.new.self } } in IsKept new × (new.sheet ≡ applied (edits.Absorb c.args.key c.args.cents) c.args.self.now)
kept-down c =
    let new : Inside = record c.self.inside { sheet = record c.self.inside.sheet { curves = c.change-in-CurrencyDown.new.self } } in
    let n : ℕ = natural c.args.cents in
    let amount : c.natural-cents.result ≡ n = c.natural-cents.ensures ∙ ap natural (to_z-of_z w64 c.args.cents c.ranges.cents) in
    let written : c.change-in-CurrencyDown.new.self ≡ changed curve_name (λ r. record r { absorb_down = c.natural-cents.result }) c.in-CurrencyDown.currency c.self.inside.sheet.curves =
    changed-from curve_name (λ r. record r { absorb_down = c.natural-cents.result }) _ c.in-CurrencyDown.currency c.self.inside.sheet.curves c.change-in-CurrencyDown.new.self (λ old row ran. search rules) c.change-in-CurrencyDown.ensures in
    kept-still c.self.inside new c.args.self.now c.self.view_is c.self.invariant (edits.Absorb c.args.key c.args.cents) c.requires.formed c.requires.no_fault refl
    (ap (λ m. record new.sheet { numbers = m }) (sym (ap (absorbed n c.self.inside.sheet.numbers) c.in-CurrencyDown.is))
    ∙ ap (with_curves (applied (edits.Absorb c.args.key c.args.cents) c.self.inside.sheet))
    (written ∙ ap (λ m. changed curve_name (λ r. record r { absorb_down = m }) c.in-CurrencyDown.currency c.self.inside.sheet.curves) amount ∙ sym (ap (λ k. with_absorb k n c.self.inside.sheet.curves) c.in-CurrencyDown.is)))
    refl

kept-numbers : (c : goal.After-put_absorb) → let new : Inside = record c.self.inside { sheet = record c.self.inside.sheet { numbers = c.put_absorb.new.self } } in IsKept new × (new.sheet ≡ applied (edits.Absorb c.args.key c.args.cents) c.args.self.now)
kept-numbers c =
    let new : Inside = record c.self.inside { sheet = record c.self.inside.sheet { numbers = c.put_absorb.new.self } } in
    let n : ℕ = natural c.args.cents in
    let amount : c.natural-cents.result ≡ n = c.natural-cents.ensures ∙ ap natural (to_z-of_z w64 c.args.cents c.ranges.cents) in
    kept-still c.self.inside new c.args.self.now c.self.view_is c.self.invariant (edits.Absorb c.args.key c.args.cents) c.requires.formed c.requires.no_fault refl
    (ap (λ m. record c.self.inside.sheet { numbers = m }) (c.put_absorb.ensures ∙ ap (λ m. absorbed m c.self.inside.sheet.numbers c.args.key) amount)
    ∙ ap (with_curves (applied (edits.Absorb c.args.key c.args.cents) c.self.inside.sheet))
    (sym (with_absorb-other c.args.key n c.self.inside.sheet.curves c.in_default.not-CurrencyUp c.in_default.not-CurrencyDown)))
    refl

pub invariant_of-self : goal.invariant_of-self
invariant_of-self c = (kept-up c).0

pub invariant_of-self-in-CurrencyDown : goal.invariant_of-self-in-CurrencyDown
invariant_of-self-in-CurrencyDown c = (kept-down c).0

pub invariant_of-self-in_default : goal.invariant_of-self-in_default
invariant_of-self-in_default c = (kept-numbers c).0
