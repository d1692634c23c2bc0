use Rattle.std.proofs.Common.{◌≡◌, ℕ, ℤ, List, refl, sym, ap, ◌∙◌}
use Rattle.std.specs.Option.{option_map_or}
use Rattle.scr_sheet.specs.BalanceSheet.{curve_name}
use Rattle.scr_sheet.specs.declared.sheet.BalanceSheet.{BalanceSheet}
use Rattle.scr_tables.specs.Tables.{row_of, with_row}
use Rattle.scr_sheet.specs.Records.{applied}
use Rattle.scr_sheet.specs.declared.rows.Curve.{Curve}
use Rattle.scr_book.specs.Kept.{IsKept}
use Rattle.scr_book.specs.declared.ledger.Ledger.TheInside.{Inside}
use Rattle.scr_sheet.specs.declared.edit.Edit.TheVariants as edits
use Rattle.scr_book.proofs.Applied.{kept-still}
use Rattle.scr_book.proofs.ledger.Ledger.put_curve.Goals as goal

kept : (c : goal.In_ok-put) → let new : Inside = record c.self.inside { sheet = record c.self.inside.sheet { curves = c.put.new.self } } in IsKept new × (new.sheet ≡ applied (edits.Curve c.args.currency.now c.args.rates.now) c.args.self.now)
kept c =
    let new : Inside = record c.self.inside { sheet = record c.self.inside.sheet { curves = c.put.new.self } } in
    let curve : List ℤ → ℕ → ℕ → Curve = λ rates up down. record { currency = c.args.currency.now; rates = rates; absorb_up = up; absorb_down = down } in
    let put : List ℤ → ℕ → ℕ → List Curve = λ rates up down. with_row curve_name (curve rates up down) c.self.inside.sheet.curves in
    let old_up : ℕ = option_map_or (λ r. r.absorb_up) (row_of curve_name c.args.currency.now c.self.inside.sheet.curves) 0 in
    let up : c.absorptions-absorb_up.result.0 ≡ old_up = c.absorptions-absorb_up.ensures.up ∙ ap (λ (s : BalanceSheet). option_map_or (λ r. r.absorb_up) (row_of curve_name c.args.currency.now s.curves) 0) (sym c.self.view_is) in
    let old_down : ℕ = option_map_or (λ r. r.absorb_down) (row_of curve_name c.args.currency.now c.self.inside.sheet.curves) 0 in
    let down : c.absorptions-absorb_up.result.1 ≡ old_down = c.absorptions-absorb_up.ensures.down ∙ ap (λ (s : BalanceSheet). option_map_or (λ r. r.absorb_down) (row_of curve_name c.args.currency.now s.curves) 0) (sym c.self.view_is) in
    kept-still c.self.inside new c.args.self.now c.self.view_is c.self.invariant (edits.Curve c.args.currency.now c.args.rates.now) c.requires.formed c.requires.no_fault refl
    (ap (λ rows. record c.self.inside.sheet { curves = rows })
    (c.in_ok-put.ensures.ok ∙ ap (λ r. put r c.absorptions-absorb_up.result.0 c.absorptions-absorb_up.result.1) c.in_ok-rates.ensures
    ∙ ap (λ n. put c.args.rates.now n c.absorptions-absorb_up.result.1) up ∙ ap (λ n. put c.args.rates.now old_up n) down))
    refl

pub invariant_of-self-2 : goal.invariant_of-self-2
invariant_of-self-2 c = (kept c).0

pub returns-clause-ok : goal.returns-clause-ok
returns-clause-ok c = (kept c).1
