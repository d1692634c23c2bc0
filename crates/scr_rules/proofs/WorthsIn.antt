-- The figures of what a requirement for a currency is reckoned from, whatever they are: those of what is held of its
-- securities come first, and those of what its liabilities are worth come then.
use Rattle.std.proofs.Common.{◌≡◌, ℕ, ◌≤◌, List, ◌++◌, length, map, filter, take, drop, ap, ap₂, sym, ◌∙◌, arith}
use Rattle.std.proofs.Math.Seq.{take-append_seam, drop-append_seam}
use Rattle.std.proofs.lemmas.List.{map-append, length-map, length-append}
use Rattle.scr_num.specs.Rounding.{Ends}
use Rattle.scr_sheet.specs.declared.sheet.BalanceSheet.{BalanceSheet}
use Rattle.scr_nodes.specs.declared.node.Node.{Node}
use Rattle.scr_nodes.specs.OwnOf.{held_in}
use Rattle.scr_nodes.specs.Rows.{is_held_in, is_owed_in}
use Rattle.scr_nodes.specs.Sources.{liability_present, security_total, worths_in}

module _ (sheet : BalanceSheet) (figure : Node → Ends) where
  abbrev pub held_ends : List ℕ → List Ends
  held_ends currency = map figure (map security_total (filter (is_held_in currency) sheet.securities))

  abbrev pub owed_ends : List ℕ → List Ends
  owed_ends currency = map figure (map liability_present (filter (is_owed_in currency) sheet.liabilities))

  worths-are : (currency : List ℕ) → map figure (worths_in currency sheet) ≡ held_ends currency ++ owed_ends currency
  worths-are currency = map-append figure (map security_total (filter (is_held_in currency) sheet.securities)) (map liability_present (filter (is_owed_in currency) sheet.liabilities))

  held-count : (currency : List ℕ) → length (held_ends currency) ≡ held_in currency sheet
  held-count currency = length-map (map security_total (filter (is_held_in currency) sheet.securities)) figure ∙ length-map (filter (is_held_in currency) sheet.securities) security_total

  pub first-are : (currency : List ℕ) → take (held_in currency sheet) (map figure (worths_in currency sheet)) ≡ held_ends currency
  first-are currency =
      ap₂ (λ (n : ℕ) (es : List Ends). take n es) (sym (held-count currency)) (worths-are currency) ∙ take-append_seam (held_ends currency) (owed_ends currency)

  pub others-are : (currency : List ℕ) → drop (held_in currency sheet) (map figure (worths_in currency sheet)) ≡ owed_ends currency
  others-are currency =
      ap₂ (λ (n : ℕ) (es : List Ends). drop n es) (sym (held-count currency)) (worths-are currency) ∙ drop-append_seam (held_ends currency) (owed_ends currency)

  pub worths-count : (currency : List ℕ) → held_in currency sheet ≤ length (map figure (worths_in currency sheet))
  worths-count currency =
      omega (arith, held-count currency, ap (λ (es : List Ends). length es) (worths-are currency), length-append (held_ends currency) (owed_ends currency))
