-- What a figure that rests on no open choice tells of its sources.
use Rattle.std.proofs.Common.{◌≡◌, ◌∙◌, ℕ, ◌≤◌, Bool, true, false, ◌||◌, List, [], ◌∷◌, map, filter, if◌then◌else◌, refl, sym, subst, nat_le, arith}
use Rattle.std.specs.Int.RustNames.{count_ones}
use Rattle.std.specs.List.{AllByRecursion, list_any}
use Rattle.std.proofs.lemmas.Bool.{or_parts, true≢false}
use Rattle.std.proofs.lemmas.Bool.Decides.{nat_tests}
use Rattle.scr_num.specs.Rounding.{Ends}
use Rattle.scr_agg.specs.Unbeaten.{HasSeveral}
use Rattle.scr_factors.specs.Values.{FactorValues}
use Rattle.scr_sheet.specs.Validity.{Valid}
use Rattle.scr_sheet.specs.declared.sheet.BalanceSheet.{BalanceSheet}
use Rattle.scr_nodes.specs.declared.node.Node.{Node}
use Rattle.scr_nodes.specs.Sources.{sources_of}
use Rattle.scr_rules.specs.Close.{close_under, is_open, is_open_choice}
use Rattle.scr_rules.specs.Rules.{amount_of}
use Rattle.scr_rules.proofs.Equations.{close-equation}

-- a mask that is not open has fewer than two bits
few-bits : (n : ℕ) → nat_le 2 n ≡ false → 2 ≤ n → ⊥
few-bits n e h = grind (arith, nat_tests)

pub not-several : (mask : Ends) → is_open mask ≡ false → HasSeveral (amount_of mask) → ⊥
not-several mask e h = few-bits (count_ones (amount_of mask)) e h

-- of the rows that pass a test
pub each-passing : {Row : Type 0} (P : Node → Type 0) (node_of : Row → Node) (test : Row → Bool) (rows : List Row)
    → AllByRecursion P (map node_of (filter test rows)) → AllByRecursion (λ row. test row ≡ true → P (node_of row)) rows
each-passing P node_of test [] all = tt
each-passing P node_of test (row ∷ rows) all = by (test row) refl all (λ rest. each-passing P node_of test rows rest)
  where
    by : (b : Bool) → test row ≡ b
        → AllByRecursion P (map node_of (if b then row ∷ filter test rows else filter test rows))
        → (AllByRecursion P (map node_of (filter test rows)) → AllByRecursion (λ r. test r ≡ true → P (node_of r)) rows)
        → (test row ≡ true → P (node_of row)) × AllByRecursion (λ r. test r ≡ true → P (node_of r)) rows
    by true e h later = (λ passes. h.0, later h.1)
    by false e h later = (λ passes. absurd (true≢false (sym passes ∙ e)), later h)

module _ (factors : FactorValues) (sheet : BalanceSheet) (valid : Valid sheet) where
  abbrev pub Clear : Node → Type 0
  Clear node = close_under factors sheet node ≡ false

  parts-of : (node : Node) → Clear node
      → (is_open_choice factors sheet node ≡ false)
      × (list_any (λ b. b) (map (close_under factors sheet) (sources_of sheet node)) ≡ false)
  parts-of node clear = or_parts _ _ (sym (close-equation factors sheet valid node) ∙ clear)

  -- it is no open choice, and its sources rest on none
  pub clear-choice : (node : Node) → Clear node → is_open_choice factors sheet node ≡ false
  clear-choice node clear = (parts-of node clear).0

  pub clear-sources : (node : Node) → Clear node → AllByRecursion Clear (sources_of sheet node)
  clear-sources node clear = none-of (sources_of sheet node) (parts-of node clear).1
    where
      none-of : (list : List Node) → list_any (λ b. b) (map (close_under factors sheet) list) ≡ false
          → AllByRecursion Clear list
      none-of [] e = tt
      none-of (n ∷ list) e =
          let both = or_parts (close_under factors sheet n) (list_any (λ b. b) (map (close_under factors sheet) list)) e in
          (both.0, none-of list both.1)
