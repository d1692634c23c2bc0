-- What the sums of the figures of rows that pass a test enclose: a sum over the rows that pass another, where what is left out is
-- nothing, and over the same.
use Rattle.std.proofs.Common.{◌≡◌, ℕ, ◌<◌, Bool, true, false, List, [], ◌∷◌, map, filter, if◌then◌else◌, pos, refl, subst}
use Rattle.std.specs.List.{AllByRecursion}
use Rattle.scr_num.specs.Fraction.{Fraction, zero_fraction, plus}
use Rattle.scr_num.specs.Figure.{Frac}
use Rattle.scr_num.specs.Rounding.{Ends, exact_ends, add_ends}
use Rattle.scr_num.specs.Sums.{sum_ends}
use Rattle.scr_num.proofs.AddedEnds.{zero-add_ends}
use Rattle.scr_num.proofs.Enclosing.{Encloses-add, Encloses-plus}
use Rattle.scr_num.proofs.SumLemmas.{Encloses-zero}
use Rattle.scr_nodes.specs.declared.node.Node.{Node}
use Rattle.scr_rules.proofs.RowAmounts.{Enclosed}
use Rattle.scr_exact.specs.InterestExact.{sum_where}

module _ (unit : ℕ) (positive : 0 < unit) where
  pub sum-encloses : (a b : Ends) (p q : Fraction) → Enclosed unit a p → Enclosed unit b q → Enclosed unit (add_ends a b) (plus p q)
  sum-encloses a b p q h k = Encloses-plus unit _ _ p q (Encloses-add unit a.low a.high b.low b.high (Frac p) (Frac q) h k)

  module _ {Row : Type 0} (figure : Node → Ends) (node_of : Row → Node) (test counts : Row → Bool) (part : Row → Fraction) where
    -- what a row adds to the sum
    abbrev pub added : Row → Fraction
    added row = if counts row then part row else zero_fraction

    -- the figure of a row that passes the test encloses it, and of another there is nothing
    pub record IsRowEnclosed (row : Row) : Type 0 where
      pub passes : test row ≡ true → Enclosed unit (figure (node_of row)) (added row)
      pub fails : test row ≡ false → Enclosed unit (exact_ends (pos 0)) (added row)

    pub rows-enclose : (rows : List Row) → AllByRecursion IsRowEnclosed rows → Enclosed unit (sum_ends (map figure (map node_of (filter test rows)))) (sum_where counts part rows)
    rows-enclose [] each = Encloses-zero unit positive
    rows-enclose (row ∷ rows) each = by (test row) each.0.passes each.0.fails (rows-enclose rows each.1)
      where
        by : (b : Bool) → (b ≡ true → Enclosed unit (figure (node_of row)) (added row)) → (b ≡ false → Enclosed unit (exact_ends (pos 0)) (added row))
            → Enclosed unit (sum_ends (map figure (map node_of (filter test rows)))) (sum_where counts part rows)
            → Enclosed unit (sum_ends (map figure (map node_of (if b then row ∷ filter test rows else filter test rows)))) (plus (added row) (sum_where counts part rows))
        by true h k rest = sum-encloses (figure (node_of row)) (sum_ends (map figure (map node_of (filter test rows)))) (added row) (sum_where counts part rows) (h refl) rest
        by false h k rest =
            subst (λ (e : Ends). Enclosed unit e (plus (added row) (sum_where counts part rows))) (zero-add_ends (sum_ends (map figure (map node_of (filter test rows)))))
            (sum-encloses (exact_ends (pos 0)) (sum_ends (map figure (map node_of (filter test rows)))) (added row) (sum_where counts part rows) (k refl) rest)

-- of the rows that pass, one part each
module _ {Row : Type 0} (figure : Node → Ends) (node_of : Row → Node) (test : Row → Bool) where
  pub where-encloses : (unit : ℕ) → 0 < unit → (part : Row → Fraction) (rows : List Row) → AllByRecursion (λ row. test row ≡ true → Enclosed unit (figure (node_of row)) (part row)) rows
      → Enclosed unit (sum_ends (map figure (map node_of (filter test rows)))) (sum_where test part rows)
  where-encloses unit positive part [] each = Encloses-zero unit positive
  where-encloses unit positive part (row ∷ rows) each = by (test row) each.0 (where-encloses unit positive part rows each.1)
    where
      by : (b : Bool) → (b ≡ true → Enclosed unit (figure (node_of row)) (part row)) → Enclosed unit (sum_ends (map figure (map node_of (filter test rows)))) (sum_where test part rows)
          → Enclosed unit (sum_ends (map figure (map node_of (if b then row ∷ filter test rows else filter test rows)))) (plus (if b then part row else zero_fraction) (sum_where test part rows))
      by true h later = sum-encloses unit positive (figure (node_of row)) (sum_ends (map figure (map node_of (filter test rows)))) (part row) (sum_where test part rows) (h refl) later
      by false h later =
          subst (λ (e : Ends). Enclosed unit e (plus zero_fraction (sum_where test part rows))) (zero-add_ends (sum_ends (map figure (map node_of (filter test rows)))))
          (sum-encloses unit positive (exact_ends (pos 0)) (sum_ends (map figure (map node_of (filter test rows)))) zero_fraction (sum_where test part rows) (Encloses-zero unit positive) later)
