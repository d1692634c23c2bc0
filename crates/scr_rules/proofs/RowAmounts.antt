-- Sums of the figures of rows that pass a test: how large they are.
use Rattle.std.proofs.Common.{◌≡◌, ℕ, ◌+◌, Bool, true, false, List, [], ◌∷◌, map, filter, sum_by, if◌then◌else◌, ◌≤ℤ◌, refl, sym, subst, arith}
use Rattle.std.specs.List.{AllByRecursion}
use Rattle.std.proofs.lemmas.Int.{ints}
use Rattle.std.proofs.lemmas.List.Sums.{sum_by-cons}
use Rattle.scr_num.specs.Amounts.{IsAmount}
use Rattle.scr_num.specs.Fraction.{Fraction, over}
use Rattle.scr_num.specs.Figure.{Frac, AtMost}
use Rattle.scr_num.specs.Enclosure.{Encloses}
use Rattle.scr_num.specs.Rounding.{Ends, add_ends}
use Rattle.scr_num.specs.Sizes.{IsWithin}
use Rattle.scr_num.specs.Sums.{sum_ends}
use Rattle.scr_num.proofs.AmountBounds.{amount-exact, amount-add, amount-wider}
use Rattle.scr_num.proofs.Fractions.{≼_trans}
use Rattle.scr_nodes.specs.declared.node.Node.{Node}

-- the ends enclose the fraction
abbrev pub Enclosed : ℕ → Ends → Fraction → Type 0
Enclosed unit e p = Encloses unit e.low e.high (Frac p)

-- an amount is within its size
pub amount-within : (most : ℕ) (e : Ends) → IsAmount most e → IsWithin most e
amount-within most e h = record { low = h.low_size; high = h.high_size }

-- the low end of what encloses a fraction is not above the high one
pub enclosed-ordered : (e : Ends) (p : Fraction) → Encloses 1_000_000_000_000_000_000 e.low e.high (Frac p) → e.low ≤ℤ e.high
unfolding AtMost
enclosed-ordered e p h =
    let across = (≼_trans (over e.low 1_000_000_000_000_000_000 h.positive) p (over e.high 1_000_000_000_000_000_000 h.positive) h.at_most h.at_least).cross in
    omega (arith, ints, across)

module _ {Row : Type 0} (figure : Node → Ends) (node_of : Row → Node) (test : Row → Bool) where
  -- the sum is an amount of at most the sum
  pub rows-amount : (most : Row → ℕ) (rows : List Row) → AllByRecursion (λ row. test row ≡ true → IsAmount (most row) (figure (node_of row))) rows
      → IsAmount (sum_by (λ row. if test row then most row else 0) rows) (sum_ends (map figure (map node_of (filter test rows))))
  rows-amount most [] each = amount-exact 0 0 (omega arith)
  rows-amount most (row ∷ rows) each = by (test row) each.0 (rows-amount most rows each.1) (sum_by-cons (λ (r : Row). if test r then most r else 0) row rows)
    where
      by : (b : Bool) → (b ≡ true → IsAmount (most row) (figure (node_of row))) → IsAmount (sum_by (λ r. if test r then most r else 0) rows) (sum_ends (map figure (map node_of (filter test rows))))
          → sum_by (λ r. if test r then most r else 0) (row ∷ rows) ≡ (if b then most row else 0) + sum_by (λ r. if test r then most r else 0) rows
          → IsAmount (sum_by (λ r. if test r then most r else 0) (row ∷ rows)) (sum_ends (map figure (map node_of (if b then row ∷ filter test rows else filter test rows))))
      by true h later is =
          subst (λ n. IsAmount n (add_ends (figure (node_of row)) (sum_ends (map figure (map node_of (filter test rows)))))) (sym is)
          (amount-add (most row) _ (figure (node_of row)) (sum_ends (map figure (map node_of (filter test rows)))) (h refl) later)
      by false h later is = amount-wider _ _ (sum_ends (map figure (map node_of (filter test rows)))) (omega (arith, is)) later
