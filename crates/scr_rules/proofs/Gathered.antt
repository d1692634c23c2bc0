-- The figures of the rows of a table that pass a test: how large they are together, and what they sum to.
use Rattle.std.proofs.Common.{◌≡◌, ℕ, ◌+◌, ◌≤◌, Bool, true, false, List, [], ◌∷◌, ◌++◌, map, filter, sum_by, if◌then◌else◌, unsigned_abs, pos, ◌+ℤ◌, refl, ap, ap₂, sym, ◌∙◌, arith}
use Rattle.std.specs.List.{AllByRecursion}
use Rattle.std.proofs.lemmas.Int.{ints}
use Rattle.std.proofs.lemmas.List.Sums.{sum_by-cons, sum_by-append}
use Rattle.scr_num.specs.Rounding.{Ends, exact_ends, add_ends}
use Rattle.scr_num.specs.Sizes.{IsWithin, AreTogether}
use Rattle.scr_num.specs.Sums.{sum_ends}
use Rattle.scr_nodes.specs.declared.node.Node.{Node}

-- ---- how large they are together
pub together-none : (most : ℕ) → AreTogether most []
together-none most = record { lows = omega arith; highs = omega arith }

together-more : (m n k : ℕ) (e : Ends) (es : List Ends) → IsWithin m e → AreTogether n es → m + n ≡ k → AreTogether k (e ∷ es)
together-more m n k e es h rest is = record {
  lows = omega (arith, h.low, rest.lows, is, sum_by-cons (λ (f : Ends). unsigned_abs f.low) e es);
  highs = omega (arith, h.high, rest.highs, is, sum_by-cons (λ (f : Ends). unsigned_abs f.high) e es);
}

pub together-wider : (m n : ℕ) (es : List Ends) → m ≤ n → AreTogether m es → AreTogether n es
together-wider m n es le h = record { lows = omega (arith, le, h.lows); highs = omega (arith, le, h.highs) }

pub together-append : (m n : ℕ) (xs ys : List Ends) → AreTogether m xs → AreTogether n ys → AreTogether (m + n) (xs ++ ys)
together-append m n xs ys h k = record {
  lows = omega (arith, h.lows, k.lows, sum_by-append (λ (f : Ends). unsigned_abs f.low) xs ys);
  highs = omega (arith, h.highs, k.highs, sum_by-append (λ (f : Ends). unsigned_abs f.high) xs ys);
}

module _ {Row : Type 0} (figure : Node → Ends) (node_of : Row → Node) where
  -- of each row that passes the test
  pub rows-together : (test : Row → Bool) (most : Row → ℕ) (rows : List Row) → AllByRecursion (λ row. test row ≡ true → IsWithin (most row) (figure (node_of row))) rows
      → AreTogether (sum_by (λ row. if test row then most row else 0) rows) (map figure (map node_of (filter test rows)))
  rows-together test most [] each = together-none 0
  rows-together test most (row ∷ rows) each = by (test row) each.0 (rows-together test most rows each.1) (sum_by-cons (λ (r : Row). if test r then most r else 0) row rows)
    where
      rest : ℕ
      rest = sum_by (λ r. if test r then most r else 0) rows

      by : (b : Bool) → (b ≡ true → IsWithin (most row) (figure (node_of row))) → AreTogether (sum_by (λ r. if test r then most r else 0) rows) (map figure (map node_of (filter test rows)))
          → sum_by (λ r. if test r then most r else 0) (row ∷ rows) ≡ (if b then most row else 0) + sum_by (λ r. if test r then most r else 0) rows
          → AreTogether (sum_by (λ r. if test r then most r else 0) (row ∷ rows)) (map figure (map node_of (if b then row ∷ filter test rows else filter test rows)))
      by true h later is = together-more (most row) _ _ (figure (node_of row)) _ (h refl) later (sym is)
      by false h later is = together-wider _ _ _ (omega (arith, is)) later

  -- of each row
  pub all-together : (most : Row → ℕ) (rows : List Row) → AllByRecursion (λ row. IsWithin (most row) (figure (node_of row))) rows
      → AreTogether (sum_by most rows) (map figure (map node_of rows))
  all-together most [] each = together-none 0
  all-together most (row ∷ rows) each =
      together-more (most row) _ _ (figure (node_of row)) _ each.0 (all-together most rows each.1) (sym (sum_by-cons most row rows))

  -- ---- what exact figures sum to
  pub rows-sum : (test : Row → Bool) (cents : Row → ℕ) (rows : List Row) → AllByRecursion (λ row. figure (node_of row) ≡ exact_ends (pos (cents row))) rows
      → sum_ends (map figure (map node_of (filter test rows))) ≡ exact_ends (pos (sum_by (λ row. if test row then cents row else 0) rows))
  rows-sum test cents [] each = refl
  rows-sum test cents (row ∷ rows) each = by (test row) each.0 (rows-sum test cents rows each.1) (sum_by-cons (λ (r : Row). if test r then cents r else 0) row rows)
    where
      by : (b : Bool) → figure (node_of row) ≡ exact_ends (pos (cents row))
          → sum_ends (map figure (map node_of (filter test rows))) ≡ exact_ends (pos (sum_by (λ r. if test r then cents r else 0) rows))
          → sum_by (λ r. if test r then cents r else 0) (row ∷ rows) ≡ (if b then cents row else 0) + sum_by (λ r. if test r then cents r else 0) rows
          → sum_ends (map figure (map node_of (if b then row ∷ filter test rows else filter test rows))) ≡ exact_ends (pos (sum_by (λ r. if test r then cents r else 0) (row ∷ rows)))
      by true here later is = ap₂ add_ends here later ∙ ap exact_ends (added (cents row) _ _ is)
        where
          added : (a b c : ℕ) → c ≡ a + b → pos a +ℤ pos b ≡ pos c
          added a b c e = omega (arith, ints, e)
      by false here later is = later ∙ ap (λ n. exact_ends (pos n)) (same is)
        where
          same : sum_by (λ r. if test r then cents r else 0) (row ∷ rows) ≡ 0 + sum_by (λ r. if test r then cents r else 0) rows
              → sum_by (λ r. if test r then cents r else 0) rows ≡ sum_by (λ r. if test r then cents r else 0) (row ∷ rows)
          same e = omega (arith, e)
