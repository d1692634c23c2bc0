-- What the figures of the rows that pass a test come to together: how large their sum is, and what it is where each is
-- exact.
use Rattle.std.proofs.Common.{◌≡◌, ℕ, ◌+◌, ◌*◌, ◌≤◌, Bool, true, false, List, [], ◌∷◌, map, filter, sum_by, if◌then◌else◌, pos, ◌+ℤ◌, ◌≤ℤ◌, refl, ap, ap₂, sym, subst, ◌∙◌, arith}
use Rattle.std.specs.List.{AllByRecursion}
use Rattle.std.proofs.lemmas.Int.{ints}
use Rattle.std.proofs.lemmas.List.Sums.{sum_by-cons}
use Rattle.scr_num.specs.Amounts.{IsAmount}
use Rattle.scr_num.specs.Rounding.{Ends, exact_ends, add_ends}
use Rattle.scr_num.specs.Sizes.{IsWithin}
use Rattle.scr_num.specs.Sums.{sum_ends}
use Rattle.scr_num.proofs.AmountBounds.{amount-exact, amount-wider, amount-add}
use Rattle.scr_nodes.specs.declared.node.Node.{Node}

pub amount-within : (most : ℕ) (e : Ends) → IsAmount most e → IsWithin most e
amount-within most e h = record { low = h.low_size; high = h.high_size }

pub at-most : (b : Bool) (n : ℕ) → (if b then n else 0) ≤ n
at-most true n = omega arith
at-most false n = omega arith

-- a multiple of each row that passes
pub tested-times : {X : Type 0} (n : ℕ) (test : X → Bool) (f : X → ℕ) (xs : List X)
    → sum_by (λ x. if test x then n * f x else 0) xs ≡ n * sum_by (λ x. if test x then f x else 0) xs
tested-times n test f [] = omega arith
tested-times {X} n test f (x ∷ xs) =
    by (test x) _ _ _ _ (tested-times n test f xs) (sum_by-cons (λ (y : X). if test y then n * f y else 0) x xs) (sum_by-cons (λ (y : X). if test y then f y else 0) x xs)
  where
    by : (b : Bool) (s t rest more : ℕ) → rest ≡ n * more → s ≡ (if b then n * f x else 0) + rest → t ≡ (if b then f x else 0) + more → s ≡ n * t
    by true s t rest more e first second = first ∙ ap (λ (k : ℕ). n * f x + k) e ∙ shared (f x) more ∙ ap (λ (k : ℕ). n * k) (sym second)
      where
        shared : (a b : ℕ) → n * a + n * b ≡ n * (a + b)
        shared a b = omega arith
    by false s t rest more e first second = first ∙ none-plus rest ∙ e ∙ ap (λ (k : ℕ). n * k) (sym (second ∙ none-plus more))
      where
        none-plus : (a : ℕ) → 0 + a ≡ a
        none-plus a = omega arith

-- a multiple of each row
pub all-times : {X : Type 0} (n : ℕ) (f : X → ℕ) (xs : List X) → sum_by (λ x. n * f x) xs ≡ n * sum_by f xs
all-times n f xs = tested-times n (λ x. true) f xs

-- ---- ends in order
abbrev pub IsOrdered : Ends → Type 0
IsOrdered e = e.low ≤ℤ e.high

pub ordered-sum : (figure : Node → Ends) (list : List Node) → AllByRecursion (λ n. IsOrdered (figure n)) list → IsOrdered (sum_ends (map figure list))
ordered-sum figure [] all = omega (arith, ints)
ordered-sum figure (n ∷ list) all = plus (figure n) (sum_ends (map figure list)) all.0 (ordered-sum figure list all.1)
  where
    plus : (a b : Ends) → IsOrdered a → IsOrdered b → IsOrdered (add_ends a b)
    plus a b h k = omega (arith, ints, h, k)

module _ {Row : Type 0} (figure : Node → Ends) (node_of : Row → Node) where
  -- ---- of the rows that pass a test
  pub rows-amount : (test : Row → Bool) (most : Row → ℕ) (rows : List Row) → AllByRecursion (λ row. test row ≡ true → IsAmount (most row) (figure (node_of row))) rows
      → IsAmount (sum_by (λ row. if test row then most row else 0) rows) (sum_ends (map figure (map node_of (filter test rows))))
  rows-amount test most [] each = amount-exact 0 0 (omega arith)
  rows-amount test most (row ∷ rows) each = by (test row) each.0 (rows-amount test most rows each.1) (sum_by-cons (λ (r : Row). if test r then most r else 0) row rows)
    where
      by : (b : Bool) → (b ≡ true → IsAmount (most row) (figure (node_of row)))
          → IsAmount (sum_by (λ r. if test r then most r else 0) rows) (sum_ends (map figure (map node_of (filter test rows))))
          → sum_by (λ r. if test r then most r else 0) (row ∷ rows) ≡ (if b then most row else 0) + sum_by (λ r. if test r then most r else 0) rows
          → IsAmount (sum_by (λ r. if test r then most r else 0) (row ∷ rows)) (sum_ends (map figure (map node_of (if b then row ∷ filter test rows else filter test rows))))
      by true h later is =
          subst (λ (n : ℕ). IsAmount n (add_ends (figure (node_of row)) (sum_ends (map figure (map node_of (filter test rows)))))) (sym is)
          (amount-add _ _ (figure (node_of row)) (sum_ends (map figure (map node_of (filter test rows)))) (h refl) later)
      by false h later is = amount-wider _ _ (sum_ends (map figure (map node_of (filter test rows)))) (omega (arith, is)) later

  -- ---- of all rows, where each is exact
  pub all-sum : (count : Row → ℕ) (rows : List Row) → AllByRecursion (λ row. figure (node_of row) ≡ exact_ends (pos (count row))) rows
      → sum_ends (map figure (map node_of rows)) ≡ exact_ends (pos (sum_by count rows))
  all-sum count [] each = refl
  all-sum count (row ∷ rows) each =
      ap₂ add_ends each.0 (all-sum count rows each.1) ∙ ap exact_ends (added (count row) (sum_by count rows) (sum_by count (row ∷ rows)) (sum_by-cons count row rows))
    where
      added : (a b c : ℕ) → c ≡ a + b → pos a +ℤ pos b ≡ pos c
      added a b c e = omega (arith, ints, e)
