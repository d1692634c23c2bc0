-- How far apart the ends are of sums over the rows that pass a test, of what absorption leaves, and of a root.
use Rattle.std.proofs.Common.{◌≡◌, ℕ, suc, ◌+◌, ◌*◌, ◌/◌, ◌<◌, ◌≤◌, Bool, true, false, ◌&&◌, List, [], ◌∷◌, ◌++◌, map, filter, length, sum_by, if◌then◌else◌, pos, refl, sym, subst, arith, lit<}
use Rattle.std.specs.Prelude.{count_by}
use Rattle.std.specs.List.{AllByRecursion}
use native.Mathlib.Nat.{mul-div-le}
use Rattle.std.proofs.lemmas.List.Sums.{sum_by-cons}
use Rattle.scr_num.specs.Amounts.{AreAmounts}
use Rattle.scr_num.specs.Narrow.{IsNarrow, AreNarrow}
use Rattle.scr_num.specs.Rounding.{Ends, exact_ends, add_ends, sub_ends, quad_ends}
use Rattle.scr_num.specs.Sums.{sum_ends}
use Rattle.scr_num.proofs.Spreads.{narrow-wider, narrow-exact, narrow-add, narrow-sub, narrow-max}
use Rattle.scr_num.proofs.SumLemmas.{sum_ends-append}
use Rattle.scr_agg.specs.Absorbed.{net_ends}
use Rattle.scr_agg.specs.Correlated.{table_of, SpreadsBy}
use Rattle.scr_profile.specs.declared.matrix.Matrix.{Matrix}
use Rattle.scr_nodes.specs.declared.node.Node.{Node}

-- a number that is known
pub narrow-known : (w : ℕ) (e : Ends) → IsNarrow 0 e → IsNarrow w e
narrow-known w e h = narrow-wider 0 w e (omega arith) h

pub narrow-number : (w n : ℕ) → IsNarrow w (exact_ends (pos n))
narrow-number w n = narrow-known w (exact_ends (pos n)) (narrow-exact (pos n))

-- less a number, or more by it
pub narrow-less : (w n : ℕ) (e : Ends) → IsNarrow w e → IsNarrow w (sub_ends e (exact_ends (pos n)))
narrow-less w n e h =
    narrow-wider (w + 0) w (sub_ends e (exact_ends (pos n))) (omega arith)
    (narrow-sub w 0 e (exact_ends (pos n)) h (narrow-exact (pos n)))

pub narrow-from : (w n : ℕ) (e : Ends) → IsNarrow w e → IsNarrow w (sub_ends (exact_ends (pos n)) e)
narrow-from w n e h =
    narrow-wider (0 + w) w (sub_ends (exact_ends (pos n)) e) (omega arith)
    (narrow-sub 0 w (exact_ends (pos n)) e (narrow-exact (pos n)) h)

pub narrow-more : (w n : ℕ) (e : Ends) → IsNarrow w e → IsNarrow w (add_ends e (exact_ends (pos n)))
narrow-more w n e h =
    narrow-wider (w + 0) w (add_ends e (exact_ends (pos n))) (omega arith)
    (narrow-add w 0 e (exact_ends (pos n)) h (narrow-exact (pos n)))

-- what absorption leaves
pub narrow-net : (w absorb : ℕ) (e : Ends) → IsNarrow w e → IsNarrow w (net_ends e absorb)
narrow-net w absorb e h =
    narrow-max w (exact_ends (pos 0)) (sub_ends e (exact_ends (pos (1000 * absorb)))) (narrow-number w 0)
    (narrow-less w (1000 * absorb) e h)

-- a root over a table, with what is stated of it
pub narrow-root_of : (k : ℕ) (m : Matrix) → SpreadsBy k m → (mosts widths : List ℕ) (parts : List Ends)
    → length parts ≡ m.n → AreAmounts mosts parts → AreNarrow widths parts
    → (stated : ℕ) → k * sum_by (λ w. w) widths + 1 ≤ stated → IsNarrow stated (quad_ends parts (table_of m))
narrow-root_of k m spreads mosts widths parts count h g stated le =
    narrow-wider (k * sum_by (λ w. w) widths + 1) stated (quad_ends parts (table_of m)) le
    (spreads mosts widths parts count h g)

-- ---- sums
pub narrow-append : (v w : ℕ) (xs ys : List Ends) → IsNarrow v (sum_ends xs) → IsNarrow w (sum_ends ys)
    → IsNarrow (v + w) (sum_ends (xs ++ ys))
narrow-append v w xs ys h k =
    subst (IsNarrow (v + w)) (sym (sum_ends-append xs ys)) (narrow-add v w (sum_ends xs) (sum_ends ys) h k)

module _ {Row : Type 0} (figure : Node → Ends) (node_of : Row → Node) where
  -- of the rows that pass a test
  pub narrow-rows : (test : Row → Bool) (w : Row → ℕ) (rows : List Row)
      → AllByRecursion (λ row. test row ≡ true → IsNarrow (w row) (figure (node_of row))) rows
      → IsNarrow (sum_by (λ row. if test row then w row else 0) rows) (sum_ends (map figure (map node_of (filter test rows))))
  narrow-rows test w [] each = narrow-exact (pos 0)
  narrow-rows test w (row ∷ rows) each =
      by (test row) each.0 (narrow-rows test w rows each.1) (sum_by-cons (λ (r : Row). if test r then w r else 0) row rows)
    where
      by : (b : Bool) → (b ≡ true → IsNarrow (w row) (figure (node_of row)))
          → IsNarrow (sum_by (λ r. if test r then w r else 0) rows) (sum_ends (map figure (map node_of (filter test rows))))
          → sum_by (λ r. if test r then w r else 0) (row ∷ rows)
          ≡ (if b then w row else 0) + sum_by (λ r. if test r then w r else 0) rows
          → IsNarrow (sum_by (λ r. if test r then w r else 0) (row ∷ rows))
          (sum_ends (map figure (map node_of (if b then row ∷ filter test rows else filter test rows))))
      by true h later is =
          subst (λ n. IsNarrow n (add_ends (figure (node_of row)) (sum_ends (map figure (map node_of (filter test rows))))))
          (sym is)
          (narrow-add (w row) _ (figure (node_of row)) (sum_ends (map figure (map node_of (filter test rows)))) (h refl) later)
      by false h later is =
          narrow-wider _ _ (sum_ends (map figure (map node_of (filter test rows)))) (omega (arith, is)) later

  -- of all rows
  pub narrow-all : (w : Row → ℕ) (rows : List Row) → AllByRecursion (λ row. IsNarrow (w row) (figure (node_of row))) rows
      → IsNarrow (sum_by w rows) (sum_ends (map figure (map node_of rows)))
  narrow-all w [] each = narrow-exact (pos 0)
  narrow-all w (row ∷ rows) each =
      subst (λ n. IsNarrow n (add_ends (figure (node_of row)) (sum_ends (map figure (map node_of rows)))))
      (sym (sum_by-cons w row rows))
      (narrow-add (w row) (sum_by w rows) (figure (node_of row)) (sum_ends (map figure (map node_of rows))) each.0
      (narrow-all w rows each.1))

-- figures that are known, one by one and in sum
pub each-figure : (figure : Node → Ends) (P : Ends → Type 0) (list : List Node) → AllByRecursion (λ n. P (figure n)) list
    → AllByRecursion P (map figure list)
each-figure figure P [] all = tt
each-figure figure P (n ∷ list) all = (all.0, each-figure figure P list all.1)

-- ---- sums of numbers

-- a multiple of each, and one more
pub sum-and-ones : {X : Type 0} (n : ℕ) (f : X → ℕ) (xs : List X)
    → sum_by (λ x. n * f x + 1) xs ≡ n * sum_by f xs + length xs
sum-and-ones n f [] = omega arith
sum-and-ones {X} n f (x ∷ xs) =
    by (f x) (sum_by f xs) _ _ (sum_by-cons f x xs) (sum_by-cons (λ (y : X). n * f y + 1) x xs) (sum-and-ones n f xs)
  where
    by : (a b s t : ℕ) → s ≡ a + b → t ≡ n * a + 1 + sum_by (λ y. n * f y + 1) xs
        → sum_by (λ y. n * f y + 1) xs ≡ n * b + length xs → t ≡ n * s + suc (length xs)
    by a b s t e g h = rw e (omega (arith, g, h))

-- a share of each that passes a test, and two more
pub shares-within : {X : Type 0} (d : ℕ) (test : X → Bool) (f : X → ℕ) (xs : List X)
    → d * sum_by (λ x. if test x then f x / d + 2 else 0) xs ≤ sum_by f xs + d * (2 * count_by test xs)
shares-within d test f [] = omega arith
shares-within {X} d test f (x ∷ xs) =
    by (test x) _ _ _ _ _ _ (sum_by-cons f x xs) (sum_by-cons (λ (y : X). if test y then f y / d + 2 else 0) x xs)
    (sum_by-cons (λ (y : X). if test y then 1 else 0) x xs) (shares-within d test f xs)
  where
    by : (b : Bool) (s t c a u e : ℕ) → s ≡ f x + a → t ≡ (if b then f x / d + 2 else 0) + u → c ≡ (if b then 1 else 0) + e
        → d * u ≤ a + d * (2 * e) → d * t ≤ s + d * (2 * c)
    by true s t c a u e h k l le =
        let part : d * (f x / d) ≤ f x = mul-div-le (f x) d in
        rw (h, k, l) (omega (arith, le, part))
    by false s t c a u e h k l le = rw (h, k, l) (omega (arith, le))

pub less-one : (b c : Bool) (n : ℕ) → (if b && c then n else 0) ≤ (if b then n else 0)
less-one true true n = omega arith
less-one true false n = omega arith
less-one false c n = omega arith

pub at-most : (b : Bool) (n : ℕ) → (if b then n else 0) ≤ n
at-most true n = omega arith
at-most false n = omega arith
