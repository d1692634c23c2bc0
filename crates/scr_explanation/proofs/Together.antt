-- Bounds added up, one after another.
use Rattle.std.proofs.Common.{◌≡◌, ◌∙◌, ℕ, ◌+◌, ◌*◌, ◌<◌, ◌≤◌, ℤ, ◌+ℤ◌, true, List, drop, get_or, length, ap, ap₂, sym, arith, nat_le, unsigned_abs}
use Rattle.std.proofs.lemmas.Bool.{and_parts, leb-true, true_from_ne_false, true≢false}
use Rattle.std.proofs.lemmas.Int.{ints}
use Rattle.std.proofs.lemmas.List.{drop_more}
use Rattle.std.proofs.lemmas.List.Folds.{list_all_at}
use Rattle.std.specs.List.{list_all}
use Rattle.scr_explanation.specs.Taken.{added, is_moderate, together}
use Rattle.scr_amounts.specs.declared.bounds.Bounds.{Bounds}

-- bounds are the same end by end
pub same_bounds : (a b c d : ℤ) → a ≡ c → b ≡ d
    → ◌≡◌ {A = Bounds} (record { low = a; high = b }) (record { low = c; high = d })
same_bounds a b c d e f = ap₂ (λ (x : ℤ) (y : ℤ). let r : Bounds = record { low = x; high = y } in r) e f

-- a term goes from the rest to the sum
moved : (sum term next rest before total : ℤ) → next ≡ sum +ℤ term → before ≡ term +ℤ rest
    → sum +ℤ before ≡ total → next +ℤ rest ≡ total
moved sum term next rest before total is split so_far = omega (arith, ints)

-- each term is moderate, and so many are in the sum
sized : (sum term next : ℤ) (k most : ℕ) → next ≡ sum +ℤ term → unsigned_abs sum ≤ k * most → unsigned_abs term ≤ most
    → unsigned_abs next ≤ (k + 1) * most
sized sum term next k most is so_far one = omega (arith, ints)

-- moderate bounds are so at both ends
both : (b : Bounds) → is_moderate b ≡ true
    → (nat_le (unsigned_abs b.low) 1_000_000_000_000_000_000_000_000_000_000 ≡ true)
    × (nat_le (unsigned_abs b.high) 1_000_000_000_000_000_000_000_000_000_000 ≡ true)
both b moderate =
    and_parts (nat_le (unsigned_abs b.low) 1_000_000_000_000_000_000_000_000_000_000)
    (nat_le (unsigned_abs b.high) 1_000_000_000_000_000_000_000_000_000_000) moderate

module _ (parts : List Bounds) (k : ℕ) (d : Bounds) (within : k < length parts) where
  -- from a place on: the bounds there, and those after it
  low-from : (together (drop k parts)).low ≡ (get_or parts k d).low +ℤ (together (drop (k + 1) parts)).low
  low-from = ap (λ (list : List Bounds). (together list).low) (drop_more parts k d within)

  high-from : (together (drop k parts)).high ≡ (get_or parts k d).high +ℤ (together (drop (k + 1) parts)).high
  high-from = ap (λ (list : List Bounds). (together list).high) (drop_more parts k d within)

  -- each is moderate
  passes : list_all is_moderate parts ≡ true → is_moderate (get_or parts k d) ≡ true
  passes all =
      true_from_ne_false (is_moderate (get_or parts k d))
      (λ fails. true≢false (sym all ∙ list_all_at is_moderate parts k d within fails))

  module _ (sum next : Bounds) (is : next ≡ added sum (get_or parts k d)) where
    pub low-more : sum.low +ℤ (together (drop k parts)).low ≡ (together parts).low
        → next.low +ℤ (together (drop (k + 1) parts)).low ≡ (together parts).low
    low-more so_far = moved _ _ _ _ _ _ (ap (λ (b : Bounds). b.low) is) low-from so_far

    pub high-more : sum.high +ℤ (together (drop k parts)).high ≡ (together parts).high
        → next.high +ℤ (together (drop (k + 1) parts)).high ≡ (together parts).high
    high-more so_far = moved _ _ _ _ _ _ (ap (λ (b : Bounds). b.high) is) high-from so_far

    pub low-size : list_all is_moderate parts ≡ true
        → unsigned_abs sum.low ≤ k * 1_000_000_000_000_000_000_000_000_000_000
        → unsigned_abs next.low ≤ (k + 1) * 1_000_000_000_000_000_000_000_000_000_000
    low-size all so_far =
        sized sum.low (get_or parts k d).low next.low k 1_000_000_000_000_000_000_000_000_000_000 (ap (λ (b : Bounds). b.low) is)
        so_far (leb-true _ _ (both (get_or parts k d) (passes all)).0)

    pub high-size : list_all is_moderate parts ≡ true
        → unsigned_abs sum.high ≤ k * 1_000_000_000_000_000_000_000_000_000_000
        → unsigned_abs next.high ≤ (k + 1) * 1_000_000_000_000_000_000_000_000_000_000
    high-size all so_far =
        sized sum.high (get_or parts k d).high next.high k 1_000_000_000_000_000_000_000_000_000_000 (ap (λ (b : Bounds). b.high) is)
        so_far (leb-true _ _ (both (get_or parts k d) (passes all)).1)
