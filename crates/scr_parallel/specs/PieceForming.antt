-- Nodes none of which is reckoned from another form a round of a board.
use Rattle.std.proofs.Common.{◌≡◌, ℕ, zero, suc, ◌+◌, ◌<◌, ◌≤◌, ◌≢◌, ◌⊎◌, ◌^◌, true, false, nat_eq, List, [], Some, length, map, slice_get, slice_index_or, pos, refl, sym, ap, ◌∙◌, inl, inr, arith}
use Rattle.std.specs.Prelude.{replicate}
use Rattle.std.proofs.lemmas.Bool.Decides.{eqb_tells}
use Rattle.std.specs.List.{AllByRecursion, range_with_len}
use Rattle.scr_num.specs.Rounding.{exact_ends}
use Rattle.scr_board.specs.Counts.{one_if, times}
use Rattle.scr_board.specs.Rounds.{IsFormed}
use Rattle.scr_board.proofs.Members.{other_number}
use Rattle.scr_board.specs.BoardRounds.{IsBoardRound, IsRoundWorked, Spot, lists_of, nodes_in}
use Rattle.scr_parallel.specs.Apart.{AreStarts, apart_round}

-- ---- numbers one after another

numbers-low : (k from many : ℕ) → k < from → times k (range_with_len from many) ≡ 0
numbers-low k from zero low = refl
numbers-low k from (suc many) low =
    let here : one_if (nat_eq k from) ≡ 0 = ap one_if (other_number k from (λ e. omega (arith, e, low))) in
    let more = numbers-low k (from + 1) many (omega (arith, low)) in
    omega (arith, here, more)

numbers-below : (k from many : ℕ) → 0 < times k (range_with_len from many) → k < from + many
numbers-below k from zero some = absurd (omega (arith, some))
numbers-below k from (suc many) some = by (eqb_tells k from) (λ h. numbers-below k (from + 1) many h)
  where
    by : ((nat_eq k from ≡ true) × (k ≡ from)) ⊎ ((nat_eq k from ≡ false) × (k ≢ from))
        → (0 < times k (range_with_len (from + 1) many) → k < from + 1 + many) → k < from + suc many
    by (inl t) on = let same = t.1 in omega (arith, same)
    by (inr f) on =
        let here : one_if (nat_eq k from) ≡ 0 = ap one_if f.0 in
        let more = on (omega (arith, some, here)) in
        omega (arith, more)

numbers-once : (k from many : ℕ) → times k (range_with_len from many) ≤ 1
numbers-once k from zero = omega arith
numbers-once k from (suc many) = by (eqb_tells k from) (numbers-once k (from + 1) many)
  where
    by : ((nat_eq k from ≡ true) × (k ≡ from)) ⊎ ((nat_eq k from ≡ false) × (k ≢ from))
        → times k (range_with_len (from + 1) many) ≤ 1 → times k (range_with_len from (suc many)) ≤ 1
    by (inl t) on =
        let here : one_if (nat_eq k from) ≡ 1 = ap one_if t.0 in
        let same = t.1 in
        let more = numbers-low k (from + 1) many (omega (arith, same)) in
        omega (arith, here, more)
    by (inr f) on = let here : one_if (nat_eq k from) ≡ 0 = ap one_if f.0 in omega (arith, here, on)

numbers-in : (k from many : ℕ) → from ≤ k → k < from + many → times k (range_with_len from many) ≡ 1
numbers-in k from zero high low = absurd (omega (arith, high, low))
numbers-in k from (suc many) high low = by (eqb_tells k from) (λ h l. numbers-in k (from + 1) many h l)
  where
    by : ((nat_eq k from ≡ true) × (k ≡ from)) ⊎ ((nat_eq k from ≡ false) × (k ≢ from))
        → (from + 1 ≤ k → k < from + 1 + many → times k (range_with_len (from + 1) many) ≡ 1) → times k (range_with_len from (suc many)) ≡ 1
    by (inl t) on =
        let here : one_if (nat_eq k from) ≡ 1 = ap one_if t.0 in
        let same = t.1 in
        let more = numbers-low k (from + 1) many (omega (arith, same)) in
        omega (arith, here, more)
    by (inr f) on =
        let here : one_if (nat_eq k from) ≡ 0 = ap one_if f.0 in
        let ne = f.1 in
        let more = on (omega (arith, high, ne)) (omega (arith, low)) in
        omega (arith, here, more)

-- ---- lists of one thing

abbrev no_spots : List Spot
no_spots = []

abbrev no_numbers : List ℕ
no_numbers = []

pub long-same : {A : Type 0} (x : A) (many : ℕ) → length (replicate many x) ≡ many
long-same x zero = refl
long-same x (suc many) = let more = long-same x many in omega (arith, more)

pub got-same : {A : Type 0} (x : A) (many k : ℕ) → k < many → slice_get (replicate many x) k ≡ Some x
got-same x zero k low = absurd (omega (arith, low))
got-same x (suc many) zero low = refl
got-same x (suc many) (suc k) low = got-same x many k (omega (arith, low))

pub long-places : (many : ℕ) → length (apart_round many).places ≡ many
long-places many = long-same no_spots many

each-empty : (A : Type 0) (many : ℕ) → AllByRecursion (λ (row : List A). length row < 2 ^ 32) (replicate many [])
each-empty A zero = tt
each-empty A (suc many) = (omega arith, each-empty A many)

no-sources : (many k : ℕ) → slice_index_or (map nodes_in (replicate many [])) k [] ≡ []
no-sources zero k = refl
no-sources (suc many) zero = refl
no-sources (suc many) (suc k) = no-sources many k

pub no-dependants : (many k : ℕ) → slice_index_or (replicate many no_numbers) k no_numbers ≡ no_numbers
no-dependants zero k = refl
no-dependants (suc many) zero = refl
no-dependants (suc many) (suc k) = no-dependants many k

long-nodes : (many : ℕ) → length (map nodes_in (replicate many [])) ≡ many
long-nodes zero = refl
long-nodes (suc many) = let more = long-nodes many in omega (arith, more)

-- ---- the round

apart-formed : (many : ℕ) → IsFormed (lists_of (apart_round many))
apart-formed many = record {
  within = λ n m h. absurd (none n m h);
  once = λ n m. let zero = no-times n m in omega (arith, zero);
  pairs = λ n m. ap (times n) (no-dependants many m) ∙ sym (ap (times m) (no-sources many n));
  low = λ n h. let long = long-nodes many in let low = numbers-below n 0 many h in omega (arith, long, low);
  single = λ n. numbers-once n 0 many;
  free = λ n h. no-sources many n;
  begins = λ n low free. let long = long-nodes many in let one = numbers-in n 0 many (omega arith) (omega (arith, low, long)) in omega (arith, one);
  rank = λ n. 0;
  falls = λ n m h. absurd (none n m h);
}
  where
    no-times : (n m : ℕ) → times m (slice_index_or (map nodes_in (replicate many [])) n []) ≡ 0
    no-times n m = ap (times m) (no-sources many n)

    none : (n m : ℕ) → 0 < times m (slice_index_or (map nodes_in (replicate many [])) n []) → ⊥
    none n m h = let zero = no-times n m in omega (arith, h, zero)

pub apart-forms : (starts : List ℕ) → AreStarts starts → IsBoardRound (apart_round (length starts))
apart-forms starts is =
    let many = length starts in
    let places = long-same no_spots many in
    let few = is.few in
    record {
      form = apart-formed many;
      long = let figures = long-same (exact_ends (pos 0)) many in omega (arith, figures, places);
      known = let rows = long-same no_numbers many in omega (arith, rows, places);
      few = omega (arith, few, places);
      few_places = each-empty Spot many;
      few_dependants = each-empty ℕ many;
    }

pub apart-worked : (starts : List ℕ) → AreStarts starts → IsRoundWorked (λ n got. exact_ends (pos 0)) (apart_round (length starts))
apart-worked starts is = λ n got low given.
    let places = long-same no_spots (length starts) in
    got-same (exact_ends (pos 0)) (length starts) n (omega (arith, low, places))
