-- The first piece of a list that is cut at each item which passes a test.
use Rattle.std.proofs.Common.{◌≡◌, ℕ, ◌+◌, ◌<◌, Bool, true, false, cond, List, [], ◌∷◌, length, take, drop, get_or, Option, refl, ap, sym, ◌∙◌, arith, Some, None}
use Rattle.std.specs.Prelude.{position, nat_lt}
use Rattle.std.specs.List.{slice_split, position_or_len}
use Rattle.memchr.specs.Find.{IsFirstByte}
use Rattle.std.proofs.lemmas.List.Quantifiers.{position-Some}
use Rattle.std.proofs.lemmas.List.Splits.{slice_split_first, slice_split_none, length-slice_split}
use Rattle.std.proofs.lemmas.List.Sums.{fails_before_first, position_or_len_is}

-- the piece before the first item that passes, and the pieces behind that item
pub cut_at : (test : ℕ → Bool) (xs : List ℕ) (end : ℕ) → position test xs ≡ Some end
    → slice_split test xs ≡ take end xs ∷ slice_split test (drop (end + 1) xs)
cut_at test xs end found =
    let at = position-Some test xs end 0 found in
    let place : position_or_len test xs ≡ end = position_or_len_is test xs end 0 (omega (arith, at.0)) at.2
    (λ _. at.1) in
    let within : position_or_len test xs < length xs = omega (arith, at.0, place) in
    slice_split_first test xs 0 within ∙ ap (λ n. take n xs ∷ slice_split test (drop (n + 1) xs)) place

nowhere : (b : Bool) (n : ℕ) → cond b (Some n) None ≡ None → b ≡ false
nowhere true n h = absurd (cc)
nowhere false n h = refl

-- one piece where none passes
pub cut_nowhere : (test : ℕ → Bool) (xs : List ℕ) → position test xs ≡ None → slice_split test xs ≡ xs ∷ []
cut_nowhere test xs none =
    let beyond : nat_lt (position_or_len test xs) (length xs) ≡ false = nowhere _ _ none in
    slice_split_none test xs (λ k d h. fails_before_first test xs k d (grind (arith, beyond)))

-- ---- the first item that passes

-- the place where an item passes, and none before it does
pub position_is : (test : ℕ → Bool) (xs : List ℕ) (k : ℕ) → k < length xs
    → ((j : ℕ) → j < k → test (get_or xs j 0) ≡ false) → test (get_or xs k 0) ≡ true → position test xs ≡ Some k
position_is test xs k within before at =
    let place : position_or_len test xs ≡ k = position_or_len_is test xs k 0 (omega (arith, within)) before (λ _. at) in
    let less : nat_lt k (length xs) ≡ true = grind (arith, within) in
    rw (place, less) refl

pub position_none : (test : ℕ → Bool) (xs : List ℕ) → ((j : ℕ) → j < length xs → test (get_or xs j 0) ≡ false)
    → position test xs ≡ None
position_none test xs before =
    let place : position_or_len test xs ≡ length xs =
    position_or_len_is test xs (length xs) 0 (omega arith) before (λ less. absurd (omega (arith, less))) in
    let beyond : nat_lt (length xs) (length xs) ≡ false = grind arith in
    rw (place, beyond) refl

not_true : (b : Bool) → ¬ (b ≡ true) → b ≡ false
not_true true h = absurd (h refl)
not_true false h = refl

-- what a search for a byte finds
pub first_place : (test : ℕ → Bool) (xs : List ℕ) (found : Option ℕ) → IsFirstByte test xs found
    → found ≡ position test xs
first_place test xs None h = sym (position_none test xs (λ j within. not_true _ (h j (omega arith) within)))
first_place test xs (Some k) h =
    sym (position_is test xs k h.0.high (λ j before. not_true _ (h.0.before j (omega arith) before)) h.1)

pub pieces_left : (test : ℕ → Bool) (xs : List ℕ) → 0 < length (slice_split test xs)
pieces_left test xs = omega (arith, length-slice_split test xs)
