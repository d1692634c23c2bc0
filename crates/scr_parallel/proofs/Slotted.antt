-- From what a due takes its figures: the slots of its sources, and what is given there.
use Rattle.std.proofs.Common.{◌≡◌, inl, inr, cond, ℕ, zero, suc, ◌<◌, ◌≤◌, Bool, true, false, List, [], ◌∷◌, Option, Some, None, length, map, nat_eq, nat_lt, position, slice_get, slice_index_or, refl, sym, ap, ap₂, subst, ◌∙◌, arith}
use Rattle.std.specs.List.{position_or_len}
use Rattle.std.proofs.lemmas.Bool.{true≢false}
use Rattle.std.proofs.lemmas.Bool.Decides.{nat_tests}
use Rattle.std.proofs.lemmas.List.Sums.{fails_before_first}
use Rattle.std.proofs.lemmas.Option.{get_or_from_slice_get, slice_get_within}
use Rattle.std.specs.Option.{option_map}
use Rattle.scr_num.specs.Rounding.{Ends}
use Rattle.scr_reachability.specs.declared.ranks.Due.{Due}
use Rattle.scr_reachability.specs.Levels.{numbers_of}
use Rattle.scr_reachability.proofs.Members.{Contains-from_IsMember, IsMember, IsMember-from_Contains, place_of, same_number}
use Rattle.scr_reachability.proofs.Ranking.{number_placed, place_within}
use Rattle.scr_subgraph.specs.declared.round.Slot.{Slot}
use Rattle.scr_subgraph.specs.declared.round.Slot.TheVariants as slots
use Rattle.scr_subgraph.specs.Slots.{Lists, slot_of, slot_or, slots_with}
use Rattle.scr_board.specs.BoardRounds.{AreGiven, given}
use Rattle.scr_parallel.specs.Workable.{IsGraphOf, figures_of, round_for, spot_for}
use Rattle.scr_parallel.specs.DueForming.{figure-here}

-- a number that has no place is none of the list
no-place : (n : ℕ) (numbers : List ℕ) → position (nat_eq n) numbers ≡ None → IsMember n numbers → ⊥
no-place n numbers none h = by (nat_lt (position_or_len (nat_eq n) numbers) (length numbers)) refl none
  where
    at : (k : ℕ) × (slice_get numbers k ≡ Some n)
    at = place_of numbers n h

    by : (b : Bool) → nat_lt (position_or_len (nat_eq n) numbers) (length numbers) ≡ b
        → cond b (Some (position_or_len (nat_eq n) numbers)) None ≡ None → ⊥
    by true is clash = cc
    by false is e =
        let past : length numbers ≤ position_or_len (nat_eq n) numbers = grind (arith, nat_tests) in
        let low = slice_get_within numbers at.0 n at.1 in
        let fails = fails_before_first (nat_eq n) numbers at.0 0 (omega (arith, low, past)) in
        true≢false (sym (same_number n) ∙ ap (nat_eq n) (sym (get_or_from_slice_get numbers at.0 n 0 at.1)) ∙ fails)

-- ---- the row of a due

pub spots-at : (worked : ℕ → Ends) (rows : List (List Slot)) (n k : ℕ)
    → slice_get (slice_index_or (map (map (spot_for worked)) rows) n []) k
    ≡ option_map (spot_for worked) (slice_get (slice_index_or rows n []) k)
spots-at worked [] n k = refl
spots-at worked (row ∷ rows) zero k = mapped row k
  where
    mapped : (xs : List Slot) (i : ℕ) → slice_get (map (spot_for worked) xs) i ≡ option_map (spot_for worked) (slice_get xs i)
    mapped [] i = refl
    mapped (x ∷ xs) zero = refl
    mapped (x ∷ xs) (suc i) = mapped xs i
spots-at worked (row ∷ rows) (suc n) k = spots-at worked rows n k

-- a slot that is kept is that of a source that is not due
kept-source : (numbers sources : List ℕ) (k number : ℕ) → slice_get (map (slot_of numbers) sources) k ≡ Some (slots.Kept number)
    → IsMember number sources × (position (nat_eq number) numbers ≡ None)
kept-source numbers [] k number e = cc
kept-source numbers (s ∷ ss) zero number e = by (position (nat_eq s) numbers) refl e
  where
    by : (found : Option ℕ) → position (nat_eq s) numbers ≡ found → Some (slot_or s found) ≡ Some (slots.Kept number)
        → IsMember number (s ∷ ss) × (position (nat_eq number) numbers ≡ None)
    by None is e =
        let same : s ≡ number = cc in
        (inl (sym same), subst (λ n. position (nat_eq n) numbers ≡ None) same is)
    by (Some place) is e = cc
kept-source numbers (s ∷ ss) (suc k) number e = let later = kept-source numbers ss k number e in (inr later.0, later.1)

-- of one of the dues
kept-due : (numbers : List ℕ) (dues : List Due) (n k number : ℕ)
    → slice_get (slice_index_or (slots_with numbers dues) n []) k ≡ Some (slots.Kept number)
    → (due : Due) × IsMember due dues × IsMember number due.sources.items × (position (nat_eq number) numbers ≡ None)
kept-due numbers [] n k number e = cc
kept-due numbers (due ∷ dues) zero k number e = let is = kept-source numbers due.sources.items k number e in (due, inl refl, is.0, is.1)
kept-due numbers (due ∷ dues) (suc n) k number e = let later = kept-due numbers dues n k number e in (later.0, inr later.1, later.2, later.3)

-- ---- what is given at the places of a due

some-same : {A : Type 0} (xs ys : List A) → map Some xs ≡ map Some ys → xs ≡ ys
some-same [] [] e = refl
some-same [] (y ∷ ys) e = cc
some-same (x ∷ xs) [] e = cc
some-same (x ∷ xs) (y ∷ ys) e =
    let head : x ≡ y = cc in
    let tail : map Some xs ≡ map Some ys = cc in
    ap₂ (λ z zs. z ∷ zs) head (some-same xs ys tail)

spots-here : (worked : ℕ → Ends) (numbers : List ℕ) (dues : List Due) (n : ℕ) (due : Due) → n < length dues
    → slice_index_or (map (map (spot_for worked)) (slots_with numbers dues)) n []
    ≡ map (spot_for worked) (map (slot_of numbers) (slice_index_or dues n due).sources.items)
spots-here worked numbers [] n due low = absurd (omega (arith, low))
spots-here worked numbers (d ∷ dues) zero due low = refl
spots-here worked numbers (d ∷ dues) (suc n) due low = spots-here worked numbers dues n due (omega (arith, low))

module _ (worked : ℕ → Ends) (dues : List Due) where
  given-one : (s : ℕ) → given (figures_of worked dues) (spot_for worked (slot_of (numbers_of dues) s)) ≡ Some (worked s)
  given-one s = by (position (nat_eq s) (numbers_of dues)) refl
    where
      by : (found : Option ℕ) → position (nat_eq s) (numbers_of dues) ≡ found
          → given (figures_of worked dues) (spot_for worked (slot_or s found)) ≡ Some (worked s)
      by None is = refl
      by (Some place) is =
          figure-here worked dues place (place_within dues s place is) ∙ ap (λ n. Some (worked n)) (number_placed dues s place is)

  given-all : (sources : List ℕ)
      → map (given (figures_of worked dues)) (map (spot_for worked) (map (slot_of (numbers_of dues)) sources)) ≡ map Some (map worked sources)
  given-all [] = refl
  given-all (s ∷ sources) = ap₂ (λ x xs. x ∷ xs) (given-one s) (given-all sources)

module _ (worked : ℕ → Ends) (is_known : ℕ → Type 0) (is_due : Due → Type 0) (dues : List Due) (lists : Lists)
    (is : IsGraphOf is_known is_due dues lists) where
  -- the figure of a slot that is kept is known
  pub slot-known : (n k number : ℕ) → slice_get (slice_index_or lists.slots n []) k ≡ Some (slots.Kept number) → is_known number
  slot-known n k number at =
      let from = kept-due (numbers_of dues) dues n k number (subst (λ rows. slice_get (slice_index_or rows n []) k ≡ Some (slots.Kept number)) is.of.slots at) in
      is.workable.known from.0 number (Contains-from_IsMember dues from.0 from.1)
      (Contains-from_IsMember from.0.sources.items number from.2)
      (λ has. no-place number (numbers_of dues) from.3 (IsMember-from_Contains (numbers_of dues) number has))

  -- what is given at the places of a due are the figures of its sources
  pub given-sources : (n : ℕ) (due : Due) (got : List Ends) → n < length dues → AreGiven (round_for worked dues lists) n got
      → got ≡ map worked (slice_index_or dues n due).sources.items
  given-sources n due got low are =
      some-same got (map worked (slice_index_or dues n due).sources.items)
      (are ∙ ap (λ rows. map (given (figures_of worked dues)) (slice_index_or (map (map (spot_for worked)) rows) n [])) is.of.slots
      ∙ ap (map (given (figures_of worked dues))) (spots-here worked (numbers_of dues) dues n due low)
      ∙ given-all worked dues (slice_index_or dues n due).sources.items)
