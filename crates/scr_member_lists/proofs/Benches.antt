-- The seats that are kept for a row, read for all eleven; and that each roll has its members in a seat that is kept.
use Rattle.std.proofs.Common.{◌≡◌, ◌⊎◌, inl, inr, ℕ, zero, suc, ◌+◌, ◌-◌, ◌<◌, ◌≤◌, false, List, [], ◌∷◌, ◌++◌, length, take, replicate, get_or, set, eqb, Option, Some, None, slice_get, refl, sym, ap, subst, ◌∙◌, arith}
use Rattle.std.specs.Prelude.{if◌then◌else◌}
use Rattle.std.specs.Option.{option_map_or}
use Rattle.std.proofs.lemmas.Bool.{cases_eq, cases_lt}
use Rattle.std.proofs.lemmas.Bool.Decides.{Decides-eqb, nat_tests}
use Rattle.std.proofs.lemmas.List.{ext_get_or, get_or-append_right, get_or-replicate, get_or-set_other, get_or-set_same, get_or-take, get_or_append_left, get_or_past, length-append, length-replicate, length-set, length-take}
use Rattle.scr_member_lists.specs.Benches.{AreForWidth, widened}
use Rattle.scr_member_lists.specs.Seatings.{NOWHERE, KeepsSeats, free, place_in, roll_in, seat_of}
use Rattle.scr_member_lists.specs.declared.seats.Seats.{Seats}
use Rattle.scr_member_lists.specs.declared.seating.Numbered.{Numbered}

module _ (none : ℕ) (kept : List ℕ) where
  pub long : length (widened none kept) ≡ 11
  long = omega (arith, length-take 11 (kept ++ replicate 11 none), length-append kept (replicate 11 none), length-replicate 11 none)

  -- one of the eleven is as it is kept
  pub widened-in : (s : ℕ) → s < 11 → get_or (widened none kept) s none ≡ get_or kept s none
  widened-in s h = get_or-take 11 (kept ++ replicate 11 none) s none h ∙ by (cases_lt s (length kept))
    where
      by : ((s < length kept) ⊎ (length kept ≤ s)) → get_or (kept ++ replicate 11 none) s none ≡ get_or kept s none
      by (inl inside) = get_or_append_left kept (replicate 11 none) none s inside
      by (inr past) =
          get_or-append_right kept (replicate 11 none) (length kept) s none refl past
          ∙ get_or-replicate 11 (s - length kept) none none (omega (arith, h, past)) ∙ sym (get_or_past kept s none past)

  pub widened-past : (s : ℕ) → 11 ≤ s → get_or (widened none kept) s none ≡ none
  widened-past s h = get_or_past (widened none kept) s none (omega (arith, long, h))

  -- one beyond those that are kept is free
  pub widened-free : (s : ℕ) → (s < 11 → length kept ≤ s) → get_or (widened none kept) s none ≡ none
  widened-free s beyond = by (cases_lt s 11)
    where
      by : ((s < 11) ⊎ (11 ≤ s)) → get_or (widened none kept) s none ≡ none
      by (inl h) = widened-in s h ∙ get_or_past kept s none (beyond h)
      by (inr past) = widened-past s past

-- one of them is written
module _ (none : ℕ) (kept : List ℕ) where
  pub widened-set : (k value : ℕ) → k < length kept → k < 11 → (s : ℕ)
      → get_or (widened none (set kept k value)) s none ≡ (if eqb k s then value else get_or (widened none kept) s none)
  widened-set k value inside eleven s = by (cases_lt s 11) (cases_eq s k)
    where
      unlike : (a b : ℕ) → (b ≡ a → ⊥) → eqb a b ≡ false
      unlike a b differ = grind (arith, nat_tests, differ)

      by : ((s < 11) ⊎ (11 ≤ s)) → ((s ≡ k) ⊎ (s ≡ k → ⊥)) → get_or (widened none (set kept k value)) s none ≡ (if eqb k s then value else get_or (widened none kept) s none)
      by within (inl e) =
          subst (λ n. get_or (widened none (set kept k value)) n none ≡ (if eqb k n then value else get_or (widened none kept) n none)) (sym e)
          (widened-in none (set kept k value) k eleven ∙ get_or-set_same kept k value none inside ∙ sym (ap (λ b. if b then value else get_or (widened none kept) k none) ((Decides-eqb k k).1 refl)))
      by (inl within) (inr other) =
          widened-in none (set kept k value) s within ∙ get_or-set_other kept k s value none other ∙ sym (widened-in none kept s within)
          ∙ sym (ap (λ b. if b then value else get_or (widened none kept) s none) (unlike k s other))
      by (inr past) (inr other) =
          get_or_past (widened none (set kept k value)) s none (omega (arith, past, long none (set kept k value))) ∙ sym (widened-past none kept s past)
          ∙ sym (ap (λ b. if b then value else get_or (widened none kept) s none) (unlike k s other))

-- all eleven are read off what is kept
pub same-widened : (none : ℕ) (kept all : List ℕ) → length all ≡ 11 → ((s : ℕ) → s < 11 → get_or all s none ≡ get_or kept s none) → all ≡ widened none kept
same-widened none kept all count read =
    ext_get_or none all (widened none kept) (count ∙ sym (long none kept))
    (λ s h. let few : s < 11 = omega (arith, h, count) in read s few ∙ sym (widened-in none kept s few))

-- nothing is kept of one that is free
pub widened-none : (none n : ℕ) → widened none (replicate n none) ≡ replicate 11 none
widened-none none n =
    sym (same-widened none (replicate n none) (replicate 11 none) (length-replicate 11 none)
    (λ s h. get_or-replicate 11 s none none h ∙ sym (by s (cases_lt s n))))
  where
    by : (s : ℕ) → ((s < n) ⊎ (n ≤ s)) → get_or (replicate n none) s none ≡ none
    by s (inl inside) = get_or-replicate n s none none inside
    by s (inr past) = get_or_past (replicate n none) s none (omega (arith, length-replicate n none, past))

-- so many of the eleven are read off what is kept
abbrev pub AreRead : (none : ℕ) → (kept : List ℕ) → (count : ℕ) → List ℕ → Type 0
AreRead none kept count all = (length all ≡ 11) × ((s : ℕ) → s < count → get_or all s none ≡ get_or kept s none)

pub read-more : (none : ℕ) (kept : List ℕ) (k : ℕ) (all : List ℕ) (value : ℕ) → AreRead none kept k all → k < 11 → value ≡ get_or kept k none
    → AreRead none kept (k + 1) (set all k value)
read-more none kept k all value are few is = (length-set all k value ∙ are.0, λ s h. by s h (cases_eq s k))
  where
    by : (s : ℕ) → s < k + 1 → ((s ≡ k) ⊎ (s ≡ k → ⊥)) → get_or (set all k value) s none ≡ get_or kept s none
    by s h (inl e) =
        let count = are.0 in
        ap (λ n. get_or (set all k value) n none) e ∙ get_or-set_same all k value none (omega (arith, few, count)) ∙ is ∙ ap (λ n. get_or kept n none) (sym e)
    by s h (inr other) = get_or-set_other all k s value none other ∙ are.1 s (omega (arith, h, other))

pub read-all : (none : ℕ) (kept : List ℕ) (k : ℕ) (all : List ℕ) → AreRead none kept k all → 11 ≤ k → length kept ≡ 11 → all ≡ kept
read-all none kept k all are past count =
    ext_get_or none all kept (are.0 ∙ sym count) (λ s h. let long = are.0 in are.1 s (omega (arith, h, long, past)))

abbrev pub seats-by : (rolls places : List ℕ) → Seats
seats-by rolls places = record { rolls = rolls; places = places }

pub same-seats : (rolls places numbers at : List ℕ) → rolls ≡ numbers → places ≡ at → seats-by rolls places ≡ seats-by numbers at
same-seats rolls places numbers at one two = ap (λ rs. seats-by rs places) one ∙ ap (seats-by numbers) two

-- ---- the seats of rolls

-- a roll more
pub for-pushed : (width : ℕ) (rolls : List Numbered) (roll : Numbered) → AreForWidth width rolls → roll.seat < width → AreForWidth width (rolls ++ roll ∷ [])
for-pushed width [] roll are own zero h = own
for-pushed width [] roll are own (suc n) h = absurd (omega (arith, h))
for-pushed width (r ∷ rs) roll are own zero h = are zero (omega arith)
for-pushed width (r ∷ rs) roll are own (suc n) h = for-pushed width rs roll (λ m l. are (suc m) (omega (arith, l))) own n (omega (arith, h))

-- one whose members are others
pub for-set : (width : ℕ) (rolls : List Numbered) (k : ℕ) (roll : Numbered) → AreForWidth width rolls → roll.seat ≡ seat_of k rolls → AreForWidth width (set rolls k roll)
for-set width [] k roll are same n h = are n h
for-set width (r ∷ rs) zero roll are same zero h = subst (λ s. s < width) (sym same) (are zero (omega arith))
for-set width (r ∷ rs) zero roll are same (suc n) h = are (suc n) h
for-set width (r ∷ rs) (suc k) roll are same zero h = are zero (omega arith)
for-set width (r ∷ rs) (suc k) roll are same (suc n) h = for-set width rs k roll (λ m l. are (suc m) (omega (arith, l))) same n (omega (arith, h))

-- the seat of a roll is one that is kept
pub for-kind : (width : ℕ) (now old : List Numbered) → AreForWidth width now → KeepsSeats old now → (number seat : ℕ) → number < length old → seat_of number old ≡ seat → seat < width
for-kind width now old are keeps number seat h is =
    let count = keeps.count in
    subst (λ s. s < width) (keeps.own number ∙ is) (are number (omega (arith, h, count)))
