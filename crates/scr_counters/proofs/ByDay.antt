-- Counts by block and place, read by day.
use Rattle.std.proofs.Common.{◌≡◌, ℕ, ◌+◌, ◌*◌, ◌/◌, ◌%◌, ◌<◌, ◌≤◌, Bool, true, false, ◌&&◌, ltb, ◌<ℤ◌, List, Some, None, if◌then◌else◌, int_le, ℤ, refl, sym, ap, subst, ◌∙◌, arith}
use Rattle.std.proofs.lemmas.Int.{ints}
use Rattle.scr_dates.specs.Civil.{IsDay}
use Rattle.scr_dates.specs.declared.day.Day.{Day}
use Rattle.scr_counters.specs.Days.{days_to, count_of, ends_on, IsLast}
use Rattle.scr_counters.specs.Blocks.{count_in, IsCountWritten, IsLastIn}

-- ---- days

-- the days from the first one tell days apart
days-apart : (a b : ℤ) → IsDay a → IsDay b → days_to a ≡ days_to b → a ≡ b
days-apart a b in_a in_b e = grind (arith, ints, in_a, in_b, e)

on_itself : (a b : ℤ) → a ≡ b → (int_le a b && int_le b a) ≡ true
on_itself a b e = grind (arith, ints, e)

pub day-blocks : (day : ℤ) → IsDay day → days_to day / 438 < 251
day-blocks day is = let few : days_to day < 109_938 = grind (arith, ints, is) in omega (arith, few)

-- the block and the place of a day
abbrev pub block_of : ℤ → ℕ
block_of day = days_to day / 438

abbrev pub place_in : ℤ → ℕ
place_in day = days_to day % 438

-- a count was written at the place of a day
module _ (before now : List (List ℕ)) (last : Day) (is : IsDay last.number) (n : ℕ) (written : IsCountWritten (block_of last.number) (place_in last.number) n before now) where
  -- the day has the count that was written, and each other one its own
  written-own : count_of last.number now ≡ n
  unfolding count_of
  written-own = written.own

  written-other : (day : ℤ) → IsDay day → (day ≡ last.number → ⊥) → count_of day now ≡ count_of day before
  unfolding count_of
  written-other day in_day apart =
      written.others (days_to day / 438) (days_to day % 438) (λ b p. apart (days-apart day last.number in_day is (omega (arith, b, p))))

  -- the count of a day that was counted once more
  pub written-more : n ≡ count_of last.number before + 1 → (day : ℤ) → IsDay day → count_of day now ≡ count_of day before + ends_on day (Some last)
  written-more more day in_day = let other = written-other day in_day in grind (arith, ints, more, written-own, other)

  -- and of one from which a count was taken away
  pub written-less : n + 1 ≡ count_of last.number before → (day : ℤ) → IsDay day → count_of day now + ends_on day (Some last) ≡ count_of day before
  written-less less day in_day = let other = written-other day in_day in grind (arith, ints, less, written-own, other)

-- a list ends once on its last day
pub ends-own : (last : Day) → ends_on last.number (Some last) ≡ 1
ends-own last = ap (λ (t : Bool). if t then 1 else 0) (on_itself last.number last.number refl)

-- the count at the place of a day
pub read-day : (blocks : List (List ℕ)) (block place : ℕ) (day : ℤ) → block ≡ block_of day → place ≡ place_in day → count_in blocks block place ≡ count_of day blocks
unfolding count_of
read-day blocks block place day b p = ap (λ (k : ℕ). count_in blocks k place) b ∙ ap (count_in blocks (block_of day)) p

pub written-day : (before now : List (List ℕ)) (block place n : ℕ) (day : ℤ) → block ≡ block_of day → place ≡ place_in day → IsCountWritten block place n before now
    → IsCountWritten (block_of day) (place_in day) n before now
written-day before now block place n day b p written =
    subst (λ (k : ℕ). IsCountWritten (block_of day) k n before now) p (subst (λ (k : ℕ). IsCountWritten k place n before now) b written)

-- ---- the last day

days-later : (a b : ℤ) → IsDay a → a <ℤ b → days_to a < days_to b
days-later a b in_a later = grind (arith, ints, in_a, later)

pub last-none : (blocks : List (List ℕ)) → IsLastIn blocks None → IsLast blocks None
unfolding count_of
last-none blocks none day in_day = none (days_to day / 438) (days_to day % 438)

module _ (blocks : List (List ℕ)) (block place : ℕ) (last : IsLastIn blocks (Some (block, place))) where
  pub last-some : (day : Day) → IsDay day.number → days_to day.number ≡ 438 * block + place → place < 438 → IsLast blocks (Some day)
  unfolding count_of
  last-some day in_day days few = (in_day, counted, later)
    where
      own_block : days_to day.number / 438 ≡ block
      own_block = omega (arith, days, few)

      own_place : days_to day.number % 438 ≡ place
      own_place = omega (arith, days, few)

      counted : 0 < count_in blocks (days_to day.number / 438) (days_to day.number % 438)
      counted = subst (λ (b : ℕ). 0 < count_in blocks b (days_to day.number % 438)) (sym own_block) (subst (λ (p : ℕ). 0 < count_in blocks block p) (sym own_place) last.0)

      later : (other : ℤ) → IsDay other → day.number <ℤ other → count_in blocks (days_to other / 438) (days_to other % 438) ≡ 0
      later other in_other ahead = by (ltb block (days_to other / 438)) refl
        where
          more : days_to day.number < days_to other
          more = days-later day.number other in_day ahead

          by : (t : Bool) → ltb block (days_to other / 438) ≡ t → count_in blocks (days_to other / 438) (days_to other % 438) ≡ 0
          by true e = last.2 (days_to other / 438) (days_to other % 438) (grind (arith, e))
          by false e =
              let most : days_to other / 438 ≤ block = grind (arith, e) in
              let same : days_to other / 438 ≡ block = omega (arith, days, few, more, most) in
              subst (λ (b : ℕ). count_in blocks b (days_to other % 438) ≡ 0) (sym same) (last.1 (days_to other % 438) (omega (arith, days, few, more, same)))
