-- The seats that are stored for a row (own): of the eleven seats 0 to 10 only the first ones that its table uses.
use Rattle.std.specs.Prelude.{ℕ, ◌<◌, List, ◌++◌, length, replicate, take}
use Rattle.scr_member_lists.specs.Seatings.{seat_of}
use Rattle.scr_member_lists.specs.declared.seating.Numbered.{Numbered}

-- The first stored values of a row's seats, filled up to eleven with the value of a free seat (own).
abbrev pub widened : (none : ℕ) → (kept : List ℕ) → List ℕ
widened none kept = take 11 (kept ++ replicate 11 none)

-- Every member list is of a seat below `width`, the number of seats that are stored for a row (own).
abbrev pub AreForWidth : ℕ → List Numbered → Type 0
AreForWidth width rolls = (number : ℕ) → number < length rolls → seat_of number rolls < width
