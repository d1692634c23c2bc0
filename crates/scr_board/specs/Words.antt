-- The four words in which the board keeps a figure: two for each end, the low end first.
use Rattle.std.specs.Prelude.{ℕ, ◌/◌, ◌%◌, ◌^◌, Bool, ◌&&◌, if◌then◌else◌, List, [], ◌∷◌, ℤ, pos, neg_ℤ, nat_abs, int_le, int_lt, ◌+ℤ◌, ◌≤ℤ◌, ◌<ℤ◌}
use Rattle.scr_num.specs.Rounding.{Ends}

-- an end, raised so that none within 128 bits is below 0
abbrev pub raised : ℤ → ℕ
raised v = nat_abs (v +ℤ pos (2 ^ 127))

abbrev pub upper : ℤ → ℕ
upper v = raised v / 2 ^ 64

abbrev pub lower : ℤ → ℕ
lower v = raised v % 2 ^ 64

-- a span of numbers of 128 bits can have these ends
unfoldable pub are_ends : Ends → Bool
are_ends e = int_le (neg_ℤ (pos (2 ^ 127))) e.low && (int_le e.low e.high && int_lt e.high (pos (2 ^ 127)))

-- those of the ends of a span; for all others numbers that no word of a table can be
abbrev pub words_of : Ends → List ℕ
words_of e = if are_ends e then upper e.low ∷ lower e.low ∷ upper e.high ∷ lower e.high ∷ [] else 2 ^ 64 ∷ 2 ^ 64 ∷ 2 ^ 64 ∷ 2 ^ 64 ∷ []

abbrev pub IsWithin : ℤ → Type 0
IsWithin v = (neg_ℤ (pos (2 ^ 127)) ≤ℤ v) × (v <ℤ pos (2 ^ 127))

-- the ends of a span of numbers of 128 bits
pub record AreEnds (e : Ends) : Type 0 where
  pub low : IsWithin e.low
  pub high : IsWithin e.high
  pub ordered : e.low ≤ℤ e.high
