-- The signed 128-bit number that four 32-bit words hold, the lowest first (own).
use Rattle.std.specs.Prelude.{ℕ, ℤ, ◌+◌, ◌*◌, ◌^◌}
use Rattle.std.specs.Int.{w128, cast_signed}
use Rattle.scr_partial_sums.specs.declared.end.End.TheInside.{Inside}

-- The words as one unsigned number (own).
abbrev pub bits_in : Inside → ℕ
bits_in end = end.first + (end.second + (end.third + end.fourth * 2 ^ 32) * 2 ^ 32) * 2 ^ 32

-- The words as one signed number in two's complement (own).
abbrev pub number_in : Inside → ℤ
number_in end = cast_signed w128 (bits_in end)
