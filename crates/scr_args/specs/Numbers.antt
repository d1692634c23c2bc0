-- The numbers of the command line (this project's own): digits alone, of which those in front may be 0.
use Rattle.std.specs.Prelude.{ℕ, ◌&&◌, Bool, List, Option, Some, None, if◌then◌else◌, length, nat_le, option_and_then}
use Rattle.std.specs.Char.{is_ascii_digit}
use Rattle.std.specs.List.{list_all}
use Rattle.std.specs.Str.Parse.{digits_value}

-- at least one and at most so many digits
abbrev pub is_number : ℕ → List ℕ → Bool
is_number most digits = (nat_le 1 (length digits) && nat_le (length digits) most) && list_all is_ascii_digit digits

-- what the digits stand for
abbrev pub number_in : ℕ → List ℕ → Option ℕ
number_in most digits = if is_number most digits then Some (digits_value 10 digits) else None

abbrev pub from_1_to_64 : ℕ → Option ℕ
from_1_to_64 number = if nat_le 1 number && nat_le number 64 then Some number else None

-- a number of workers: one or two digits that stand for 1 to 64
abbrev pub workers_in : List ℕ → Option ℕ
workers_in digits = option_and_then from_1_to_64 (number_in 2 digits)

-- the number of a made book: 1 to 18 digits
abbrev pub made_in : List ℕ → Option ℕ
made_in digits = number_in 18 digits
