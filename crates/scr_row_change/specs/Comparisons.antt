-- Rows before and after an exchange compared, and what they hold (this project's own).
use Rattle.std.specs.Prelude.{ℤ, Bool, false, ◌&&◌, List, Option}
use Rattle.std.specs.Bool.{beq}
use Rattle.std.specs.Cmp.Lexicographic.{pointwise}
use Rattle.std.specs.Ordering.{int_eq}
use Rattle.std.specs.Option.{option_map_or}
use Rattle.scr_dates.specs.declared.day.Day.{Day}

-- a row, if there is one, passes a test
abbrev pub passes : {Row : Type 0} → (Row → Bool) → Option Row → Bool
passes test row = option_map_or test row false

-- the row is chosen by the test before as it is after
abbrev pub is_kept : {Row : Type 0} → (Row → Bool) → Option Row → Option Row → Bool
is_kept test old new = beq (passes test old) (passes test new)

-- payments in the same order, with the same days and amounts
abbrev pub same_payment : Day × ℤ → Day × ℤ → Bool
same_payment a b = int_eq a.0.number b.0.number && int_eq a.1 b.1

abbrev pub same_payments : List (Day × ℤ) → List (Day × ℤ) → Bool
same_payments xs ys = pointwise same_payment xs ys

abbrev pub same_rates : List ℤ → List ℤ → Bool
same_rates xs ys = pointwise int_eq xs ys
