-- The units in which figures are reckoned, and how they are told (this project's own).
use Rattle.std.specs.Prelude.{ℕ, Bool, true, false, List, codes}
use Rattle.scr_figure_titles.specs.declared.unit.Unit.{Unit}
use Rattle.scr_figure_titles.specs.declared.unit.Unit.TheVariants as units

-- how many units make a hundredth of what is told
abbrev pub scale : Unit → ℕ
scale units.Cents = 1
scale units.Grains = 1_000
scale units.Nanocents = 1_000_000_000
scale units.Attocents = 1_000_000_000_000_000_000
scale units.Millionth = 10_000_000_000_000_000
scale units.FineSquares = 1_000_000_000_000
scale units.GrainSquares = 100_000_000
scale units.Movements = 1
scale units.Lapses = 1
scale units.Bands = 1

-- what is told behind an amount
abbrev pub mark : Unit → List ℕ
mark units.Cents = codes ""
mark units.Grains = codes ""
mark units.Nanocents = codes ""
mark units.Attocents = codes ""
mark units.Millionth = codes " in 1,000,000"
mark units.FineSquares = codes " squared"
mark units.GrainSquares = codes " squared"
mark units.Movements = codes ""
mark units.Lapses = codes ""
mark units.Bands = codes ""

-- the unit is that of an amount; a figure in another says which alternatives may decide, one bit for each
abbrev pub is_amount : Unit → Bool
is_amount units.Movements = false
is_amount units.Lapses = false
is_amount units.Bands = false
is_amount unit = true

-- the alternatives, the first in the lowest bit
abbrev pub first : Unit → List ℕ
first units.Lapses = codes "more lapses"
first units.Bands = codes "three times the deviation"
first unit = codes "rise"

abbrev pub second : Unit → List ℕ
second units.Lapses = codes "fewer lapses"
second units.Bands = codes "five times the deviation"
second unit = codes "fall"

abbrev pub third : Unit → List ℕ
third units.Lapses = codes "mass lapse"
third units.Bands = codes "all losses"
third unit = codes ""
