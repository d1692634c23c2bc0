-- The exact figure of property risk, in cents: Article 174 of Delegated Regulation (EU) 2015/35. Nothing is rounded.
use Rattle.std.specs.Prelude.{ℕ}
use Rattle.scr_num.specs.Fraction.{percent}
use Rattle.scr_num.specs.Figure.{Figure}
use Rattle.scr_num.specs.Figure.Figure.{Frac}
use Rattle.scr_market.specs.Equity.{part_of}

-- immovable property falls by 25 percent
abbrev pub property_figure : ℕ → Figure
property_figure cents = Frac (part_of cents (percent 25))
