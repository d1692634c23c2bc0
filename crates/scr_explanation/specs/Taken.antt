-- By how much the sources of a figure together exceed it (this project's own): what correlation or absorption takes.
use Rattle.std.specs.Prelude.{pos, ◌+ℤ◌, ◌-ℤ◌, ◌&&◌, Bool, List, [], ◌∷◌, Option, Some, None, if◌then◌else◌, filter, length, map, nat_le, unsigned_abs}
use Rattle.std.specs.List.{list_all}
use Rattle.scr_factors.specs.Values.{FactorValues}
use Rattle.scr_sheet.specs.declared.sheet.BalanceSheet.{BalanceSheet}
use Rattle.scr_nodes.specs.declared.node.Node.{Node}
use Rattle.scr_figure_titles.specs.Titles.{unit_of}
use Rattle.scr_figure_titles.specs.Units.{is_amount}
use Rattle.scr_explanation.specs.Told.{told_bounds}
use Rattle.scr_amounts.specs.declared.bounds.Bounds.{Bounds}

-- a source that is an amount, and no choice
abbrev pub is_part : Node → Bool
is_part node = is_amount (unit_of node)

abbrev pub added : Bounds → Bounds → Bounds
added a b = record { low = a.low +ℤ b.low; high = a.high +ℤ b.high }

-- all of them together
abbrev pub together : List Bounds → Bounds
together [] = record { low = pos 0; high = pos 0 }
together (part ∷ parts) = added part (together parts)

abbrev pub less : Bounds → Bounds → Bounds
less a b = record { low = a.low -ℤ b.high; high = a.high -ℤ b.low }

-- within 10^30 hundredths
abbrev pub is_moderate : Bounds → Bool
is_moderate bounds =
    nat_le (unsigned_abs bounds.low) 1_000_000_000_000_000_000_000_000_000_000
    && nat_le (unsigned_abs bounds.high) 1_000_000_000_000_000_000_000_000_000_000

-- the bounds of the sources that are amounts
abbrev pub parts_of : FactorValues → BalanceSheet → List Node → List Bounds
parts_of factors sheet sources = map (told_bounds factors sheet) (filter is_part sources)

-- what the sources together have more than this; of at most so many, which are moderate
abbrev pub excess : List Bounds → Bounds → Option Bounds
excess parts own =
    if (nat_le (length parts) 64 && is_moderate own) && list_all is_moderate parts then Some (less (together parts) own) else None
