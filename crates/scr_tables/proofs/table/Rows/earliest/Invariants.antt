use Rattle.std.proofs.Common.{◌≡◌, Bool, map, filter, fold}
use Rattle.std.specs.Fn.{FnReturnsAt}
use Rattle.scr_tables.specs.Names.{earlier}
use Rattle.scr_tables.proofs.table.Rows.earliest.Given as goal

abbrev pub invariant-loop-row : goal.invariant-loop-row
invariant-loop-row g l =
    (test : g.row.R.Denot → Bool) → ((row : g.row.R.Denot) (told : Bool) → FnReturnsAt g.F.Fn l.counts row told → told ≡ test row)
    → fold earlier l.first (map g.R.Row.name_of (filter test l.row-iterator)) ≡ fold earlier l.fn.found (map g.R.Row.name_of (filter test l.fn.self))
