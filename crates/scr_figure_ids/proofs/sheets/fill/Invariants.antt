-- So many rows came.
use Rattle.std.proofs.Common.{◌≡◌, ◌+◌}
use Rattle.scr_ids.specs.Moves.{IsSameBut}
use Rattle.scr_ids.specs.Ranges.{count}
use Rattle.scr_figure_ids.proofs.sheets.fill.Given as goal

abbrev pub invariant-loop : goal.invariant-loop
invariant-loop l = record {
  others : IsSameBut l.table l.fn.places l.places;
  rows : count l.places l.table ≡ count l.fn.places l.table + l.counter;
}
