use Rattle.std.proofs.Common.{◌≡◌, ◌++◌, take}
use Rattle.scr_figure_ids.specs.SourceNumbers.{numbers_at}
use Rattle.scr_figure_ids.proofs.sources.push_rows.Given as goal

-- the numbers of the rows so far stand behind what stood there
abbrev pub invariant-loop-row : goal.invariant-loop-row
invariant-loop-row l = l.list.items ≡ l.initial.list.items ++ numbers_at l.places l.table l.own (take l.row-index l.rows)
