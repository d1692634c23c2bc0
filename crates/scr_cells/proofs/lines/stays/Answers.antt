use Rattle.std.proofs.Common.{ap}
use Rattle.scr_tree.specs.Figures.{Worth}
use Rattle.scr_cells.specs.Block.{bounds_line, bounds_of, cell_line}
use Rattle.scr_cells.proofs.lines.stays.Goals as goal

pub returns-in-Some : goal.returns-in-Some
unfolding cell_line
returns-in-Some c = λ yes. (
  c.in-Some.mark,
  c.in-Some.is,
  ap (λ (worth : Worth). bounds_line c.args.entry.now.name.now (bounds_of worth.worked worth.close))
      (c.is_told.ensures.yes yes c.args.entry.now.shown c.requires.live c.requires.family),
)
