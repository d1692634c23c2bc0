use Rattle.std.proofs.Common.{arith, ◌∙◌}
use mathlib.Core.Option.{none}
use Rattle.atomic_table.specs.Table.{step}
use Rattle.scr_board.proofs.Unused.{opens, unused_opened}
use Rattle.scr_board.proofs.board.Board.opened.Goals as goal

pub load-requires : goal.load-requires
load-requires g c =
    let formed = g.met.G.Graph.forms c.args._graph.now c.requires.graph in
    let words = c.requires.words in (
      c.requires.table,
      omega (arith, words),
      opens _ _ _ (step 0 0 0 0 none) (g.G.Graph.round c.args._graph.now) _ _ c.args.self.now.workers formed c.requires.opening.0 c.requires.opening.1 c.requires.some
          c.requires.most c.requires.seat,
    )

pub returns : goal.returns
returns g c =
    let formed = g.met.G.Graph.forms c.args._graph.now c.requires.graph in
    unused_opened c.args.self.now (g.G.Graph.round c.args._graph.now) c.args.seat c.load.new.seat _ _ formed c.requires.opening.0 c.requires.opening.1
    c.requires.some (c.load.ensures.0 ∙ c.requires.table) c.requires.words c.requires.slotless c.requires.starts c.requires.dependants c.requires.seat c.load.ensures.2
