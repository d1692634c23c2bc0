use Rattle.scr_tree.proofs.SquareRow.{scale-amount, scale-right, scale-within}
use Rattle.scr_tree.proofs.reckoning.scale_on.Goals as goal

pub figure_of-assets-requires : goal.figure_of-assets-requires
figure_of-assets-requires c =
    scale-within c.args.basis c.requires.basis c.requires.ready.0 c.requires.ready.1 c.args.figures.now c.requires.ready.2

pub concentration_scale-requires : goal.concentration_scale-requires
concentration_scale-requires c =
    scale-amount c.args.basis c.requires.basis c.requires.ready.0 c.requires.ready.1 c.args.figures.now c.requires.ready.2
    c.known.ensures c.figure_of-assets.result c.figure_of-assets.ensures

pub returns : goal.returns
returns c =
    scale-right c.args.basis c.requires.basis c.requires.ready.0 c.requires.ready.1 c.args.figures.now c.requires.ready.2
    c.figure_of-assets.result c.concentration_scale.result c.figure_of-assets.ensures c.concentration_scale.ensures
