use Rattle.std.proofs.Common.{refl}
use Rattle.scr_tree.proofs.Grounds.{assets-begun, assets-done}
use Rattle.scr_tree.proofs.first.put_assets.Goals as goal

pub put_summed-requires-clause-summed : goal.put_summed-requires-clause-summed
put_summed-requires-clause-summed g c = refl

pub put_summed-requires-clause-done : goal.put_summed-requires-clause-done
put_summed-requires-clause-done g c = assets-begun c.args.ground c.requires.ground c.args.figures.now c.requires.totals

pub returns : goal.returns
returns g c = assets-done c.args.ground c.requires.ground c.put_summed.new.figures c.put_summed.ensures
