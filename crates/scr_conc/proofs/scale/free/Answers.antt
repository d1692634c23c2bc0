use Rattle.scr_conc.proofs.Scales.{least-is-most}
use Rattle.scr_conc.proofs.scale.free.Goals as goal

pub returns : goal.returns
returns c = least-is-most c.args.assets
