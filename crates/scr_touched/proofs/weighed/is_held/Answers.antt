use Rattle.std.proofs.Common.{◌∙◌, ap, is_some}
use Rattle.scr_touched.specs.Weighed.{AreShares}
use Rattle.scr_touched.proofs.weighed.is_held.Goals as goal

pub returns : goal.returns
unfolding AreShares
returns c = c.has_share.ensures ∙ ap is_some (c.requires c.args.name.now)
