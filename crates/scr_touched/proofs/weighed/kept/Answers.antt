use Rattle.std.proofs.Common.{◌∙◌, is_some}
use Rattle.std.specs.Bool.{beq}
use Rattle.std.specs.Option.{option_eq}
use Rattle.scr_touched.specs.Funds.{is_same_share}
use Rattle.scr_touched.specs.Weighed.{AreShares}
use Rattle.scr_touched.proofs.weighed.kept.Goals as goal

pub returns-clause-share : goal.returns-clause-share
unfolding AreShares
returns-clause-share c =
    c.same_share.ensures
    ∙ (λ i. option_eq is_same_share (c.requires.old c.args.name.now i) (c.requires.new c.args.name.now i))

pub returns-clause-holder : goal.returns-clause-holder
unfolding AreShares
returns-clause-holder c =
    c.same_holder.ensures
    ∙ (λ i. beq (is_some (c.requires.old c.args.name.now i)) (is_some (c.requires.new c.args.name.now i)))
