use Rattle.scr_num.proofs.Shares.{AtMost-share, AtLeast-share}
use Rattle.scr_num.proofs.laws.share_grows.Goals as goal

pub returns-clause-lower : goal.returns-clause-lower
returns-clause-lower c = AtMost-share

pub returns-clause-upper : goal.returns-clause-upper
returns-clause-upper c = AtLeast-share
