use Rattle.scr_reachability.proofs.Ranking.{ends_more}
use Rattle.scr_reachability.proofs.laws.ends.Goals as goal

pub returns : goal.returns
returns c = ends_more
