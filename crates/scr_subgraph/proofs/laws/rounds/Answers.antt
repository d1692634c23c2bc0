use Rattle.scr_subgraph.proofs.Formed.{is-round}
use Rattle.scr_subgraph.proofs.laws.rounds.Goals as goal

pub returns : goal.returns
returns c = is-round
