use Rattle.scr_nodes.proofs.Ordered.{live_nodes-live}
use Rattle.scr_nodes.proofs.laws.live_lists.Goals as goal

pub returns : goal.returns
returns c = record { live = λ sheet node valid. live_nodes-live sheet valid node }
