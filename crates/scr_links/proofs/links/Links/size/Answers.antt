-- The numbers of each edge are low.
use Rattle.scr_links.proofs.States.{edges_low}
use Rattle.scr_links.proofs.links.Links.size.Goals as goal

pub returns-clause-below : goal.returns-clause-below
returns-clause-below c = edges_low c.self.inside c.self.invariant c.args.self.now c.self.view_is
