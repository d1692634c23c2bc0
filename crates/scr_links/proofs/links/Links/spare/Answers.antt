-- No two edges have one name.
use Rattle.scr_links.proofs.States.{ids_distinct}
use Rattle.scr_links.proofs.links.Links.spare.Goals as goal

pub returns-clause-apart : goal.returns-clause-apart
returns-clause-apart c = ids_distinct c.self.inside c.self.invariant c.args.self.now c.self.view_is
