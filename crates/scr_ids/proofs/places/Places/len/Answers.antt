use Rattle.scr_ids.proofs.Views.{apart, within}
use Rattle.scr_ids.proofs.places.Places.len.Goals as goal

pub returns-clause-within : goal.returns-clause-within
returns-clause-within c = within c.self.inside c.self.invariant c.args.self.now c.self.view_is

pub returns-clause-apart : goal.returns-clause-apart
returns-clause-apart c = apart c.self.inside c.self.invariant c.args.self.now c.self.view_is
