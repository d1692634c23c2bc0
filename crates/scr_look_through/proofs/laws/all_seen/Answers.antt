use Rattle.scr_look_through.proofs.SeenThrough.{all-seen, seen-small}
use Rattle.scr_look_through.proofs.laws.all_seen.Goals as goal

pub returns-clause-whole : goal.returns-clause-whole
returns-clause-whole c = all-seen

pub returns-clause-within : goal.returns-clause-within
returns-clause-within c = seen-small
