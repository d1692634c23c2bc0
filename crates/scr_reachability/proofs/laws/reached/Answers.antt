use Rattle.std.proofs.Common.{IsTrue}
use Rattle.scr_reachability.proofs.Reaching.{has_starts, is_closed, within}
use Rattle.scr_reachability.proofs.laws.reached.Goals as goal

pub returns-clause-begun : goal.returns-clause-begun
returns-clause-begun c = has_starts

pub returns-clause-closed : goal.returns-clause-closed
returns-clause-closed c = is_closed

pub returns-clause-least : goal.returns-clause-least
returns-clause-least c = λ edges starts list h test. within edges starts list h (λ n. IsTrue (test n))
