use Rattle.scr_member_lists.proofs.SeatReturns.{has-moved, has-returned}
use Rattle.scr_member_lists.proofs.laws.members.Goals as goal

pub returns-clause-moved : goal.returns-clause-moved
returns-clause-moved c = λ name other is roll apart. has-moved roll apart name other is

pub returns-clause-returned : goal.returns-clause-returned
returns-clause-returned c = λ name other before roll apart there. has-returned name other before roll apart there
