use Rattle.scr_member_lists.proofs.SeatReturns.{names-back, can-return, never-member, stands-by}
use Rattle.scr_member_lists.proofs.laws.returns.Goals as goal

pub returns-clause-names : goal.returns-clause-names
returns-clause-names c = names-back

pub returns-clause-can : goal.returns-clause-can
returns-clause-can c = can-return

pub returns-clause-never : goal.returns-clause-never
returns-clause-never c = never-member

pub returns-clause-one : goal.returns-clause-one
returns-clause-one c = stands-by
