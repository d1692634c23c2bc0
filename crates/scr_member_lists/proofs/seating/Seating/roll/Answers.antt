use Rattle.scr_member_lists.proofs.SeatRolls.{apart-roll}
use Rattle.scr_member_lists.proofs.seating.Seating.roll.Goals as goal

pub returns-clause-apart : goal.returns-clause-apart
returns-clause-apart g c = λ names seated. apart-roll names c.args.self.now seated c.args.number
