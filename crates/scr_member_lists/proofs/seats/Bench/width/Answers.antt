use Rattle.std.proofs.Common.{sym, ap, ◌∙◌, arith}
use Rattle.scr_member_lists.specs.Seatings.{NOWHERE, roll_in}
use Rattle.scr_member_lists.proofs.Benches.{widened-free}
use Rattle.scr_member_lists.proofs.seats.Bench.width.Goals as goal

pub returns-clause-beyond : goal.returns-clause-beyond
returns-clause-beyond g c = λ seat past.
    sym (ap (roll_in seat) c.self.view_is)
    ∙ widened-free NOWHERE c.self.inside.rolls seat
    (λ low. let count = c.self.invariant.0 in omega (arith, low, past, count, c.min.ensures))
