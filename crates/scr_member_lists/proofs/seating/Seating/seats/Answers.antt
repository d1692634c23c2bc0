use Rattle.std.proofs.Common.{arith, rules}
use Rattle.scr_member_lists.proofs.seating.Seating.seats.Goals as goal

pub seats-requires : goal.seats-requires
seats-requires g c = let few = c.self.invariant.0 in omega (arith, few)
