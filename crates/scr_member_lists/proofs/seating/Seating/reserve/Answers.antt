use Rattle.scr_member_lists.proofs.SeatGrowth.{grows-reserved}
use Rattle.scr_member_lists.proofs.seating.Seating.reserve.Goals as goal

pub returns-clause-grows : goal.returns-clause-grows
returns-clause-grows g c =
    let told = c.reserve_in.ensures in
    grows-reserved c.args.self.now c.reserve_in.new.self told.own told.names told.room told.seats told.rows
