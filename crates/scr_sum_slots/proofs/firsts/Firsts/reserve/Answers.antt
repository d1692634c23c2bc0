use Rattle.std.proofs.Common.{subst}
use Rattle.scr_sum_slots.specs.Firsts.{Becomes, FirstLists, firsts_in}
use Rattle.scr_sum_slots.proofs.Members.{becomes-roomier}
use Rattle.scr_sum_slots.proofs.firsts.Firsts.reserve.Goals as goal

pub returns-clause-still : goal.returns-clause-still
returns-clause-still c =
    subst (λ (v : FirstLists). Becomes c.args.list (firsts_in c.args.list v) v (record { lists = c.make_room.new.lists.items })) c.self.view_is
    (becomes-roomier c.args.list c.self.inside.lists.items c.make_room.new.lists.items c.make_room.ensures.roomier)
