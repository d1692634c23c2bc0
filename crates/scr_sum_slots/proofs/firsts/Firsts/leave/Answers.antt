use Rattle.std.proofs.Common.{length, ap, subst, arith}
use Rattle.scr_sum_slots.specs.Firsts.{Becomes, FirstLists, firsts_in, left}
use Rattle.scr_sum_slots.specs.Parts.{list_at}
use Rattle.scr_sum_slots.proofs.Members.{becomes, length-left}
use Rattle.scr_sum_slots.proofs.firsts.Firsts.leave.Goals as goal

pub returns : goal.returns
returns c =
    let was = c.self.inside.lists.items in
    let room = c.leave.ensures.room in
    let some = c.requires in
    let view = ap (λ (v : FirstLists). length (firsts_in c.args.list v)) c.self.view_is in
    subst (λ (v : FirstLists). Becomes c.args.list (left c.args.place (firsts_in c.args.list v)) v (record { lists = c.leave.new.lists.items })) c.self.view_is
    (becomes c.args.list (left c.args.place (list_at c.args.list was).items) was c.leave.new.lists.items c.leave.ensures.others c.leave.ensures.items
    (omega (arith, room, some, view, length-left c.args.place (list_at c.args.list was).items)))
