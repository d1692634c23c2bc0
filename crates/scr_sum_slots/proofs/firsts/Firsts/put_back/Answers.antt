use Rattle.std.proofs.Common.{subst, arith}
use Rattle.scr_sum_slots.specs.Firsts.{Becomes, FirstLists, back_at, firsts_in}
use Rattle.scr_sum_slots.specs.Parts.{list_at}
use Rattle.scr_sum_slots.proofs.Members.{becomes, length-back}
use Rattle.scr_sum_slots.proofs.firsts.Firsts.put_back.Goals as goal

pub returns : goal.returns
returns c =
    let was = c.self.inside.lists.items in
    let room = c.put_back.ensures.room in
    subst (λ (v : FirstLists). Becomes c.args.list (back_at c.args.place c.args.first (firsts_in c.args.list v)) v (record { lists = c.put_back.new.lists.items })) c.self.view_is
    (becomes c.args.list (back_at c.args.place c.args.first (list_at c.args.list was).items) was c.put_back.new.lists.items c.put_back.ensures.others c.put_back.ensures.items
    (omega (arith, room, length-back c.args.place c.args.first (list_at c.args.list was).items)))
