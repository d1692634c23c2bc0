use Rattle.std.proofs.Common.{subst, arith}
use Rattle.std.proofs.lemmas.List.{length_push}
use Rattle.scr_sum_slots.specs.Firsts.{Becomes, FirstLists, firsts_in, joined}
use Rattle.scr_sum_slots.specs.Parts.{list_at}
use Rattle.scr_sum_slots.proofs.Members.{becomes}
use Rattle.scr_sum_slots.proofs.firsts.Firsts.come.Goals as goal

pub returns : goal.returns
returns c =
    let was = c.self.inside.lists.items in
    let room = c.put_last.ensures.room in
    subst (λ (v : FirstLists). Becomes c.args.list (joined c.args.first (firsts_in c.args.list v)) v (record { lists = c.put_last.new.lists.items })) c.self.view_is
    (becomes c.args.list (joined c.args.first (list_at c.args.list was).items) was c.put_last.new.lists.items c.put_last.ensures.others c.put_last.ensures.slots
    (omega (arith, room, length_push (list_at c.args.list was).items c.args.first)))
