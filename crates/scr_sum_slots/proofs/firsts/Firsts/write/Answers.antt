use Rattle.std.proofs.Common.{subst}
use Rattle.scr_sum_slots.specs.Filling.{IsWritten}
use Rattle.scr_sum_slots.specs.Firsts.{FirstLists}
use Rattle.scr_sum_slots.proofs.Filled.{on-both, written}
use Rattle.scr_sum_slots.proofs.firsts.Firsts.write.Goals as goal

pub returns : goal.returns
returns c =
    on-both c.write.result c.write.ensures.items c.write.ensures.others
    (λ items others.
    subst (λ (v : FirstLists). IsWritten c.args.list c.args.place c.args.first v (record { lists = c.write.new.lists.items })) c.self.view_is
    (written c.args.list c.args.place c.args.first (record { lists = c.self.inside.lists.items }) (record { lists = c.write.new.lists.items })
    items others))
