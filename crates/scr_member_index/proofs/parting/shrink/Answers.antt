use Rattle.std.proofs.Common.{ℕ, refl, subst, arith}
use Rattle.scr_member_index.specs.Lists.{list_in}
use Rattle.scr_member_index.specs.Parting.{HasLost}
use Rattle.scr_member_index.proofs.Counting.{no-parts}
use Rattle.scr_member_index.proofs.Lost.{lost-none, lost-some}
use Rattle.scr_member_index.proofs.parting.shrink.Goals as goal

pub returns-in_default-clause-cut : goal.returns-in_default-clause-cut
returns-in_default-clause-cut c = λ level.
    let none = no-parts c.args.parts.now (list_in c.args.table c.args.number) (c.in_default.ensures.absent refl) c.len-slots.ensures.lists level in
    omega (arith, none)

pub returns-in_default-clause-lost : goal.returns-in_default-clause-lost
returns-in_default-clause-lost c =
    lost-none (list_in c.args.table c.args.number) c.args.parts.now
    (λ far. no-parts c.args.parts.now (list_in c.args.table c.args.number) far c.len-slots.ensures.lists)

pub returns-in-Some-clause-lost : goal.returns-in-Some-clause-lost
returns-in-Some-clause-lost c =
    let parts = c.args.parts.now in
    let list = c.in-Some.list in
    subst (λ (l : ℕ). HasLost l parts c.shrink.new.self) c.in-Some.ensures.there
    (lost-some list c.args.members parts c.shrink.new.self c.shrink.ensures.count c.shrink.ensures.gone c.shrink.ensures.others
    (λ far. no-parts parts list far c.len-slots.ensures.lists))
