use Rattle.std.proofs.Common.{nat_eq, subst}
use Rattle.std.specs.List.{IsDistinct}
use Rattle.scr_reachability.specs.Marks.{MarkedNumbers}
use Rattle.scr_reachability.proofs.Marking.{marked-once}
use Rattle.scr_reachability.proofs.marks.Marked.size.Goals as goal

pub returns-clause-once : goal.returns-clause-once
returns-clause-once c =
    subst (λ (v : MarkedNumbers). IsDistinct nat_eq v.list) c.self.view_is
    (marked-once c.self.inside.list.items c.self.inside.places.items c.self.invariant)
