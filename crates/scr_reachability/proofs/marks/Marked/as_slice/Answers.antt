use Rattle.std.proofs.Common.{◌<◌, nat_eq, length, get_or, subst, ℕ}
use Rattle.std.specs.List.{IsDistinct}
use Rattle.std.proofs.lemmas.Option.{slice_get-get_or}
use Rattle.scr_reachability.specs.Marks.{MarkedNumbers}
use Rattle.scr_reachability.proofs.Marking.{marked-once}
use Rattle.scr_reachability.proofs.marks.Marked.as_slice.Goals as goal

pub returns-clause-once : goal.returns-clause-once
returns-clause-once c =
    subst (λ (v : MarkedNumbers). IsDistinct nat_eq v.list) c.self.view_is
    (marked-once c.self.inside.list.items c.self.inside.places.items c.self.invariant)

pub returns-clause-within : goal.returns-clause-within
returns-clause-within c =
    subst (λ (v : MarkedNumbers). (k d : ℕ) → k < length v.list → get_or v.list k d < v.size) c.self.view_is
    (λ k d l. c.self.invariant.within k (get_or c.self.inside.list.items k d) (slice_get-get_or c.self.inside.list.items k d l))
