use Rattle.std.proofs.Common.{◌≡◌, ◌<◌, false, length, nat_eq, set, sym, ap, subst, ◌∙◌, arith}
use Rattle.std.specs.List.{list_any}
use Rattle.indexmap.specs.IndexSet.{insert_key}
use Rattle.scr_reachability.specs.Marks.{MarkedNumbers}
use Rattle.scr_reachability.proofs.Marking.{is-marked, not-marked, push-marked, pushed-key}
use Rattle.scr_reachability.proofs.marks.Marked.insert.Goals as goal

pub returns-then-is_some-clause-ok : goal.returns-then-is_some-clause-ok
returns-then-is_some-clause-ok c =
    sym (is-marked c.args.self.now.list c.args.number c.place.result (sym c.is_some.ensures ∙ c.if-is_some.true) c.place.ensures.there)

pub invariant_of-self-2 : goal.invariant_of-self-2
invariant_of-self-2 c =
    let l = subst (λ (v : MarkedNumbers). c.args.number < v.size) (sym c.self.view_is) c.requires in
    let none = subst (λ (v : MarkedNumbers). list_any (nat_eq c.args.number) v.list ≡ false) (sym c.self.view_is)
    (not-marked c.args.self.now.list c.args.number c.place.result (sym c.is_some.ensures ∙ c.if-is_some.false) c.place.ensures.only) in
    let place : c.in-Ok.place ≡ length c.self.inside.list.items = omega (arith, c.in-Ok.ensures, c.len.ensures) in
    push-marked c.self.inside.list.items c.push.new.self.items c.self.inside.places.items
    (set c.self.inside.places.items c.args.number c.in-Ok.place) c.args.number l none c.in_ok-push.ensures.items
    (ap (set c.self.inside.places.items c.args.number) place) c.self.invariant

pub returns-clause-ok : goal.returns-clause-ok
returns-clause-ok c =
    let none = subst (λ (v : MarkedNumbers). list_any (nat_eq c.args.number) v.list ≡ false) (sym c.self.view_is)
    (not-marked c.args.self.now.list c.args.number c.place.result (sym c.is_some.ensures ∙ c.if-is_some.false) c.place.ensures.only) in
    subst (λ (v : MarkedNumbers). c.push.new.self.items ≡ insert_key nat_eq v.list c.args.number) c.self.view_is
    (pushed-key c.self.inside.list.items c.push.new.self.items c.args.number none c.in_ok-push.ensures.items)
