-- More room leaves the edges as they are.
use Rattle.std.proofs.Common.{◌≡◌, ℕ, ◌≤◌, ◌+◌, ◌-◌, max, ap, subst, ◌∙◌, arith, Result, Ok, Err, OnErr}
use Rattle.scr_links.specs.Edges.{Linked, linked}
use Rattle.scr_links.specs.Kept.{linked_of}
use Rattle.scr_links.proofs.States.{enough, grown_kept, grown_view, reserved_kept, reserved_view}
use Rattle.scr_links.proofs.links.Links.reserve.Goals as goal

pub returns-then-size-self-clause-ok : goal.returns-then-size-self-clause-ok
returns-then-size-self-clause-ok c =
    subst (λ (v : Linked). v ≡ linked v.edges (max v.spare c.args.n) (max v.size c.args.size)) c.self.view_is
    (enough (linked_of c.self.inside) c.args.n c.args.size c.if-n-self.true c.if-size-self.true)

pub invariant_of-self : goal.invariant_of-self
invariant_of-self c = grown_kept c.self.inside c.self.invariant c.grow.new.self c.grow.ensures.grown

on_err : {A E P : Type 0} (r : Result A E) → P → OnErr r P
on_err (Ok a) p = tt
on_err (Err e) p = p

pub returns-in_err-grow-clause-err : goal.returns-in_err-grow-clause-err
returns-in_err-grow-clause-err c =
    on_err c.from_residual-in_err-grow.result
    (grown_view c.self.inside c.self.invariant c.grow.new.self c.grow.ensures.grown ∙ c.self.view_is)

pub invariant_of-self-2 : goal.invariant_of-self-2
invariant_of-self-2 c =
    let more : c.self.inside.places ≤ c.in_ok-places.places = omega (arith, c.in_ok-places.ensures.count) in
    let wider : c.self.inside.size ≤ c.max-size.result = omega (arith, c.max-size.ensures) in
    let spare : ℕ = c.self.inside.spare + (c.in_ok-places.places - c.self.inside.places) in
    let counts : spare + c.self.inside.places ≡ c.self.inside.spare + c.in_ok-places.places = omega (arith, more) in
    reserved_kept c.self.inside c.self.invariant c.grow.new.self c.grow.ensures.grown c.in_ok-places.places
    spare c.max-size.result c.in_ok-grow.ensures.ok c.in_ok-places.ensures.few c.free.new.order c.free.ensures
    more wider counts

pub returns-clause-ok : goal.returns-clause-ok
returns-clause-ok c =
    let more : c.self.inside.places ≤ c.in_ok-places.places = omega (arith, c.in_ok-places.ensures.count) in
    let wider : c.self.inside.size ≤ c.max-size.result = omega (arith, c.max-size.ensures) in
    let spare : ℕ = c.self.inside.spare + (c.in_ok-places.places - c.self.inside.places) in
    let counts : spare + c.self.inside.places ≡ c.self.inside.spare + c.in_ok-places.places = omega (arith, more) in
    let is_spare : spare ≡ max c.args.self.now.spare c.args.n =
    (let same : spare ≡ max c.self.inside.spare c.args.n = omega (arith, c.in_ok-places.ensures.count) in
    same ∙ ap (λ (v : Linked). max v.spare c.args.n) c.self.view_is) in
    let is_size : c.max-size.result ≡ max c.args.self.now.size c.args.size =
    c.max-size.ensures ∙ ap (λ (v : Linked). max v.size c.args.size) c.self.view_is in
    reserved_view c.self.inside c.self.invariant c.grow.new.self c.grow.ensures.grown c.in_ok-places.places
    spare c.max-size.result c.in_ok-grow.ensures.ok c.in_ok-places.ensures.few c.free.new.order c.free.ensures
    more wider counts c.args.self.now c.self.view_is
    ∙ ap (λ (n : ℕ). linked c.args.self.now.edges n c.max-size.result) is_spare
    ∙ ap (λ (n : ℕ). linked c.args.self.now.edges (max c.args.self.now.spare c.args.n) n) is_size
