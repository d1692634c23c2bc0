use Rattle.std.proofs.Common.{◌≡◌, ◌<◌, ◌≤◌, ℕ, List, Some, ap, arith, get_or, length, nat_eq, slice_get, subst, sym, take, ◌∙◌}
use Rattle.std.proofs.lemmas.Option.{slice_get-get_or}
use Rattle.indexmap.specs.IndexSet.{insert_all}
use Rattle.scr_reachability.proofs.Climbing.{IsClimbed, climbed_all, climbed_next, climbed_none, dependants_in, first_entered, first_stays}
use Rattle.scr_reachability.proofs.climbs.mark_reached.Goals as goal

pub loop-place-init : goal.loop-place-init
loop-place-init c =
    let is = c.in_ok-mark_all.ensures.list ∙ ap (λ (ks : List ℕ). insert_all nat_eq ks c.args.starts.now) c.requires.none in
    record {
      climbed = subst (λ keys. IsClimbed c.args.links.now.edges c.args.starts.now keys 0) (sym is)
          (climbed_none c.args.links.now.edges c.args.starts.now);
      size = c.in_ok-mark_all.ensures.size;
      first = ap (take (length c.args.starts.now)) is ∙ first_entered c.args.starts.now c.requires.apart;
    }

pub loop-place-preserved : goal.loop-place-preserved
loop-place-preserved c =
    let number = get_or c.as_slice-in-loop-place.result.now c.loop-place.place 0 in
    let l : c.loop-place.place < length c.loop-place.marked.list = omega (arith, ap length c.as_slice.ensures.list, c.loop-place-test.true) in
    let at : slice_get c.loop-place.marked.list c.loop-place.place ≡ Some number =
    slice_get-get_or c.loop-place.marked.list c.loop-place.place 0 l
    ∙ ap (λ (keys : List ℕ). Some (get_or keys c.loop-place.place 0)) (sym c.as_slice-in-loop-place.ensures.list) in
    record {
      climbed = climbed_next c.args.links.now c.args.starts.now c.loop-place.marked.list c.mark_dependants.new.marked.list
          c.loop-place.place number c.loop-place.invariant.climbed l at c.in_ok-mark_dependants.ensures.list;
      size = c.in_ok-mark_dependants.ensures.size ∙ c.loop-place.invariant.size;
      first = first_stays c.args.starts.now c.loop-place.marked.list (dependants_in c.args.links.now number)
          c.mark_dependants.new.marked.list c.loop-place.invariant.first c.in_ok-mark_dependants.ensures.list;
    }

pub returns-clause-reached : goal.returns-clause-reached
returns-clause-reached c =
    let past : length c.loop-place.marked.list ≤ c.loop-place.place = omega (arith, ap length c.as_slice.ensures.list, c.loop-place-test.false) in
    climbed_all c.args.links.now.edges c.args.starts.now c.loop-place.marked.list c.loop-place.place
    c.loop-place.invariant.climbed past c.as_slice.ensures.once
