use Rattle.std.proofs.Common.{◌≡◌, ℕ, ◌-◌, ◌<◌, ◌≤◌, List, ◌∷◌, [], get_or, set, length, take, subst, sym, ap, ◌∙◌, inl, inr, arith}
use Rattle.std.proofs.lemmas.List.{length-take, take-append-le}
use Rattle.scr_funds.specs.HandedOn.{AreReady}
use Rattle.scr_funds.proofs.RowSteps.{waits, waits_less, ready_more, ready_same}
use Rattle.scr_funds.proofs.look_through.release.Goals as goal
use Rattle.scr_funds.proofs.look_through.release.Goals.{then-count-eq0+then-component-funds+in_ok-push, else-count-eq0, else-count-eq0-via-then-count-eq0+else-component-funds, else-count-eq0-via-else-count-eq0}

pub overflow_sub-count : goal.overflow_sub-count
overflow_sub-count c =
    waits c.args.waiting.now c.loop-component.waiting c.args.row.now c.loop-component.component-index
    c.loop-component-test.true c.requires.counted c.loop-component.invariant.counts

pub loop-component-preserved : goal.loop-component-preserved
loop-component-preserved c = record {
  counts = λ x. waits_less c.args.waiting.now c.loop-component.waiting c.args.row.now c.loop-component.component-index x
      c.loop-component-test.true within some (c.loop-component.invariant.counts x);
  ready = elim c.if-count-eq0.branch [
    | then-count-eq0+then-component-funds+in_ok-push w ↦
        subst (λ v. AreReady c.args.funds less v.items) (sym w.ready-is)
        (subst (AreReady c.args.funds less) (sym w.in_ok-push.ensures.items)
        (ready_more c.args.funds c.loop-component.waiting c.loop-component.ready.items component
        c.loop-component.invariant.ready within some w.if-component-funds.true w.if-count-eq0.true))
    | else-count-eq0 w ↦
        subst (λ v. AreReady c.args.funds less v.items) (sym w.ready-is)
        (ready_same c.args.funds c.loop-component.waiting c.loop-component.ready.items component
        c.loop-component.invariant.ready within some
        (elim w.else-count-eq0.branch [
          | else-count-eq0-via-then-count-eq0+else-component-funds v ↦ inr v.if-component-funds.false
          | else-count-eq0-via-else-count-eq0 v ↦ inl
              (above (get_or c.loop-component.waiting component 0 - 1) v.if-count-eq0.false)
        ]))
  ];
  front = elim c.if-count-eq0.branch [
    | then-count-eq0+then-component-funds+in_ok-push w ↦
        ap (λ v. take (length c.args.ready.now.items) v.items) w.ready-is
        ∙ ap (take (length c.args.ready.now.items)) w.in_ok-push.ensures.items
        ∙ take-append-le (length c.args.ready.now.items) c.loop-component.ready.items (component ∷ []) longer
        ∙ c.loop-component.invariant.front
    | else-count-eq0 w ↦ ap (λ v. take (length c.args.ready.now.items) v.items) w.ready-is
        ∙ c.loop-component.invariant.front
  ];
}
  where
    component : ℕ
    component = (get_or c.args.row.now c.loop-component.component-index (0, 0)).0

    less : List ℕ
    less = set c.loop-component.waiting component (get_or c.loop-component.waiting component 0 - 1)

    within : component < length c.loop-component.waiting
    within = let below = c.requires.below c.loop-component.component-index (0, 0) c.loop-component-test.true in
        omega arith

    some : 0 < get_or c.loop-component.waiting component 0
    some = waits c.args.waiting.now c.loop-component.waiting c.args.row.now c.loop-component.component-index
        c.loop-component-test.true c.requires.counted c.loop-component.invariant.counts

    above : (n : ℕ) → (n ≡ 0 → ⊥) → 0 < n
    above n some = omega arith

    longer : length c.args.ready.now.items ≤ length c.loop-component.ready.items
    longer = let least = length-take (length c.args.ready.now.items) c.loop-component.ready.items in let front =
        ap length c.loop-component.invariant.front in omega arith
