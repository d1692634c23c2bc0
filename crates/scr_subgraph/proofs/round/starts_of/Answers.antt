use Rattle.std.proofs.Common.{◌∙◌, ℕ, ◌+◌, Vec, ap, arith, subst, sym}
use Rattle.std.specs.Global.{Global}
use Rattle.scr_subgraph.proofs.Entering.{AreBegun, begun_done, begun_next, begun_past, rows-from}
use Rattle.scr_subgraph.proofs.round.starts_of.Goals as goal
use Rattle.scr_subgraph.proofs.round.starts_of.Goals.{then-is_start+in_ok-push, else-is_start}

pub loop-place-preserved : goal.loop-place-preserved
loop-place-preserved c =
    let rows = c.args.slots.now in
    let row = c.row.result.now in
    let next = rows-from rows c.loop-place.place row (omega arith) c.row.ensures in
    elim c.if-is_start.branch [
      | then-is_start+in_ok-push w ↦
          subst (λ items. AreBegun rows items (c.loop-place.place + 1))
          (sym (ap (λ (v : Vec ℕ Global). v.items) w.starts-is ∙ w.in_ok-push.ensures.items))
          (begun_next rows c.loop-place.starts.items c.loop-place.place row c.loop-place.invariant next (sym c.is_start.ensures ∙ w.if-is_start.true))
      | else-is_start w ↦
          subst (λ items. AreBegun rows items (c.loop-place.place + 1)) (sym (ap (λ (v : Vec ℕ Global). v.items) w.starts-is))
          (begun_past rows c.loop-place.starts.items c.loop-place.place row c.loop-place.invariant next (sym c.is_start.ensures ∙ w.if-is_start.false))
    ]

pub returns : goal.returns
returns c = begun_done c.args.slots.now c.loop-place.starts.items c.loop-place.place (omega arith) c.loop-place.invariant
