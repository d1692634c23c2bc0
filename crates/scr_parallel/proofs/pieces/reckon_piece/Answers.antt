use Rattle.std.proofs.Common.{◌≡◌, ◌+◌, ◌-◌, ◌++◌, ◌∷◌, [], ap, subst, ◌∙◌, arith}
use Rattle.scr_parallel.specs.Rows.{AreOfRows, IsPushed, rows_from}
use Rattle.scr_parallel.proofs.Pushed.{pushed-next}
use Rattle.scr_parallel.proofs.pieces.reckon_piece.Goals as goal

pub loop-place-preserved : goal.loop-place-preserved
loop-place-preserved g c =
    let piece = c.args.piece in
    let place = c.loop-place.place in
    let high = c.loop-place.auto.place in
    let there : piece.from + (place - piece.from) ≡ place = omega (arith, high) in
    let next : place - piece.from + 1 ≡ place + 1 - piece.from = omega (arith, high) in
    record {
      spans = subst
          (λ many. IsPushed (AreOfRows (g.P.RowPlan.is_row c.args.plan.now) (rows_from piece.sort piece.from many)) c.args.part.now.spans.items
          c.reckon.new.spans.items) next
          (pushed-next (g.P.RowPlan.is_row c.args.plan.now) piece.sort piece.from (place - piece.from) place c.args.part.now.spans.items
          c.loop-place.part.spans.items c.reckon.new.spans.items there c.loop-place.invariant.spans c.in_ok-reckon.ensures);
      pieces = c.loop-place.invariant.pieces;
    }

pub returns : goal.returns
returns g c =
    let piece = c.args.piece in
    let end = c.loop-place.auto.place-end in
    let past = c.loop-place-test.false in
    let ordered = c.requires.within.ordered in
    let last = end ordered in
    let same : c.loop-place.place - piece.from ≡ piece.end - piece.from = omega (arith, last, past) in
    record {
      own = c.loop-place.invariant.spans.own;
      pieces = c.in_ok-push.ensures.items ∙ ap (λ v. v.items ++ piece ∷ []) c.loop-place.invariant.pieces;
      spans = c.loop-place.invariant.spans.now_is;
      rows = subst (λ many. AreOfRows (g.P.RowPlan.is_row c.args.plan.now) (rows_from piece.sort piece.from many) c.loop-place.invariant.spans.own) same
          c.loop-place.invariant.spans.right;
    }
