use Rattle.std.proofs.Common.{◌++◌, [], ◌∷◌, length, sym, ap, ◌∙◌, arith}
use Rattle.std.proofs.lemmas.List.{length_push}
use Rattle.scr_parallel.proofs.Pushed.{range-more}
use Rattle.scr_parallel.proofs.drawing.starts_of.Goals as goal

pub loop-n-preserved : goal.loop-n-preserved
loop-n-preserved c =
    let items = c.in_ok-push.ensures.items in
    let long = ap (λ xs. length xs) items in
    let push = length_push c.loop-n.starts.items c.loop-n.n in
    let count = c.loop-n.invariant.count in
    record {
      starts = items ∙ ap (λ xs. xs ++ c.loop-n.n ∷ []) c.loop-n.invariant.starts ∙ sym (range-more 0 c.loop-n.n c.loop-n.n (omega arith));
      count = omega (arith, long, push, count);
    }
