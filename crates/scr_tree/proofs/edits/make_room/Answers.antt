use Rattle.std.proofs.Common.{◌∷◌, List, [], length, slice_get, refl, ap, ◌∙◌, arith}
use Rattle.std.proofs.lemmas.List.{length-append}
use Rattle.scr_partial_sums.specs.Tables.{nothing}
use Rattle.scr_partial_sums.specs.declared.figure.Figure.{Figure}
use Rattle.scr_tree.proofs.Slices.{got-front}
use Rattle.scr_tree.proofs.edits.make_room.Goals as goal

pub loop-figures-init : goal.loop-figures-init
loop-figures-init c = record { long = omega arith; most = λ bound was asked. was; kept = λ number low. refl }

pub loop-figures-preserved : goal.loop-figures-preserved
loop-figures-preserved c = record {
  long =
      let more = ap length c.in_ok-push.ensures.ok ∙ length-append c.loop-figures.figures (nothing ∷ []) in
      let long = c.loop-figures.invariant.long in
      omega (arith, more, long);
  most = λ bound was asked.
      let more = ap length c.in_ok-push.ensures.ok ∙ length-append c.loop-figures.figures (nothing ∷ []) in
      omega (arith, more, asked);
  kept = λ number low.
      ap (λ (figures : List Figure). slice_get figures number) c.in_ok-push.ensures.ok
      ∙ got-front c.loop-figures.figures (nothing ∷ []) number (omega (arith, low, c.loop-figures.invariant.long))
      ∙ c.loop-figures.invariant.kept number low;
}

pub loop-figures-smaller : goal.loop-figures-smaller
loop-figures-smaller c =
    let more = ap length c.in_ok-push.ensures.ok ∙ length-append c.loop-figures.figures (nothing ∷ []) in
    omega (arith, more)
