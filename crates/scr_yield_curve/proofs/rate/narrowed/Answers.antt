use Rattle.std.proofs.Common.{◌≡◌, ℕ, ◌+◌, ◌∙◌, ◌<◌, ◌++◌, List, [], ◌∷◌, ℤ, pos, length, take, set, ap, sym, get_or, arith, length-set}
use Rattle.std.proofs.lemmas.List.{take_more, take_more_set}
use Rattle.scr_yield_curve.proofs.StressLemmas.{narrowed_rate}
use Rattle.scr_yield_curve.proofs.rate.narrowed.Goals as goal

one_more : (narrow rates : List ℤ) (i : ℕ) (z : ℤ) → i < length narrow → i < length rates → z ≡ get_or rates i (pos 0) → take i narrow ≡ take i rates
    → take (i + 1) (set narrow i z) ≡ take (i + 1) rates
one_more narrow rates i z a b is same = take_more_set narrow i z a ∙ ap (λ (r : List ℤ). r ++ z ∷ []) same ∙ ap (λ (x : ℤ). take i rates ++ x ∷ []) is ∙ sym (take_more rates i (pos 0) b)

pub loop-i-preserved : goal.loop-i-preserved
loop-i-preserved c =
    let within : c.loop-i.i < length c.args.rates.now = omega (arith, c.loop-i-test.true) in
    record {
      places = length-set c.loop-i.narrow c.loop-i.i _ ∙ c.loop-i.invariant.places;
      same = one_more c.loop-i.narrow c.args.rates.now c.loop-i.i _ (omega (arith, within, c.loop-i.invariant.places, c.requires.at_most)) within
          (narrowed_rate (get_or c.args.rates.now c.loop-i.i (pos 0)) (c.requires.limits c.loop-i.i (pos 0) within)) c.loop-i.invariant.same;
    }
