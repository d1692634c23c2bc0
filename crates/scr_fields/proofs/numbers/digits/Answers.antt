-- A bit for each digit.
use Rattle.std.proofs.Common.{◌≡◌, ltb, map, length, replicate, ap, ◌∙◌, arith, w8}
use Rattle.std.proofs.lemmas.Simd.{zip2_splat, bitmask_splat, map-map}
use Rattle.std.proofs.lemmas.List.{length-map}
use lib.Lanes.{zip2, mask_l}
use Rattle.scr_dates.proofs.Lanes.{less, lanes}
use Rattle.scr_fields.proofs.numbers.digits.Goals as goal

pub returns : goal.returns
returns c =
    let v = c.args.lanes in
    let long = c.fits-lanes.0 in
    let each : zip2 less v (replicate 8 48) ≡ map (λ b. less b 48) v = zip2_splat less v 8 48 long in
    let eight : length (zip2 less v (replicate 8 48)) ≡ 8 = ap length each ∙ length-map v (λ b. less b 48) ∙ long in
    bitmask_splat w8 ltb (zip2 less v (replicate 8 48)) 8 10 eight (omega arith)
    ∙ ap mask_l (ap (map (λ x. ltb x 10)) each ∙ map-map (λ x. ltb x 10) (λ b. less b 48) v ∙ lanes v c.fits-lanes.1)
