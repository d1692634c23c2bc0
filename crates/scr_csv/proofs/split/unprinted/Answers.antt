-- A bit for each byte that is not printed.
use Rattle.std.proofs.Common.{◌≡◌, ltb, map, length, replicate, ap, ◌∙◌, arith, w8}
use Rattle.std.proofs.lemmas.Simd.{zip2_splat, bitmask_splat, map-map}
use Rattle.std.proofs.lemmas.List.{length-map}
use lib.Lanes.{zip2, mask_l}
use Rattle.scr_csv.proofs.Lanes.{less, lanes}
use Rattle.scr_csv.proofs.split.unprinted.Goals as goal

pub returns : goal.returns
returns c =
    let v = c.args.lanes in
    let long = c.fits-lanes.0 in
    let each : zip2 less v (replicate 16 127) ≡ map (λ b. less b 127) v = zip2_splat less v 16 127 long in
    let count : length (zip2 less v (replicate 16 127)) ≡ 16 = ap length each ∙ length-map v (λ b. less b 127) ∙ long in
    bitmask_splat w8 ltb (zip2 less v (replicate 16 127)) 16 161 count (omega arith)
    ∙ ap mask_l (ap (map (λ x. ltb x 161)) each ∙ map-map (λ x. ltb x 161) (λ b. less b 127) v ∙ lanes v c.fits-lanes.1)
