-- The bytes are the same where no lane is apart.
use Rattle.std.proofs.Common.{◌≡◌, length, ap, sym, ◌∙◌, ◌%◌, ◌^◌, arith, eqb, w8}
use Rattle.std.proofs.lemmas.Simd.{tops_compared, mask_l-mod, length-zip2}
use lib.Lanes.{zip2, mask_l}
use Rattle.scr_tables.proofs.Apart.{differs, none_apart}
use Rattle.scr_tables.proofs.name.are_same.Goals as goal

pub returns : goal.returns
returns c =
    let xs = c.args.cells.now in
    let ys = c.args.others.now in
    let long : length xs ≡ length ys = c.told-cells ∙ sym c.told-others in
    let few : length (zip2 differs xs ys) ≡ 32 = length-zip2 differs xs ys long ∙ c.told-cells in
    ap (λ mask. eqb mask 0)
    (ap (λ ms. mask_l ms % 2 ^ 64) (tops_compared w8 differs xs ys)
    ∙ mask_l-mod (zip2 differs xs ys) 64 (omega (arith, few)))
    ∙ none_apart xs ys long
