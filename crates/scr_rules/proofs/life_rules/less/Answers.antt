use Rattle.std.proofs.Common.{◌≡◌, ◌≤◌, length, get_or, unsigned_abs, pos, ◌-ℤ◌, FitsSigned, w64, to_z-of_z, refl, arith, rules}
use Rattle.std.proofs.lemmas.Int.{ints, fits_signed_from_abs}
use Rattle.scr_rules.proofs.LifeCode.{differences-more, differences-all, one-of-sum}
use Rattle.scr_rules.proofs.life_rules.less.Goals as goal

pub loop-k-preserved : goal.loop-k-preserved
loop-k-preserved c =
    let k = c.loop-k.k in
    let x = get_or c.args.amounts.now k (pos 0) in
    let y = get_or c.args.others.now k (pos 0) in
    let amounts : length c.args.amounts.now ≡ 100 = search rules in
    let others : length c.args.others.now ≡ 100 = search rules in
    let within : unsigned_abs x ≤ 50_000_000_000_000 = omega (arith, one-of-sum c.args.amounts.now k (omega arith), c.requires.amounts) in
    let within' : unsigned_abs y ≤ 50_000_000_000_000 = omega (arith, one-of-sum c.args.others.now k (omega arith), c.requires.others) in
    let fits : FitsSigned w64 x = fits_signed_from_abs w64 x (omega (arith, within)) in
    let fits' : FitsSigned w64 y = fits_signed_from_abs w64 y (omega (arith, within')) in
    let both : FitsSigned w64 (x -ℤ y) = fits_signed_from_abs w64 (x -ℤ y) (omega (arith, ints, within, within')) in
    simp to_z-of_z (differences-more c.args.amounts.now c.args.others.now c.loop-k.differences k (x -ℤ y) (omega arith) refl c.loop-k.invariant)

pub returns : goal.returns
returns c = record { value = differences-all c.args.amounts.now c.args.others.now c.loop-k.differences c.loop-k.k (omega arith) c.loop-k.invariant }
