use Rattle.std.proofs.Common.{◌≤◌, arith, rules}
use Rattle.std.proofs.lemmas.Int.{ints}
use Rattle.scr_num.proofs.Roots.{floor_root-le-ceil_root}
use Rattle.scr_num.proofs.Enclosing.{Encloses-same, Encloses-root_of}
use Rattle.scr_num.proofs.root_of.Goals as goal

pub invariant_of-result : goal.invariant_of-result
invariant_of-result c =
    let in_order : c.floor_root-low.result ≤ c.ceil_root_near-high.result =
    rw (c.floor_root-low.ensures.value, c.ceil_root_near-high.ensures.value) (floor_root-le-ceil_root _ _ (search rules)) in
    record { ordered = omega (arith, ints) }

pub returns-clause-encloses : goal.returns-clause-encloses
returns-clause-encloses c =
    λ unit f in_a. Encloses-same unit _ _ _ _ _ (search rules) (search rules)
    (Encloses-root_of unit c.args.a.low c.args.a.high f in_a)
