use Rattle.std.proofs.Common.{arith}
use Rattle.std.proofs.lemmas.Int.{ints, clamps}
use Rattle.scr_num.specs.Rounding.{ends}
use Rattle.scr_num.proofs.AddedEnds.{same_ends}
use Rattle.scr_num.proofs.Enclosing.{Encloses-same}
use Rattle.scr_agg.proofs.NetAmounts.{Encloses-net}
use Rattle.scr_agg.proofs.absorbed.net.Goals as goal

pub returns-clause-ends : goal.returns-clause-ends
returns-clause-ends c = same_ends _ _ _ _ (omega (arith, ints, clamps)) (omega (arith, ints, clamps))

pub returns-clause-encloses : goal.returns-clause-encloses
returns-clause-encloses c =
    λ figure h. Encloses-same 1000 _ _ _ _ _ (omega (arith, ints, clamps)) (omega (arith, ints, clamps))
    (Encloses-net (ends c.args.gross) c.args.absorb figure h)
