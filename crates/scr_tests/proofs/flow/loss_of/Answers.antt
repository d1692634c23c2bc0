-- What loss_of asks for.
use Rattle.std.proofs.Common.{pos, replicate, arith}
use Rattle.std.proofs.lemmas.Int.{ints}
use Rattle.std.proofs.lemmas.List.Elements.{All-replicate, All-set}
use Rattle.scr_yield_curve.specs.Parts.{IsRateInParts}
use Rattle.scr_tests.proofs.flow.loss_of.Goals as goal

two_percent : IsRateInParts (pos 140000000)
two_percent = record { low = omega (arith, ints); high = omega (arith, ints) }

three_percent : IsRateInParts (pos 210000000)
three_percent = record { low = omega (arith, ints); high = omega (arith, ints) }

pub discounts-requires : goal.discounts-requires
discounts-requires c = All-replicate IsRateInParts 100 (pos 140000000) two_percent

pub discounts-requires-2 : goal.discounts-requires-2
discounts-requires-2 c = All-set IsRateInParts (replicate 100 (pos 140000000)) 0 (pos 210000000) three_percent
    (All-replicate IsRateInParts 100 (pos 140000000) two_percent)
