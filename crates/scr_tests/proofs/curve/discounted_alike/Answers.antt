-- What discounted_alike asks for.
use Rattle.std.proofs.Common.{FitsSigned, w64, to_z-of_z, rules}
use Rattle.std.proofs.lemmas.List.Elements.{All-replicate}
use Rattle.scr_yield_curve.specs.Parts.{IsRateInParts}
use Rattle.scr_tests.proofs.curve.discounted_alike.Goals as goal

pub discounts-requires : goal.discounts-requires
discounts-requires c =
    let fits : FitsSigned w64 c.args.rate = search rules in
    All-replicate IsRateInParts 100 _ (simp to_z-of_z c.requires)
