use Rattle.std.proofs.Common.{rules}
use Rattle.scr_num.proofs.Enclosing.{Encloses-span}
use Rattle.scr_market.specs.Property.{property_figure}
use Rattle.scr_market.specs.PropertyEnds.{property_ends}
use Rattle.scr_market.proofs.PropertyLemmas.{property-encloses}
use Rattle.scr_market.proofs.property_risk.property.Goals as goal

pub returns-clause-ends : goal.returns-clause-ends
returns-clause-ends c = search rules

pub returns-clause-encloses : goal.returns-clause-encloses
returns-clause-encloses c =
    Encloses-span 1000 c.exact.result (property_ends c.args.sum) (property_figure c.args.sum) (returns-clause-ends c)
    (property-encloses c.args.sum)
