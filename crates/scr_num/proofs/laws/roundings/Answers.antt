use Rattle.scr_num.proofs.Quotients.{floor_div-times, floor_div-next, ceil_div-times, ceil_div-next}
use Rattle.scr_num.proofs.Roots.{floor_root-square, floor_root-greatest, ceil_root-square, ceil_root-least}
use Rattle.scr_num.proofs.laws.roundings.Goals as goal

pub returns-clause-floor_below : goal.returns-clause-floor_below
returns-clause-floor_below c = floor_div-times

pub returns-clause-floor_greatest : goal.returns-clause-floor_greatest
returns-clause-floor_greatest c = floor_div-next

pub returns-clause-ceil_above : goal.returns-clause-ceil_above
returns-clause-ceil_above c = ceil_div-times

pub returns-clause-ceil_least : goal.returns-clause-ceil_least
returns-clause-ceil_least c = ceil_div-next

pub returns-clause-floor_root_below : goal.returns-clause-floor_root_below
returns-clause-floor_root_below c = floor_root-square

pub returns-clause-floor_root_greatest : goal.returns-clause-floor_root_greatest
returns-clause-floor_root_greatest c = floor_root-greatest

pub returns-clause-ceil_root_above : goal.returns-clause-ceil_root_above
returns-clause-ceil_root_above c = ceil_root-square

pub returns-clause-ceil_root_least : goal.returns-clause-ceil_root_least
returns-clause-ceil_root_least c = ceil_root-least
