use Rattle.scr_num.proofs.Enclosing.{Encloses-span}
use Rattle.scr_num.specs.Rounding.{ends}
use Rattle.scr_market.specs.Equity.{equity_root_figure}
use Rattle.scr_market.specs.EquityEnds.{equity_root_ends}
use Rattle.scr_market.proofs.EquityBounds.{root-encloses}
use Rattle.scr_market.proofs.equity_parts.equity_root.Goals as goal

pub returns-clause-encloses : goal.returns-clause-encloses
returns-clause-encloses c =
    λ f g h k. Encloses-span 1000 c.quad.result (equity_root_ends (ends c.args.type1) (ends c.args.others))
    (equity_root_figure f g) c.quad.ensures.ends
    (root-encloses (ends c.args.type1) (ends c.args.others) f g c.requires.lows.0 c.requires.lows.1.0 h k)
