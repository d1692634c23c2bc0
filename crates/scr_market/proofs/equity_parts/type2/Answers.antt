use Rattle.std.proofs.Common.{arith, sym, subst, ◌∙◌}
use Rattle.std.proofs.lemmas.Int.{ints}
use Rattle.scr_num.specs.Amounts.{IsAmount}
use Rattle.scr_num.proofs.Enclosing.{Encloses-span}
use Rattle.scr_market.specs.declared.equity_parts.TheConstants.{MAX_EQUITY_PART}
use Rattle.scr_market.specs.Equity.{type2_figure}
use Rattle.scr_market.specs.EquityEnds.{type2_ends}
use Rattle.scr_market.proofs.EquityBounds.{fall_at, type2-encloses, type2-size}
use Rattle.scr_market.proofs.equity_parts.type2.Goals as goal

pub returns-clause-ends : goal.returns-clause-ends
returns-clause-ends c =
    c.fall.ensures.value ∙ fall_at c.args.cents c.args.strategic c.unsigned.result 490000 c.args.sym
    (c.unsigned.ensures ∙ omega (arith, ints))

pub returns-clause-encloses : goal.returns-clause-encloses
returns-clause-encloses c =
    Encloses-span 1000 c.fall.result (type2_ends c.args.cents c.args.strategic c.args.sym)
    (type2_figure c.args.cents c.args.strategic c.args.sym) (returns-clause-ends c)
    (type2-encloses c.args.cents c.args.strategic c.args.sym)

pub returns-clause-size : goal.returns-clause-size
returns-clause-size c =
    subst (IsAmount MAX_EQUITY_PART) (sym (returns-clause-ends c))
    (type2-size c.args.sym c.requires.least c.requires.most c.args.cents c.args.strategic c.requires.held
    c.requires.strategic_held)
