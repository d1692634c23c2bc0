use Rattle.std.proofs.Common.{arith, sym, subst, ◌∙◌}
use Rattle.std.proofs.lemmas.Int.{ints}
use Rattle.scr_num.specs.Amounts.{IsAmount}
use Rattle.scr_num.proofs.Enclosing.{Encloses-span}
use Rattle.scr_market.specs.declared.equity_parts.TheConstants.{MAX_EQUITY_PART}
use Rattle.scr_market.specs.Equity.{infra_figure}
use Rattle.scr_market.specs.EquityEnds.{infra_ends}
use Rattle.scr_market.proofs.EquityBounds.{infrastructure_at, infra-encloses, infra-size}
use Rattle.scr_market.proofs.equity_parts.infra.Goals as goal

pub returns-clause-ends : goal.returns-clause-ends
returns-clause-ends c =
    c.infrastructure_fall.ensures.value ∙ infrastructure_at c.args.cents c.unsigned.result 30000000 77 c.args.sym
    (c.unsigned.ensures ∙ omega (arith, ints))

pub returns-clause-encloses : goal.returns-clause-encloses
returns-clause-encloses c =
    Encloses-span 1000 c.infrastructure_fall.result (infra_ends c.args.cents c.args.sym)
    (infra_figure c.args.cents c.args.sym) (returns-clause-ends c)
    (infra-encloses c.args.cents c.args.sym)

pub returns-clause-size : goal.returns-clause-size
returns-clause-size c =
    subst (IsAmount MAX_EQUITY_PART) (sym (returns-clause-ends c))
    (infra-size c.args.sym c.requires.least c.requires.most c.args.cents c.requires.held)
