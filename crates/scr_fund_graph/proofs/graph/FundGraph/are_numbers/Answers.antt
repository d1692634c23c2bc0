use Rattle.std.proofs.Common.{sym, arith}
use Rattle.scr_fund_graph.proofs.KeptRows.{numbers-none}
use Rattle.scr_fund_graph.proofs.graph.FundGraph.are_numbers.Goals as goal

pub returns-then-numbers-components : goal.returns-then-numbers-components
returns-then-numbers-components c =
    sym (numbers-none c.args.below c.args.numbers.now c.args.components.now c.args.self.now (λ e. let apart = c.if-numbers-components.true in grind (arith, apart, e)))
