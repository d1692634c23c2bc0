use Rattle.std.proofs.Common.{length, ap, arith}
use Rattle.scr_fund_graph.specs.Graph.{Graph}
use Rattle.scr_fund_graph.proofs.graph.FundGraph.stands_for.Goals as goal

pub is_number-requires : goal.is_number-requires
is_number-requires c =
    let count = ap (λ (g : Graph). length g.names) c.self.view_is in
    omega (arith, c.size-below.ensures, c.self.invariant.named, count)

pub are_numbers-requires : goal.are_numbers-requires
are_numbers-requires c =
    let count = ap (λ (g : Graph). length g.names) c.self.view_is in
    omega (arith, c.size-below.ensures, c.self.invariant.named, count)
