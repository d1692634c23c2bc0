use Rattle.std.proofs.Common.{length, ap, arith}
use Rattle.scr_fund_graph.specs.Graph.{Graph}
use Rattle.scr_fund_graph.proofs.graph.FundGraph.is_number.Goals as goal

pub bounds-as_slice-place : goal.bounds-as_slice-place
bounds-as_slice-place c =
    let count = ap (λ (g : Graph). length g.names) c.self.view_is in
    let long = ap length c.as_slice.ensures.keys in
    let small = c.if-place-below.true in
    grind (arith, small, c.requires, count, long)
