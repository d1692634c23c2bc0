use Rattle.std.proofs.Common.{◌≤◌, ◌<◌, length, sym, ap, subst, ◌∙◌, arith, rules}
use Rattle.scr_fund_graph.specs.Graph.{Graph}
use Rattle.scr_fund_graph.proofs.Graphs.{Sound, sound-from_inside}
use Rattle.scr_fund_graph.proofs.KeptRows.{number-told}
use Rattle.scr_fund_graph.proofs.graph.FundGraph.found_number.Goals as goal

pub returns-in-Some : goal.returns-in-Some
returns-in-Some c =
    let s = subst Sound c.self.view_is (sound-from_inside c.self.inside c.self.invariant) in
    let graph = c.args.self.now in
    let count = ap (λ (g : Graph). length g.names) c.self.view_is in
    let few : c.len.result ≤ length graph.names = omega (arith, c.len.ensures.len, count) in
    let told = number-told graph.names graph.components s.distinct c.len.result few c.in-Some.number.now c.args.name.now (sym c.is_number.ensures ∙ c.if-is_number.true) in
    let within : c.args.place < length c.args.found.now = search rules in
    (told.0, told.2, within)
