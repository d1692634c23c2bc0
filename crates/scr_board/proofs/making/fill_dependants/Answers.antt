use Rattle.std.proofs.Common.{◌≡◌, ◌<◌, ◌^◌, List, [], ℕ, Some, arith, get_or, length, slice_get, sym, ◌∙◌}
use Rattle.scr_board.proofs.Rows.{each_row, get-past_end, get-within, take-past, take-zero, taken-next}
use Rattle.scr_board.proofs.making.fill_dependants.Goals as goal

pub loop-k-init : goal.loop-k-init
loop-k-init g c = record {
  row = c.clear.ensures.items ∙ sym (take-zero (get_or (g.G.Graph.round c.args.graph.now).dependants c.args.n []));
  within = omega arith;
}

pub loop-k-preserved : goal.loop-k-preserved
loop-k-preserved g c =
    let at : slice_get (get_or (g.G.Graph.round c.args.graph.now).dependants c.args.n []) c.loop-k.k ≡ Some c.in-Some.dependant
    = sym c.dependant.ensures ∙ c.in-Some.is in
    record {
      row = taken-next _ c.loop-k.k c.in-Some.dependant c.loop-k.row.items c.push.new.self.items at c.in_ok-push-in-Some.ensures.items
          c.loop-k.invariant.row;
      within = get-within _ c.loop-k.k c.in-Some.dependant at;
    }

pub returns-in-None : goal.returns-in-None
returns-in-None g c = c.loop-k.invariant.row ∙ take-past _ c.loop-k.k (get-past_end _ c.loop-k.k (sym c.dependant.ensures ∙ c.in-None.is))

pub returns-after-loop-k : goal.returns-after-loop-k
returns-after-loop-k g c =
    let formed = g.met.G.Graph.forms c.args.graph.now c.requires.graph in
    let known = formed.known in
    let node = c.requires.node in
    let few = each_row (λ (row : List ℕ). length row < 2 ^ 32) (g.G.Graph.round c.args.graph.now).dependants c.args.n formed.few_dependants
    (omega (arith, known, node)) in
    let end = c.loop-k-test.false in
    c.loop-k.invariant.row ∙ take-past _ c.loop-k.k (omega (arith, few, end))
