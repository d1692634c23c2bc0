use Rattle.std.proofs.Common.{◌+◌, ap, arith, drop, length, sym, ◌∙◌}
use Rattle.std.specs.Prelude.{option_map}
use Rattle.scr_board.specs.Places.{spot_of}
use Rattle.scr_board.specs.BoardRounds.{nodes_in, places_at}
use Rattle.scr_board.proofs.Rows.{drop-next, drop-past, get-past_end, nodes-next}
use Rattle.scr_board.proofs.making.source_count.Goals as goal

pub loop-k-preserved : goal.loop-k-preserved
loop-k-preserved g c =
    let row = places_at (g.G.Graph.round c.args.graph.now) c.args.n in
    let at = sym c.place.ensures ∙ ap (option_map spot_of) c.in-Some.is in
    let next = ap (λ xs. length (nodes_in xs)) (drop-next row c.loop-k.k (spot_of c.in-Some.place) at) in
    let parts = nodes-next (spot_of c.in-Some.place) (drop (c.loop-k.k + 1) row) in
    let before = c.loop-k.invariant.count in
    let one = c.source_in-count.ensures.count in
    record { count = omega (arith, next, parts, before, one); low = omega arith }

pub returns-in-None : goal.returns-in-None
returns-in-None g c =
    let row = places_at (g.G.Graph.round c.args.graph.now) c.args.n in
    let past = get-past_end row c.loop-k.k (sym c.place.ensures ∙ ap (option_map spot_of) c.in-None.is) in
    let none = ap (λ xs. length (nodes_in xs)) (drop-past row c.loop-k.k past) in
    let count = c.loop-k.invariant.count in
    omega (arith, none, count)
