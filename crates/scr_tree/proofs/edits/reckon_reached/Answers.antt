use Rattle.std.proofs.Common.{nat_eq, ◌≤◌, Contains, List, ℕ, sym, subst, ◌∙◌, length, arith}
use Rattle.std.specs.List.{IsDistinct}
use Rattle.scr_block_graph.specs.Books.{rolled_of}
use Rattle.scr_tree.specs.Marking.{AreReached, assets}
use Rattle.scr_tree.specs.Points.{StandsIn, book_graph, book_reckoning}
use Rattle.scr_tree.specs.Starts.{AreMarked}
use Rattle.scr_tree.proofs.AssetsMarked.{assets-found, found-assets}
use Rattle.scr_tree.proofs.Climbed.{others-known, reach-counted}
use Rattle.scr_tree.proofs.OfRows.{assets-stand}
use Rattle.scr_tree.proofs.TakenUp.{on-ok}
use Rattle.scr_tree.proofs.edits.reckon_reached.Goals as goal

pub mark_starts-requires-clause-numbers : goal.mark_starts-requires-clause-numbers
mark_starts-requires-clause-numbers g c = c.requires.graph.numbers_of

pub mark_starts-requires-clause-room : goal.mark_starts-requires-clause-room
mark_starts-requires-clause-room g c = c.requires.marked

pub climb-requires-clause-graph : goal.climb-requires-clause-graph
climb-requires-clause-graph g c = c.requires.graph

pub climb-requires-clause-valid : goal.climb-requires-clause-valid
climb-requires-clause-valid g c = c.requires.valid

pub climb-requires-clause-room : goal.climb-requires-clause-room
climb-requires-clause-room g c = subst (λ n. c.args.state.now.places.size ≤ n) (sym c.mark_starts.ensures.size) c.requires.marked

pub climb-requires-clause-starts : goal.climb-requires-clause-starts
climb-requires-clause-starts g c =
    let book = c.args.footing.book.now in
    let state = c.args.state.now in
    subst (λ (old : List ℕ). AreMarked (book_graph (rolled_of book)) (StandsIn book state.places state.lists) c.args.touched.now old c.mark_starts.new.marks.list)
    c.requires.marks c.in_ok-mark_starts.ensures.marked

pub ordered-requires-clause-valid : goal.ordered-requires-clause-valid
ordered-requires-clause-valid g c = c.requires.valid

pub ordered-requires-clause-graph : goal.ordered-requires-clause-graph
ordered-requires-clause-graph g c = c.requires.graph

pub ordered-requires-clause-once : goal.ordered-requires-clause-once
ordered-requires-clause-once g c = subst (IsDistinct nat_eq) (sym c.as_slice.ensures.list) c.as_slice.ensures.once

pub ordered-requires-clause-live : goal.ordered-requires-clause-live
ordered-requires-clause-live g c = λ number h.
    let n = c.in_ok-climb.ensures.marked.each number (subst (λ (list : List ℕ). Contains list number) c.as_slice.ensures.list h) in
    (n.0, n.1, (n.2).live)

pub reckon_in_place-requires-clause-basis : goal.reckon_in_place-requires-clause-basis
reckon_in_place-requires-clause-basis g c = record {
  valid = c.requires.valid;
  graph = c.requires.graph;
  rates = c.new_or_kept.ensures ∙ c.requires.rates_after;
}

pub reckon_in_place-requires-clause-order : goal.reckon_in_place-requires-clause-order
reckon_in_place-requires-clause-order g c = (c.in_ok-order.ensures.0, c.in_ok-order.ensures.2)

pub place-requires : goal.place-requires
place-requires g c =
    let book = c.args.footing.book.now in
    let state = c.args.state.now in
    let of = c.requires.graph.numbers_of in
    let low = of.numbers.within assets 153 (assets-stand book state.places state.lists of) in
    let room = c.requires.marked in
    omega (arith, low, room, c.mark_starts.ensures.size, c.climb.ensures.size)

pub reckon_in_place-requires-clause-known : goal.reckon_in_place-requires-clause-known
reckon_in_place-requires-clause-known g c =
    let book = c.args.footing.book.now in
    let state = c.args.state.now in
    let of = c.requires.graph.numbers_of in
    let marks = c.climb.new.marks.list in
    let reached = c.in_ok-order.ensures in
    others-known book state.places state.lists c.args.touched.now of marks c.in_ok-climb.ensures.marked c.is_some-squares.result
    (λ yes. assets-found book state.places state.lists of marks c.place.result c.place.ensures.there (sym c.is_some-squares.ensures ∙ yes))
    (λ left. c.is_some-squares.ensures ∙ found-assets book state.places state.lists of marks c.place.result c.place.ensures.only left)
    reached.0 c.in_ok-order.order.numbers.items c.in_ok-order.order.ends.items
    (subst (λ (list : List ℕ). AreReached book state.places state.lists c.is_some-squares.result list reached.0) c.as_slice.ensures.list reached.1) reached.2
    (book_reckoning c.args.footing.factors.now (rolled_of book)) state.figures c.requires.others

pub reckon_in_place-requires-clause-sums : goal.reckon_in_place-requires-clause-sums
reckon_in_place-requires-clause-sums g c = λ figures block number numbers live all at ats.
    c.requires.blocks block number numbers live (c.are_figures.ensures.yes figures block) at ats

pub returns-clause-steps : goal.returns-clause-steps
returns-clause-steps g c =
    let book = c.args.footing.book.now in
    let state = c.args.state.now in
    let of = c.requires.graph.numbers_of in
    let marks = c.climb.new.marks.list in
    let reached = c.in_ok-order.ensures in
    on-ok c.reckon_in_place.result _ _ (λ counted. (
      length c.in_ok-order.order.numbers.items,
      reach-counted book state.places state.lists c.args.touched.now of marks c.in_ok-climb.ensures.marked c.is_some-squares.result
          (λ yes. assets-found book state.places state.lists of marks c.place.result c.place.ensures.there (sym c.is_some-squares.ensures ∙ yes))
          (λ left. c.is_some-squares.ensures ∙ found-assets book state.places state.lists of marks c.place.result c.place.ensures.only left)
          reached.0 c.in_ok-order.order.numbers.items c.in_ok-order.order.ends.items
          (subst (λ (list : List ℕ). AreReached book state.places state.lists c.is_some-squares.result list reached.0) c.as_slice.ensures.list reached.1) reached.2,
      counted,
    )) c.reckon_in_place.ensures.steps
