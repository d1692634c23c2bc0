use Rattle.std.proofs.Common.{ℕ, List, Contains, nat_eq, sym, subst, arith}
use Rattle.std.specs.List.{IsDistinct}
use Rattle.scr_reachability.specs.LinkedDues.{IsLiveAt}
use Rattle.scr_sheet.specs.Validity.{Valid}
use Rattle.scr_block_graph.specs.Books.{rolled_of}
use Rattle.scr_tree.specs.Figures.{AreSettled}
use Rattle.scr_tree.specs.First.{IsWhole, numbers_of}
use Rattle.scr_tree.specs.Left.{AreLeft}
use Rattle.scr_tree.specs.Order.{IsOrder}
use Rattle.scr_tree.specs.Points.{AreNumbersOf, IsGraphOf, StandsIn, book_graph, book_reckoning}
use Rattle.scr_tree.specs.declared.graph.{Graph.Graph, Numbers.Numbers}
use Rattle.scr_tree.proofs.FirstRows.{on-ok}
use Rattle.scr_tree.proofs.LeftKnown.{left-graph, left-known, left-made}
use Rattle.scr_tree.proofs.LeftNumbers.{live-left}
use Rattle.scr_tree.proofs.left.put_left.Goals as goal

pub left_numbers-requires : goal.left_numbers-requires
left_numbers-requires g c = record {
  numbers = subst (λ (n : Numbers). AreNumbersOf n.book.now n.places.now n.lists.now) (sym c.numbers.ensures) c.requires.linked.ground.points;
}

pub ordered-requires-clause-valid : goal.ordered-requires-clause-valid
ordered-requires-clause-valid g c = subst (λ (h : Graph). Valid h.numbers.book.now.sheet) (sym c.graph.ensures) c.requires.linked.ground.valid

pub ordered-requires-clause-graph : goal.ordered-requires-clause-graph
ordered-requires-clause-graph g c =
    subst (λ (h : Graph). IsGraphOf h.numbers.book.now h.numbers.places.now h.numbers.lists.now h.links.now.edges) (sym c.graph.ensures)
    (left-graph c.args.linked.ground c.requires.linked.ground c.args.linked.links.now c.requires.linked.links)

pub ordered-requires-clause-once : goal.ordered-requires-clause-once
ordered-requires-clause-once g c = subst (IsDistinct nat_eq) (sym c.as_slice.ensures.value) c.in_ok-left.ensures.once

pub ordered-requires-clause-live : goal.ordered-requires-clause-live
ordered-requires-clause-live g c = λ number h.
    subst (λ (h : Graph). IsLiveAt (book_graph (rolled_of h.numbers.book.now)) (StandsIn h.numbers.book.now h.numbers.places.now h.numbers.lists.now) number)
    (sym c.graph.ensures)
    (live-left (numbers_of c.args.linked.ground) number ((subst (λ (n : Numbers). AreLeft n c.in_ok-left.left.items) c.numbers.ensures c.in_ok-left.ensures).each number
    (subst (λ (xs : List ℕ). Contains xs number) c.as_slice.ensures.value h)))

pub reckon_together-requires-clause-basis : goal.reckon_together-requires-clause-basis
reckon_together-requires-clause-basis g c κs within = record {
  valid = c.requires.linked.ground.valid;
  graph = left-graph c.args.linked.ground c.requires.linked.ground c.args.linked.links.now c.requires.linked.links;
  rates = c.requires.linked.ground.rates;
}

pub reckon_together-requires-clause-order : goal.reckon_together-requires-clause-order
reckon_together-requires-clause-order g c κs within = (
  c.in_ok-order.ensures.0,
  subst (λ (h : Graph). IsOrder (book_graph (rolled_of h.numbers.book.now)) (StandsIn h.numbers.book.now h.numbers.places.now h.numbers.lists.now)
      c.in_ok-order.ensures.0 c.in_ok-order.order.numbers.items c.in_ok-order.order.ends.items) c.graph.ensures c.in_ok-order.ensures.2,
)

pub reckon_together-requires-clause-known : goal.reckon_together-requires-clause-known
reckon_together-requires-clause-known g c κs within =
    let ground = c.args.linked.ground in
    let numbers = c.in_ok-order.order.numbers.items in
    let ends = c.in_ok-order.order.ends.items in
    left-known ground c.requires.linked.ground c.put_whole_blocks.new.figures c.in_ok-left.left.items c.in_ok-order.ensures.0 numbers ends
    c.put_whole_blocks.ensures
    (subst (λ (n : Numbers). AreLeft n c.in_ok-left.left.items) c.numbers.ensures c.in_ok-left.ensures)
    (λ number h. (c.in_ok-order.ensures.1).marked number (subst (λ (xs : List ℕ). Contains xs number) (sym c.as_slice.ensures.value) h))
    (subst (λ (h : Graph). IsOrder (book_graph (rolled_of h.numbers.book.now)) (StandsIn h.numbers.book.now h.numbers.places.now h.numbers.lists.now)
    c.in_ok-order.ensures.0 numbers ends) c.graph.ensures c.in_ok-order.ensures.2)

pub reckon_together-requires-clause-room : goal.reckon_together-requires-clause-room
reckon_together-requires-clause-room g c κs within = let count = c.put_whole_blocks.ensures.reckoned.count in omega (arith, count)

pub returns : goal.returns
returns g c =
    let ground = c.args.linked.ground in
    let links = c.args.linked.links.now in
    on-ok (AreSettled (book_reckoning ground.inputs.factors.now (rolled_of ground.inputs.book.now))
    (StandsIn ground.inputs.book.now ground.places.now ground.lists.now) c.reckon_together.new.figures)
    (IsWhole ground c.reckon_together.new.figures links) c.reckon_together.result
    (left-made ground c.requires.linked.ground c.put_whole_blocks.new.figures c.reckon_together.new.figures links
    c.put_whole_blocks.ensures.reckoned.count c.reckon_together.ensures.count c.requires.linked.links)
    c.reckon_together.ensures.settled
