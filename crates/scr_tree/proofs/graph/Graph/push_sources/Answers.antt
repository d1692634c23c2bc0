use Rattle.std.proofs.Common.{◌≡◌, true, OnOk, subst, sym}
use Rattle.scr_block_graph.specs.Books.{rolled_of}
use Rattle.scr_block_graph.specs.Graph.{is_live_in, sources_in}
use Rattle.scr_tree.specs.Points.{StandsIn}
use Rattle.scr_tree.proofs.PointSources.{Pushed}
use Rattle.scr_tree.proofs.graph.Graph.push_sources.Goals as goal

pub push_below-requires-clause-live : goal.push_below-requires-clause-live
push_below-requires-clause-live c =
    subst (λ p. is_live_in (rolled_of c.args.self.now.numbers.book.now) p ≡ true) c.in-Block.is c.requires.live

pub returns-in-Block : goal.returns-in-Block
returns-in-Block c =
    let numbers = c.args.self.now.numbers in
    subst (λ p. OnOk c.push_below.result (Pushed numbers.book.now numbers.places.now numbers.lists.now c.args.list.now.items c.push_below.new.list.items
    (sources_in (rolled_of numbers.book.now) p))) (sym c.in-Block.is) c.push_below.ensures

pub push_of_figure-requires-clause-at : goal.push_of_figure-requires-clause-at
push_of_figure-requires-clause-at c =
    let numbers = c.args.self.now.numbers in
    subst (λ p. StandsIn numbers.book.now numbers.places.now numbers.lists.now p c.args.number) c.in-Figure.is c.requires.at

pub push_of_figure-requires-clause-live : goal.push_of_figure-requires-clause-live
push_of_figure-requires-clause-live c =
    subst (λ p. is_live_in (rolled_of c.args.self.now.numbers.book.now) p ≡ true) c.in-Figure.is c.requires.live

pub returns-in-Figure : goal.returns-in-Figure
returns-in-Figure c =
    let numbers = c.args.self.now.numbers in
    subst (λ p. OnOk c.push_of_figure.result (Pushed numbers.book.now numbers.places.now numbers.lists.now c.args.list.now.items c.push_of_figure.new.list.items
    (sources_in (rolled_of numbers.book.now) p))) (sym c.in-Figure.is) c.push_of_figure.ensures
