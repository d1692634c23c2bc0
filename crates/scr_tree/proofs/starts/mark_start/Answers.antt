use Rattle.std.proofs.Common.{◌≡◌, true, false, refl, sym, arith, ◌∙◌}
use Rattle.scr_block_graph.specs.Books.{rolled_of}
use Rattle.scr_block_graph.specs.Graph.{is_live_in}
use Rattle.scr_tree.specs.Points.{StandsIn, book_graph}
use Rattle.scr_tree.proofs.StartRows.{marked-none, marked-one}
use Rattle.scr_tree.proofs.starts.mark_start.Goals as goal

pub returns-then-not-is_live_in-clause-marked : goal.returns-then-not-is_live_in-clause-marked
returns-then-not-is_live_in-clause-marked c =
    let n = c.args.numbers in
    marked-none (book_graph (rolled_of n.book.now)) (StandsIn n.book.now n.places.now n.lists.now) c.args.point.now c.args.marks.now.list
    (λ number live at. let clash : true ≡ false = sym live ∙ (sym c.is_live_in.ensures ∙ c.if-not-is_live_in.true) in absurd (cc))

pub insert-requires : goal.insert-requires
insert-requires c =
    let within = c.requires.numbers.numbers.within c.args.point.now c.in-Some.number c.in-Some.ensures.there in
    let room = c.requires.room in
    omega (arith, within, room)

pub returns-in_ok-insert-in-Some-clause-marked : goal.returns-in_ok-insert-in-Some-clause-marked
returns-in_ok-insert-in-Some-clause-marked c =
    let n = c.args.numbers in
    let live : is_live_in (rolled_of n.book.now) c.args.point.now ≡ true = sym c.is_live_in.ensures ∙ c.if-not-is_live_in.false in
    marked-one (book_graph (rolled_of n.book.now)) (StandsIn n.book.now n.places.now n.lists.now) c.args.point.now c.args.marks.now.list
    c.insert.new.self.list c.in-Some.number c.in-Some.ensures.there live
    (λ p at. c.requires.numbers.numbers.only c.args.point.now p c.in-Some.number at c.in-Some.ensures.there) c.in_ok-insert-in-Some.ensures.ok

pub returns-in-None-clause-marked : goal.returns-in-None-clause-marked
returns-in-None-clause-marked c =
    let n = c.args.numbers in
    marked-none (book_graph (rolled_of n.book.now)) (StandsIn n.book.now n.places.now n.lists.now) c.args.point.now c.args.marks.now.list
    (λ number live at. c.in-None.ensures.absent refl number at)
