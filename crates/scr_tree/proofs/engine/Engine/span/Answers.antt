use Rattle.std.proofs.Common.{◌≡◌, true, get_or, subst, sym, ap, refl, ◌∙◌, arith}
use Rattle.std.proofs.lemmas.Option.{slice_get-get_or}
use Rattle.scr_num.specs.Rounding.{ends}
use Rattle.scr_partial_sums.specs.Tables.{nothing}
use Rattle.scr_block_graph.specs.Graph.{is_live_in}
use Rattle.scr_tree.specs.Figures.{Worth}
use Rattle.scr_tree.specs.Points.{point_worth}
use Rattle.scr_tree.specs.Standing.{Standing, book_of}
use Rattle.scr_tree.proofs.FigureRead.{known-there, known-within}
use Rattle.scr_tree.proofs.Standings.{settled-point}
use Rattle.scr_tree.proofs.engine.Engine.span.Goals as goal

pub number_of-requires : goal.number_of-requires
number_of-requires c = c.self.invariant.state.graph.numbers_of

pub unreachable-requires : goal.unreachable-requires
unreachable-requires c =
    let live = subst (λ (s : Standing). is_live_in (book_of s) c.args.node ≡ true) (sym c.self.view_is) c.requires in
    let own = c.self.invariant.state.graph.numbers_of.numbers.live c.args.node live in
    c.in-None.ensures.absent refl own.0 own.1

pub span-requires : goal.span-requires
span-requires c =
    let state = c.self.inside.state in
    let low = known-within state.figures c.in-Some.number (point_worth c.args.self.now.factors (book_of c.args.self.now) c.args.node)
    (settled-point c.self.inside.factors c.self.inside.book state.places state.lists state.figures c.args.self.now c.self.view_is
    c.self.invariant.state.figures c.args.node c.in-Some.number c.in-Some.ensures.there c.requires) in
    omega (arith, low)

pub returns : goal.returns
returns c =
    let state = c.self.inside.state in
    let number = c.in-Some.number in
    let worth = point_worth c.args.self.now.factors (book_of c.args.self.now) c.args.node in
    let known = settled-point c.self.inside.factors c.self.inside.book state.places state.lists state.figures c.args.self.now c.self.view_is
    c.self.invariant.state.figures c.args.node number c.in-Some.ensures.there c.requires in
    ap ends (c.span.ensures (get_or state.figures number nothing)
    (slice_get-get_or state.figures number nothing (known-within state.figures number worth known)))
    ∙ ap (λ (w : Worth). w.worked) (known-there state.figures number worth nothing known)
