use Rattle.std.proofs.Common.{◌≡◌, true, subst, sym, ap, refl, arith}
use Rattle.scr_figure_ids.specs.Numbers.{IsNumbered, StandsAt}
use Rattle.scr_figure_ids.proofs.Live.{live-stands}
use Rattle.scr_nodes.specs.Live.{is_live}
use Rattle.scr_block_graph.specs.declared.point.Point.TheVariants as points
use Rattle.scr_tree.specs.Figures.{Worth, worth_at}
use Rattle.scr_tree.specs.Standing.{Standing}
use Rattle.scr_tree.proofs.FigureRead.{known-read, known-within}
use Rattle.scr_tree.proofs.Standings.{settled-point}
use Rattle.scr_tree.proofs.engine.Engine.figure.Goals as goal

pub find-requires : goal.find-requires
find-requires c =
    subst (λ sheet. IsNumbered sheet c.self.inside.state.places) (sym c.sheet.ensures.sheet) c.self.invariant.state.graph.numbers_of.numbered

pub unreachable-requires : goal.unreachable-requires
unreachable-requires c =
    let live = subst (λ (s : Standing). is_live s.sheet c.args.node.now ≡ true) (sym c.self.view_is) c.requires in
    let own = live-stands c.self.inside.book.sheet c.self.inside.state.places c.self.invariant.state.graph.numbers_of.numbered c.args.node.now live in
    c.in-None.ensures.absent refl own.0
    (subst (λ sheet. StandsAt sheet c.self.inside.state.places c.args.node.now own.0) (sym c.sheet.ensures.sheet) own.1)

pub figure-requires : goal.figure-requires
figure-requires c =
    let state = c.self.inside.state in
    let low = known-within state.figures c.in-Some.number (worth_at c.args.self.now.factors c.args.self.now.sheet c.args.node.now)
    (settled-point c.self.inside.factors c.self.inside.book state.places state.lists state.figures c.args.self.now c.self.view_is
    c.self.invariant.state.figures (points.Figure c.args.node.now) c.in-Some.number
    (subst (λ sheet. StandsAt sheet state.places c.args.node.now c.in-Some.number) c.sheet.ensures.sheet c.in-Some.ensures.there) c.requires) in
    omega (arith, low)

pub returns-clause-span : goal.returns-clause-span
returns-clause-span c =
    let state = c.self.inside.state in
    ap (λ (w : Worth). w.worked)
    (known-read state.figures c.in-Some.number (worth_at c.args.self.now.factors c.args.self.now.sheet c.args.node.now) c.figure.result
    (settled-point c.self.inside.factors c.self.inside.book state.places state.lists state.figures c.args.self.now c.self.view_is
    c.self.invariant.state.figures (points.Figure c.args.node.now) c.in-Some.number
    (subst (λ sheet. StandsAt sheet state.places c.args.node.now c.in-Some.number) c.sheet.ensures.sheet c.in-Some.ensures.there) c.requires)
    c.figure.ensures)

pub returns-clause-close : goal.returns-clause-close
returns-clause-close c =
    let state = c.self.inside.state in
    ap (λ (w : Worth). w.close)
    (known-read state.figures c.in-Some.number (worth_at c.args.self.now.factors c.args.self.now.sheet c.args.node.now) c.figure.result
    (settled-point c.self.inside.factors c.self.inside.book state.places state.lists state.figures c.args.self.now c.self.view_is
    c.self.invariant.state.figures (points.Figure c.args.node.now) c.in-Some.number
    (subst (λ sheet. StandsAt sheet state.places c.args.node.now c.in-Some.number) c.sheet.ensures.sheet c.in-Some.ensures.there) c.requires)
    c.figure.ensures)
