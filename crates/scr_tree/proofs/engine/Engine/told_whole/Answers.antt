use Rattle.std.proofs.Common.{ap, arith}
use Rattle.scr_nodes.specs.declared.node.Node.TheVariants as nodes
use Rattle.scr_tree.specs.Figures.{Worth, worth_at}
use Rattle.scr_tree.proofs.FigureRead.{known-read, known-within}
use Rattle.scr_tree.proofs.WholeNumbers.{whole-known}
use Rattle.scr_tree.proofs.engine.Engine.told_whole.Goals as goal

pub figure-close-requires : goal.figure-close-requires
figure-close-requires c =
    let state = c.self.inside.state in
    let low = known-within state.figures c.args.family (worth_at c.args.self.now.factors c.args.self.now.sheet (nodes.Whole c.requires.0))
    (whole-known c.self.inside.factors c.self.inside.book state.places state.lists state.figures c.args.self.now c.self.view_is
    c.self.invariant.state.figures c.self.invariant.state.graph.numbers_of.numbered c.requires.0 c.args.family c.requires.1 c.requires.2) in
    omega (arith, low)

pub returns-clause-span : goal.returns-clause-span
returns-clause-span c = λ whole live is.
    let state = c.self.inside.state in
    ap (λ (w : Worth). w.worked)
    (known-read state.figures c.args.family (worth_at c.args.self.now.factors c.args.self.now.sheet (nodes.Whole whole)) c.figure-close.result
    (whole-known c.self.inside.factors c.self.inside.book state.places state.lists state.figures c.args.self.now c.self.view_is
    c.self.invariant.state.figures c.self.invariant.state.graph.numbers_of.numbered whole c.args.family live is) c.figure-close.ensures)

pub returns-clause-close : goal.returns-clause-close
returns-clause-close c = λ whole live is.
    let state = c.self.inside.state in
    ap (λ (w : Worth). w.close)
    (known-read state.figures c.args.family (worth_at c.args.self.now.factors c.args.self.now.sheet (nodes.Whole whole)) c.figure-close.result
    (whole-known c.self.inside.factors c.self.inside.book state.places state.lists state.figures c.args.self.now c.self.view_is
    c.self.invariant.state.figures c.self.invariant.state.graph.numbers_of.numbered whole c.args.family live is) c.figure-close.ensures)
