use Rattle.std.proofs.Common.{◌∙◌, Some, get_or, sym, ap, arith}
use Rattle.std.proofs.lemmas.Option.{slice_get-get_or}
use Rattle.scr_nodes.specs.declared.node.Node.TheVariants as nodes
use Rattle.scr_partial_sums.specs.Marks.{figure_of}
use Rattle.scr_partial_sums.specs.Tables.{nothing}
use Rattle.scr_tree.specs.Figures.{worth_at}
use Rattle.scr_tree.proofs.FigureRead.{known-read, known-there, known-within, one-figure}
use Rattle.scr_tree.proofs.WholeNumbers.{whole-known}
use Rattle.scr_tree.proofs.engine.Engine.is_told.Goals as goal

pub is_marked-requires : goal.is_marked-requires
is_marked-requires c =
    let state = c.self.inside.state in
    let low = known-within state.figures c.args.family (worth_at c.args.self.now.factors c.args.self.now.sheet (nodes.Whole c.requires.0))
    (whole-known c.self.inside.factors c.self.inside.book state.places state.lists state.figures c.args.self.now c.self.view_is
    c.self.invariant.state.figures c.self.invariant.state.graph.numbers_of.numbered c.requires.0 c.args.family c.requires.1 c.requires.2) in
    omega (arith, low)

pub returns-clause-yes : goal.returns-clause-yes
returns-clause-yes c = λ yes whole live is.
    let state = c.self.inside.state in
    known-read state.figures c.args.family (worth_at c.args.self.now.factors c.args.self.now.sheet (nodes.Whole whole)) (figure_of c.args.mark.now)
    (whole-known c.self.inside.factors c.self.inside.book state.places state.lists state.figures c.args.self.now c.self.view_is
    c.self.invariant.state.figures c.self.invariant.state.graph.numbers_of.numbered whole c.args.family live is) (c.is_marked.ensures.yes yes)

pub returns-clause-not : goal.returns-clause-not
returns-clause-not c = λ no whole live is told.
    let state = c.self.inside.state in
    let worth = worth_at c.args.self.now.factors c.args.self.now.sheet (nodes.Whole whole) in
    let known =
    whole-known c.self.inside.factors c.self.inside.book state.places state.lists state.figures c.args.self.now c.self.view_is
    c.self.invariant.state.figures c.self.invariant.state.graph.numbers_of.numbered whole c.args.family live is in
    let own = get_or state.figures c.args.family nothing in
    let same = one-figure own (figure_of c.args.mark.now) (known-there state.figures c.args.family worth nothing known ∙ sym told) in
    c.is_marked.ensures.not no
    (slice_get-get_or state.figures c.args.family nothing (known-within state.figures c.args.family worth known) ∙ ap Some same)
