use Rattle.std.proofs.Common.{◌≡◌, Some, slice_get, sym, ap, ◌∙◌}
use Rattle.std.proofs.lemmas.Option.{slice_get-get_or}
use Rattle.scr_partial_sums.specs.Marks.{figure_of}
use Rattle.scr_partial_sums.specs.declared.cell.Kept.TheVariants as kept
use Rattle.scr_partial_sums.proofs.Tables.{number-low, read-apart, read-here}
use Rattle.scr_partial_sums.proofs.figures.Figures.is_marked.Goals as goal

pub returns-then-is_of-clause-yes : goal.returns-then-is_of-clause-yes
returns-then-is_of-clause-yes c = λ yes.
    let at : slice_get c.self.inside.cells.items c.args.number ≡ Some (kept.Here (figure_of c.args.mark.now)) =
    slice_get-get_or c.self.inside.cells.items c.args.number c.index-cell.result.now
    (number-low c.self.inside c.args.self.now c.args.number c.self.view_is c.requires)
    ∙ ap Some (sym c.index-cell.ensures ∙ c.is_of.ensures.yes c.if-is_of.true) in
    read-here c.self.inside c.args.self.now c.args.number (figure_of c.args.mark.now) c.self.view_is at

pub returns-in-Here-clause-not : goal.returns-in-Here-clause-not
returns-in-Here-clause-not c = λ no is.
    let figure = c.in-Here.field-0 in
    let holds : c.index-cell.result.now ≡ kept.Here figure = sym c.kept.ensures ∙ c.in-Here.is in
    let at : slice_get c.self.inside.cells.items c.args.number ≡ Some (kept.Here figure) =
    slice_get-get_or c.self.inside.cells.items c.args.number c.index-cell.result.now
    (number-low c.self.inside c.args.self.now c.args.number c.self.view_is c.requires)
    ∙ ap Some (sym c.index-cell.ensures ∙ holds) in
    let own : Some figure ≡ Some (figure_of c.args.mark.now) = sym (read-here c.self.inside c.args.self.now c.args.number figure c.self.view_is at) ∙ is in
    let same : figure ≡ (figure_of c.args.mark.now) = cc in
    c.is_of.ensures.not c.if-is_of.false (holds ∙ ap kept.Here same)

pub returns-in-Apart-clause-yes : goal.returns-in-Apart-clause-yes
returns-in-Apart-clause-yes c = λ yes.
    let place = c.in-Apart.place in
    let at : slice_get c.self.inside.cells.items c.args.number ≡ Some (kept.Apart place) =
    slice_get-get_or c.self.inside.cells.items c.args.number c.index-cell.result.now
    (number-low c.self.inside c.args.self.now c.args.number c.self.view_is c.requires)
    ∙ ap Some (sym c.index-cell.ensures ∙ sym c.kept.ensures ∙ c.in-Apart.is) in
    let stood : slice_get c.self.inside.wide.items place ≡ Some c.figure.result =
    slice_get-get_or c.self.inside.wide.items place c.index.result.now (c.self.invariant.within c.args.number place at)
    ∙ ap Some (sym c.index.ensures ∙ sym c.figure.ensures) in
    read-apart c.self.inside c.args.self.now c.args.number place (figure_of c.args.mark.now) c.self.view_is at (stood ∙ ap Some (c.is_same.ensures.yes yes))

pub returns-in-Apart-clause-not : goal.returns-in-Apart-clause-not
returns-in-Apart-clause-not c = λ no is.
    let place = c.in-Apart.place in
    let at : slice_get c.self.inside.cells.items c.args.number ≡ Some (kept.Apart place) =
    slice_get-get_or c.self.inside.cells.items c.args.number c.index-cell.result.now
    (number-low c.self.inside c.args.self.now c.args.number c.self.view_is c.requires)
    ∙ ap Some (sym c.index-cell.ensures ∙ sym c.kept.ensures ∙ c.in-Apart.is) in
    let stood : slice_get c.self.inside.wide.items place ≡ Some c.figure.result =
    slice_get-get_or c.self.inside.wide.items place c.index.result.now (c.self.invariant.within c.args.number place at)
    ∙ ap Some (sym c.index.ensures ∙ sym c.figure.ensures) in
    let both : Some c.figure.result ≡ Some (figure_of c.args.mark.now) =
    sym (read-apart c.self.inside c.args.self.now c.args.number place c.figure.result c.self.view_is at stood) ∙ is in
    let same : c.figure.result ≡ (figure_of c.args.mark.now) = cc in
    c.is_same.ensures.not no same
