use Rattle.std.proofs.Common.{◌≡◌, ◌+◌, Some, slice_get, sym, ap, arith, ◌∙◌}
use Rattle.std.proofs.lemmas.Option.{slice_get-get_or}
use Rattle.scr_partial_sums.specs.Tables.{nothing}
use Rattle.scr_partial_sums.specs.declared.cell.Kept.TheVariants as kept
use Rattle.scr_partial_sums.proofs.Tables.{number-low, read-here}
use Rattle.scr_partial_sums.proofs.figures.Figures.is_amount_before_nothing.Goals as goal

pub overflow_add-number : goal.overflow_add-number
overflow_add-number c =
    let table = c.self.inside in
    let low = number-low table c.args.self.now (c.args.number + 1) c.self.view_is c.requires in
    omega (arith, low, table.cells.ok.0, table.cells.ok.1, table.cells.small)

pub returns-then-is_amount_before_nothing-clause-yes : goal.returns-then-is_amount_before_nothing-clause-yes
returns-then-is_amount_before_nothing-clause-yes c = λ yes.
    let table = c.self.inside in
    let figures = c.args.self.now in
    let number = c.args.number in
    let told = c.is_amount_before_nothing.ensures.yes c.if-is_amount_before_nothing.true in
    let within = c.requires in
    let at : slice_get table.cells.items number ≡ Some (kept.Here told.0.0) =
    slice_get-get_or table.cells.items number c.index.result.now (number-low table figures number c.self.view_is (omega (arith, within)))
    ∙ ap Some (sym c.index.ensures ∙ told.0.1) in
    let after : slice_get table.cells.items (number + 1) ≡ Some (kept.Here nothing) =
    slice_get-get_or table.cells.items (number + 1) c.index-next.result.now (number-low table figures (number + 1) c.self.view_is within)
    ∙ ap Some (sym c.index-next.ensures ∙ told.1) in
    record {
      figure = told.0.0;
      here = read-here table figures number told.0.0 c.self.view_is at;
      amount = told.0.2;
      next = read-here table figures (number + 1) nothing c.self.view_is after;
    }
