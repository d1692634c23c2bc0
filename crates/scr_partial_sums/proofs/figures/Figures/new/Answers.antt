use Rattle.std.proofs.Common.{replicate, ap, ◌∙◌}
use Rattle.scr_partial_sums.specs.declared.cell.Kept.{Kept}
use Rattle.scr_partial_sums.proofs.Tables.{kept-new, shown-new}
use Rattle.scr_partial_sums.proofs.figures.Figures.new.Goals as goal

pub invariant_of-result : goal.invariant_of-result
invariant_of-result c =
    kept-new (record { cells = c.in_ok-cells.cells; wide = c.in_ok-wide.wide }) c.args.size
    (c.in_ok-cells.ensures.items_if_clones_equal (λ y e. e) ∙ ap (λ (cell : Kept). replicate c.args.size cell) c.nothing.ensures)
    c.in_ok-wide.ensures.items c.in_ok-wide.ensures.capacity

pub returns : goal.returns
returns c =
    shown-new (record { cells = c.in_ok-cells.cells; wide = c.in_ok-wide.wide }) c.args.size
    (c.in_ok-cells.ensures.items_if_clones_equal (λ y e. e) ∙ ap (λ (cell : Kept). replicate c.args.size cell) c.nothing.ensures)
