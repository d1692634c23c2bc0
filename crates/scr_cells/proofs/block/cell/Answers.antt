use Rattle.std.proofs.Common.{◌≡◌, ◌∙◌, ◌+ℤ◌, ◌≤ℤ◌, true, false, Some, ℕ, is_some, ap, subst, sym}
use Rattle.std.specs.Prelude.{option_and_then, option_map, slice_get}
use Rattle.scr_factors.specs.Values.{IsInForm}
use Rattle.scr_sheet.specs.declared.sheet.BalanceSheet.{BalanceSheet}
use Rattle.scr_nodes.specs.declared.node.Node.TheVariants as nodes
use Rattle.scr_cells.specs.Block.{bounds_at, cell_of}
use Rattle.scr_cells.specs.Certified.{RestsOnNearChoice}
use Rattle.scr_cells.specs.Table.{NamedFigure, seen, table}
use Rattle.scr_cells.specs.declared.bounds.Bounds.{Bounds}
use Rattle.scr_cells.specs.declared.cells.Cell.{Cell}
use Rattle.scr_cells.proofs.Bounded.{rests}
use Rattle.scr_cells.proofs.LiveCells.{live_at, stated_at}
use Rattle.scr_cells.proofs.block.cell.Goals as goal
use Rattle.scr_widths.specs.Widths.{stated_width}
use Rattle.scr_widths.proofs.AllWidths.{cents-kept}

pub bounds_at-bounds-requires : goal.bounds_at-bounds-requires
bounds_at-bounds-requires c = live_at c.args.engine.now.sheet c.args.k _ c.entry_of.ensures

pub width_of-requires : goal.width_of-requires
width_of-requires c =
    subst (λ (sheet : BalanceSheet). is_some (stated_width sheet (nodes.Whole c.entry_of.result.now.shown)) ≡ true)
    (sym c.book.ensures.value) (stated_at c.args.engine.now.sheet c.args.k _ c.entry_of.ensures)

pub returns-clause-cell : goal.returns-clause-cell
returns-clause-cell c =
    let k = c.args.k in
    let engine = c.args.engine.now in
    let node = nodes.Whole c.entry_of.result.now.shown in
    let width = sym (ap (λ (sheet : BalanceSheet). stated_width sheet node) c.book.ensures.value) ∙ c.width_of.ensures in
    ap (option_and_then (λ (cell : NamedFigure). option_map (cell_of k (bounds_at engine.factors engine.sheet cell.node)) (stated_width engine.sheet cell.node)))
    c.entry_of.ensures
    ∙ ap (option_map (cell_of k (bounds_at engine.factors engine.sheet node))) width
    ∙ ap Some (sym (c.cell_of.ensures ∙ ap (λ (b : Bounds). cell_of k b c.width_of.result) c.bounds_at-bounds.ensures))

pub returns-clause-narrow : goal.returns-clause-narrow
returns-clause-narrow c =
    let k = c.args.k in
    let engine = c.args.engine.now in
    let node = nodes.Whole c.entry_of.result.now.shown in
    let width = sym (ap (λ (sheet : BalanceSheet). stated_width sheet node) c.book.ensures.value) ∙ c.width_of.ensures in
    let known : IsInForm engine.factors = subst IsInForm c.factors.ensures c.known.ensures in
    subst (λ (cell : Cell). cell.close ≡ false → cell.high ≤ℤ (cell.low +ℤ cell.width))
    (sym (c.cell_of.ensures ∙ ap (λ (b : Bounds). cell_of k b c.width_of.result) c.bounds_at-bounds.ensures))
    (λ clear. (cents-kept engine.factors known engine.sheet c.book.ensures.valid node
    (live_at engine.sheet k _ c.entry_of.ensures) clear c.width_of.result width).apart)

one-cell : (k : ℕ) (a b : NamedFigure) → slice_get table k ≡ Some a → slice_get table k ≡ Some b → a ≡ b
one-cell k a b first second = let both : Some a ≡ Some b = sym first ∙ second in cc

pub returns-clause-near : goal.returns-clause-near
returns-clause-near c = λ close shown is.
    let k = c.args.k in
    let engine = c.args.engine.now in
    let node = nodes.Whole c.entry_of.result.now.shown in
    let near : c.cell_of.result.close ≡ true → RestsOnNearChoice engine.factors engine.sheet node =
    subst (λ (cell : Cell). cell.close ≡ true → RestsOnNearChoice engine.factors engine.sheet node)
    (sym (c.cell_of.ensures ∙ ap (λ (b : Bounds). cell_of k b c.width_of.result) c.bounds_at-bounds.ensures))
    (λ open_choice. rests engine.factors engine.sheet c.book.ensures.valid node open_choice) in
    subst (λ (cell : NamedFigure). RestsOnNearChoice engine.factors engine.sheet cell.node)
    (one-cell k (seen c.entry_of.result.now) shown c.entry_of.ensures is) (near close)
