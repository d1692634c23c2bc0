use Rattle.std.proofs.Common.{◌≡◌, ◌^◌, ◌<◌, Bool, sym, ap, ◌∙◌, arith}
use Rattle.std.specs.Prelude.{pos, nat_abs, ◌+ℤ◌, ◌-ℤ◌, if◌then◌else◌}
use Rattle.std.proofs.lemmas.Int.{ints}
use mir.Syntax.{w128}
use mir.Val.{of_z, to_z}
use Rattle.scr_partial_sums.proofs.Cells.{cell-of}
use Rattle.scr_partial_sums.proofs.cell.Cell.here.Goals.{then-figure, else-figure}
use Rattle.scr_partial_sums.proofs.cell.Cell.here.Goals as goal

pub returns-clause-there : goal.returns-clause-there
returns-clause-there c =
    let figure = c.args.figure.now in
    let from = nat_abs (to_z w128 (of_z w128 (to_z w128 (of_z w128 figure.span.low) +ℤ pos (2 ^ 89)))) in
    let width = nat_abs (to_z w128 (of_z w128 (to_z w128 (of_z w128 figure.span.high) -ℤ to_z w128 (of_z w128 figure.span.low)))) in
    let above = c.if-low.false in
    let below = c.if-low-ge-HALF.false in
    let narrow = c.if-high-low.false in
    let from_is : pos from ≡ (figure.span.low +ℤ pos (2 ^ 89)) = omega (arith, ints) in
    let width_is : pos width ≡ (figure.span.high -ℤ figure.span.low) = omega (arith, ints) in
    let few : from < 2 ^ 90 = omega (arith, ints) in
    let thin : width < 2 ^ 36 = omega (arith, ints) in
    let mark : c.if-figure.mark ≡ (if figure.close then 2 ^ 36 else 0) = elim c.if-figure.branch [
      | then-figure w ↦ w.mark-is ∙ ap (λ (b : Bool). if b then 2 ^ 36 else 0) (sym w.if-figure.true)
      | else-figure w ↦ w.mark-is ∙ ap (λ (b : Bool). if b then 2 ^ 36 else 0) (sym w.if-figure.false)
    ] in
    cell-of from width c.if-figure.mark _ figure.span figure.close from_is width_is few thin mark
