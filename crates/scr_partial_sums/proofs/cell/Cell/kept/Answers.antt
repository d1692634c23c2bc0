use Rattle.std.proofs.Common.{◌≡◌, ℕ, ◌/◌, ◌%◌, ◌^◌, ◌==◌, ap, sym, ◌∙◌, arith}
use Rattle.std.specs.Prelude.{pos, ◌+ℤ◌, ◌-ℤ◌}
use Rattle.std.proofs.lemmas.Int.{ints}
use mir.Syntax.{w128}
use mir.Val.{of_z, to_z}
use Rattle.scr_partial_sums.specs.Cells.{high_in, low_in}
use Rattle.scr_partial_sums.proofs.Cells.{narrow-is}
use Rattle.scr_partial_sums.proofs.cell.Cell.kept.Goals as goal

pub returns : goal.returns
returns c =
    let bits = c.self.inside.bits in
    let low : low_in bits ≡ to_z w128 (of_z w128 (to_z w128 (bits % 2 ^ 90) -ℤ pos (2 ^ 89))) = omega (arith, ints) in
    let high : high_in bits ≡ to_z w128 (of_z w128 (to_z w128 (of_z w128 (to_z w128 (bits % 2 ^ 90) -ℤ pos (2 ^ 89)))
    +ℤ to_z w128 (bits / 2 ^ 90 % 2 ^ 36))) = omega (arith, ints) in
    let last : bits / 2 ^ 90 / 2 ^ 36 ≡ bits / 2 ^ 90 / 2 ^ 36 % 2 = omega (arith, c.if-self-ge-APART.false) in
    let close = ap (λ (n : ℕ). n == 1) last in
    sym (narrow-is bits c.self.inside.ordered _ _ c.if-self-ge-APART.false low high close) ∙ c.self.view_is
