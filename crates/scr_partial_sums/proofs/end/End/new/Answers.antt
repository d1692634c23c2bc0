-- The four words are the digits of the number's bits.
use Rattle.std.proofs.Common.{◌≡◌, ap, ◌∙◌, arith}
use Rattle.std.proofs.lemmas.Int.{ints}
use Rattle.std.specs.Prelude.{ℤ}
use mir.Syntax.{w128}
use mir.Val.{of_z, to_z}
use Rattle.scr_partial_sums.proofs.end.End.new.Goals as goal

pub returns : goal.returns
returns c =
    let whole : to_z w128 (of_z w128 c.args.number) ≡ c.args.number = omega (arith, ints) in
    ap (to_z w128) (omega arith) ∙ ap (to_z w128) c.cast_unsigned-bits.ensures
    ∙ ap (λ (z : ℤ). to_z w128 (of_z w128 z)) whole ∙ whole
