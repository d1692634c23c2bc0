use Rattle.std.proofs.Common.{◌≡◌, ap, ◌∙◌, arith}
use Rattle.std.proofs.lemmas.Int.{ints}
use mir.Syntax.{w128}
use mir.Val.{of_z, to_z}
use Rattle.scr_num.specs.declared.span.Span.{Span}
use Rattle.scr_partial_sums.proofs.KeptSpans.{one_span}
use Rattle.scr_partial_sums.proofs.kept.KeptFigure.new.Goals as goal

pub returns : goal.returns
returns c =
    let low : to_z w128 (of_z w128 c.args.figure.span.low) ≡ c.args.figure.span.low = omega (arith, ints) in
    let high : to_z w128 (of_z w128 c.args.figure.span.high) ≡ c.args.figure.span.high = omega (arith, ints) in
    ap (λ (span : Span). record { span = span; close = c.args.figure.close })
    (one_span c.new-low.result c.new-high.result c.args.figure.span (c.new-low.ensures ∙ low) (c.new-high.ensures ∙ high) _)
