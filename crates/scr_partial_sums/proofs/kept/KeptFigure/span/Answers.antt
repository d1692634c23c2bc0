use Rattle.std.proofs.Common.{◌≡◌, ap, ◌∙◌, arith}
use Rattle.std.proofs.lemmas.Int.{ints}
use mir.Syntax.{w128}
use mir.Val.{of_z, to_z}
use Rattle.scr_partial_sums.specs.KeptFigures.{figure_in}
use Rattle.scr_partial_sums.specs.declared.figure.Figure.{Figure}
use Rattle.scr_partial_sums.proofs.KeptSpans.{one_span}
use Rattle.scr_partial_sums.proofs.kept.KeptFigure.span.Goals as goal

pub returns : goal.returns
returns c =
    let low : to_z w128 (of_z w128 c.number-low.result) ≡ c.number-low.result = omega (arith, ints) in
    let high : to_z w128 (of_z w128 c.number-high.result) ≡ c.number-high.result = omega (arith, ints) in
    one_span _ _ (figure_in c.self.inside).span (low ∙ c.number-low.ensures) (high ∙ c.number-high.ensures) _
    ∙ ap (λ (figure : Figure). figure.span) c.self.view_is
