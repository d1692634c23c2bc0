use Rattle.std.proofs.Common.{◌≡◌, List, replicate, length, ap, ◌∙◌}
use Rattle.std.proofs.lemmas.List.{length-replicate}
use Rattle.std.proofs.lemmas.Result.{IfOk-weaker}
use Rattle.scr_partial_sums.specs.Tables.{nothing}
use Rattle.scr_partial_sums.specs.declared.figure.Figure.{Figure}
use Rattle.scr_tree.proofs.figures.no_figures.Goals as goal

pub returns : goal.returns
returns c =
    IfOk-weaker c.new.result _ _ (λ (figures : List Figure) (is : figures ≡ replicate c.args.size nothing). ap length is ∙ length-replicate c.args.size nothing)
    c.new.ensures
