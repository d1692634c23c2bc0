use Rattle.std.proofs.Common.{◌≡◌, map, ◌∙◌}
use Rattle.scr_num.specs.Rounding.{ends}
use Rattle.scr_reachability.specs.LinkedDues.{numbers_of}
use Rattle.scr_reachability.specs.declared.ranks.Due.{Due}
use Rattle.scr_tree.specs.Together.{ends_on}
use Rattle.scr_tree.proofs.Spanned.{ends-due, ok-weaker, workable}
use Rattle.scr_tree.proofs.together.spans_of.Goals as goal

pub spans_by-requires-clause-due : goal.spans_by-requires-clause-due
spans_by-requires-clause-due g c κs within =
    workable c.args.basis c.requires.basis c.args.figures.now c.args.dues.now c.requires.turn c.requires.known c.requires.dues

pub returns : goal.returns
returns g c =
    let b = c.args.basis in
    ok-weaker (λ spans. map ends spans.items ≡ map (λ (due : Due). ends_on b due.number) c.args.dues.now)
    (λ spans. map ends spans.items ≡ map (ends_on b) (numbers_of c.args.dues.now))
    (λ spans is. is ∙ ends-due b c.args.dues.now) c.spans_by.result c.spans_by.ensures
