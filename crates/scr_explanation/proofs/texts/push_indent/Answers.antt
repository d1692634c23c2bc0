use Rattle.std.proofs.Common.{◌∙◌, ◌++◌, ℕ, List, ap}
use Rattle.std.specs.Prelude.{codes}
use Rattle.scr_explanation.proofs.Indents.{more, none}
use Rattle.scr_explanation.proofs.texts.push_indent.Goals as goal

pub loop-init : goal.loop-init
loop-init c = none c.args.out.now.items

pub loop-preserved : goal.loop-preserved
loop-preserved c =
    c.in_ok-push.ensures ∙ ap (λ (items : List ℕ). items ++ codes "  ") c.loop.invariant ∙ more c.args.out.now.items c.loop.counter
