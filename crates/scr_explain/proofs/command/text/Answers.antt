use Rattle.std.proofs.Common.{◌∙◌, ap, ℕ, List}
use Rattle.std.specs.Borrow.{Bor}
use Rattle.clap.specs.Walk.{Rule}
use Rattle.clap.specs.declared.builder.arg.Arg.{Arg}
use Rattle.scr_explain.proofs.Options.{free_unless}
use Rattle.scr_explain.proofs.command.text.Goals as goal

abbrev needs : Arg → List (Bor (List ℕ))
needs option = option.r_unless.items

pub returns-clause-unless : goal.returns-clause-unless
returns-clause-unless c =
    ap needs c.action.ensures ∙ ap needs c.help.ensures ∙ ap needs c.value_name.ensures ∙ ap needs c.long.ensures
    ∙ free_unless c.new.result (ap (λ (rule : Rule). rule.is_free) c.new.ensures.rule)
