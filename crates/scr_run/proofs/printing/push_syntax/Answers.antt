use Rattle.scr_run.proofs.Pushes.{syntax_pushed}
use Rattle.scr_run.proofs.printing.push_syntax.Goals as goal

pub returns : goal.returns
returns c = syntax_pushed _ _ _ _ c.in_ok-push.ensures c.in_ok-push_number.ensures
