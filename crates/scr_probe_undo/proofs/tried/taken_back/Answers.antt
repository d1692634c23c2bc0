use Rattle.std.proofs.Common.{◌∙◌}
use Rattle.scr_probe_undo.proofs.tried.taken_back.Goals as goal

pub returns-in-Ok-clause-rolls : goal.returns-in-Ok-clause-rolls
returns-in-Ok-clause-rolls c = λ roll. c.put_back.ensures.rolls roll ∙ c.in-Ok.ensures.rolls_back roll
