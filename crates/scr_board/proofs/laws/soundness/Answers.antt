use Rattle.scr_board.proofs.Running.{opening_sound, run_sound, step_keeps}
use Rattle.scr_board.proofs.laws.soundness.Goals as goal

pub returns-clause-opening : goal.returns-clause-opening
returns-clause-opening c = opening_sound

pub returns-clause-step : goal.returns-clause-step
returns-clause-step c = step_keeps

pub returns-clause-run : goal.returns-clause-run
returns-clause-run c = run_sound
