use Rattle.scr_widths.proofs.NearChoices.{choice-near, rests-near}
use Rattle.scr_widths.proofs.laws.open_choices.Goals as goal

pub returns : goal.returns
returns c = record { near = choice-near; under = rests-near }
