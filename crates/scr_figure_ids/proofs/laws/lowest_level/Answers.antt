use Rattle.scr_figure_ids.proofs.Leveled.{lowest-source}
use Rattle.scr_figure_ids.proofs.laws.lowest_level.Goals as goal

pub returns : goal.returns
returns c = lowest-source
