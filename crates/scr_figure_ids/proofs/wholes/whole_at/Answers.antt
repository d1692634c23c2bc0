use Rattle.std.proofs.Common.{ap, ◌∙◌}
use Rattle.scr_figure_ids.specs.Families.{whole_family}
use Rattle.scr_figure_ids.proofs.Told.{whole-at}
use Rattle.scr_figure_ids.proofs.wholes.whole_at.Goals as goal

pub returns : goal.returns
returns c = ap whole_family c.whole_in.ensures ∙ whole-at c.args.family c.whole_in.result c.requires
