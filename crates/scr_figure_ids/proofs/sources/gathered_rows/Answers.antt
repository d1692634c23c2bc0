use Rattle.std.proofs.Common.{◌≡◌, IfSome, subst, sym}
use Rattle.scr_figure_ids.specs.SourceNumbers.{selected_rows}
use Rattle.scr_figure_ids.proofs.sources.gathered_rows.Goals as goal

pub returns-in-Groups : goal.returns-in-Groups
returns-in-Groups c =
    subst (λ s. IfSome c.group_rows.result (λ rows. rows.now ≡ selected_rows c.args.from.sheet.now s)) (sym c.in-Groups.is) c.group_rows.ensures
