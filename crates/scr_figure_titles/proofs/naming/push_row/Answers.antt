use Rattle.scr_figure_titles.proofs.Fronts.{still_starts}
use Rattle.scr_figure_titles.proofs.naming.push_row.Goals as goal

pub returns-clause-err : goal.returns-clause-err
returns-clause-err c =
    still_starts c.push-2.result _ _ _ _ c.in_ok-push.ensures.ok
    (still_starts c.push-2.result _ _ _ _ c.in_ok-extend_from_slice.ensures.items c.push-2.ensures.err)
