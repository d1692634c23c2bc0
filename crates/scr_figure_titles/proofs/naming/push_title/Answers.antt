use Rattle.scr_figure_titles.proofs.Fronts.{still_starts}
use Rattle.scr_figure_titles.proofs.naming.push_title.Goals as goal

pub returns-clause-err : goal.returns-clause-err
returns-clause-err c =
    still_starts c.push-3.result _ _ _ _ c.in_ok-push_subject.ensures.ok
    (still_starts c.push-3.result _ _ _ _ c.in_ok-push.ensures.ok
    (still_starts c.push-3.result _ _ _ _ c.in_ok-push-2.ensures.ok c.push-3.ensures.err))
