use Rattle.scr_touched.proofs.Whole.{all-once-by, all-touched-by, if-ok}
use Rattle.scr_touched.proofs.candidates.touched_in.Goals as goal

pub returns-clause-touched : goal.returns-clause-touched
returns-clause-touched c =
    if-ok _ _ (λ list e. all-touched-by _ _ _ _ c.requires.valid c.in_ok-change.ensures e) c.touched_by-list.result
    c.touched_by-list.ensures

pub returns-clause-once : goal.returns-clause-once
returns-clause-once c =
    if-ok _ _ (λ list e. all-once-by _ _ _ _ c.requires.valid c.requires.listed c.in_ok-change.ensures e)
    c.touched_by-list.result c.touched_by-list.ensures
