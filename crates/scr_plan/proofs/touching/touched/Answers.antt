use Rattle.scr_plan.proofs.Plain.{told-by}
use Rattle.scr_plan.proofs.touching.touched.Goals as goal

pub touched_in-requires-clause-told : goal.touched_in-requires-clause-told
touched_in-requires-clause-told c = λ factors node none.
    told-by c.args.book.now.sheet c.args.edit.now c.in_ok-told.told.items c.in_ok-told.ensures.touched factors node none
