use Rattle.scr_touched.specs.Touched.{AreTouched}
use Rattle.scr_tree.proofs.engine.touched_points.Goals as goal

pub touched_in-requires-clause-told : goal.touched_in-requires-clause-told
unfolding AreTouched
touched_in-requires-clause-told c = λ factors node none. (c.in_ok-told.ensures.touched factors node none).listed
