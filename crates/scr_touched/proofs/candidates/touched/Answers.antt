use Rattle.std.proofs.Common.{sym, ◌∙◌}
use Rattle.scr_touched.proofs.Whole.{neither-fault, none-repeated, refused}
use Rattle.scr_touched.proofs.candidates.touched.Goals as goal

pub returns-then-faulty-clause-touched : goal.returns-then-faulty-clause-touched
returns-then-faulty-clause-touched c = refused _ _ _ (sym c.in_ok-faulty.ensures ∙ c.if-faulty.true)

pub returns-then-faulty-clause-once : goal.returns-then-faulty-clause-once
returns-then-faulty-clause-once c = none-repeated c.new.result.items c.new.ensures.items

pub touched_in-requires-clause-within : goal.touched_in-requires-clause-within
touched_in-requires-clause-within c = (neither-fault _ _ (sym c.in_ok-faulty.ensures ∙ c.if-faulty.false)).0

pub touched_in-requires-clause-listed : goal.touched_in-requires-clause-listed
touched_in-requires-clause-listed c = (neither-fault _ _ (sym c.in_ok-faulty.ensures ∙ c.if-faulty.false)).1
