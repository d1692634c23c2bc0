use Rattle.scr_funds.proofs.lowering.new_ranks.Goals as goal

pub raised-requires-clause-none : goal.raised-requires-clause-none
raised-requires-clause-none c = c.requires.none c.if-was_component.false
