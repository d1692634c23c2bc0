use Rattle.std.proofs.Common.{refl, sym, ◌∙◌}
use Rattle.scr_tree.proofs.LeftNumbers.{not-left, not-live}
use Rattle.scr_tree.proofs.left.is_left_at.Goals as goal

pub returns-then-is_left-clause-there : goal.returns-then-is_left-clause-there
returns-then-is_left-clause-there c = λ yes. (c.in-Some.point, c.in-Some.ensures.there, sym c.is_live_in.ensures ∙ yes, sym c.is_left.ensures ∙ c.if-is_left.true)

pub returns-then-is_left-clause-absent : goal.returns-then-is_left-clause-absent
returns-then-is_left-clause-absent c = λ no.
    not-live c.args.numbers c.args.number c.requires.numbers c.in-Some.point c.in-Some.ensures.there (sym c.is_live_in.ensures ∙ no)

pub returns-else-is_left-clause-absent : goal.returns-else-is_left-clause-absent
returns-else-is_left-clause-absent c = λ no.
    not-left c.args.numbers c.args.number c.requires.numbers c.in-Some.point c.in-Some.ensures.there (sym c.is_left.ensures ∙ c.if-is_left.false)

pub returns-in-None-clause-absent : goal.returns-in-None-clause-absent
returns-in-None-clause-absent c = λ no point at live. absurd (c.in-None.ensures.absent refl point at live)
