use Rattle.std.proofs.Common.{sym, ◌∙◌}
use Rattle.scr_tree.proofs.sums.figure_of.Goals as goal

pub by_tops-requires-clause-first : goal.by_tops-requires-clause-first
by_tops-requires-clause-first g c = sym c.first_sum.ensures ∙ c.in-Some.is

pub plain_of-requires-clause-plain : goal.plain_of-requires-clause-plain
plain_of-requires-clause-plain g c = sym c.first_sum.ensures ∙ c.in-None.is
