use Rattle.std.proofs.Common.{sym, ◌∙◌}
use Rattle.scr_sum_slots.proofs.Views.{no-some, one-some}
use Rattle.scr_sum_slots.proofs.laws.apart.Goals as goal

pub returns-clause-own : goal.returns-clause-own
returns-clause-own c = λ parts own one two slot x y. one-some (sym (own.own one slot x) ∙ own.own two slot y)

pub returns-clause-free : goal.returns-clause-free
returns-clause-free c = λ parts own part slot x none. no-some (sym none ∙ own.own part slot x)
