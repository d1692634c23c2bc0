use Rattle.std.proofs.Common.{pos, false, ◌||◌}
use Rattle.std.specs.List.{list_any}
use Rattle.scr_num.specs.Rounding.{exact_ends, add_ends}
use Rattle.scr_num.specs.Sums.{sum_ends}
use Rattle.scr_sum_tree.proofs.Regrouped.{total-tops}
use Rattle.scr_sum_tree.proofs.ListedSums.{sum-tops, ends-add_up, total-ends, or-adds_up, total-or}
use Rattle.scr_sum_tree.proofs.laws.regrouped.Goals as goal

pub returns-clause-total : goal.returns-clause-total
returns-clause-total g c = λ nothing add laws worth member block roll summed.
    total-tops nothing add laws worth member block roll summed

pub returns-clause-ends : goal.returns-clause-ends
returns-clause-ends g c = sum-tops (exact_ends (pos 0)) add_ends ends-add_up sum_ends total-ends

pub returns-clause-any : goal.returns-clause-any
returns-clause-any g c = sum-tops false (λ a b. a || b) or-adds_up (list_any (λ b. b)) total-or
