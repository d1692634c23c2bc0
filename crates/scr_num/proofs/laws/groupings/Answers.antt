use Rattle.scr_num.specs.Rounding.{Ends}
use Rattle.std.proofs.Common.{List}
use Rattle.scr_num.proofs.SumLemmas.{sum_ends-append, sum_ends-flat_map, sum_ends-swap}
use Rattle.scr_num.proofs.laws.groupings.Goals as goal

pub returns-clause-pair : goal.returns-clause-pair
returns-clause-pair c = sum_ends-append

pub returns-clause-groups : goal.returns-clause-groups
returns-clause-groups c = sum_ends-flat_map (λ (group : List Ends). group)

pub returns-clause-order : goal.returns-clause-order
returns-clause-order c = sum_ends-swap
