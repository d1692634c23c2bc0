-- The members so far have lower ranks.
use Rattle.std.proofs.Common.{◌≤◌, All, take}
use Rattle.scr_funds.specs.Ranks.{rank_of}
use Rattle.scr_funds.proofs.lowering.rank_above.Given as goal

abbrev pub invariant-loop-member : goal.invariant-loop-member
invariant-loop-member l = All (λ member. rank_of l.ranks member ≤ l.most) (take l.member-index l.members)
