-- With those that are left the ranks are what they come to be.
use Rattle.std.proofs.Common.{◌≡◌, ℕ, length}
use Rattle.scr_funds.specs.Ranks.{HavePlaces, rank_now}
use Rattle.scr_funds.proofs.ranks.give.Given as goal

abbrev pub invariant-loop-fund : goal.invariant-loop-fund
invariant-loop-fund l = record {
  each : (fund : ℕ) → rank_now l.ranks.items l.left.entries fund ≡ rank_now l.fn.ranks.items l.fn.fresh.entries fund;
  placed : HavePlaces l.ranks.items l.left.entries;
  long : length l.ranks.items ≡ length l.fn.ranks.items;
}

abbrev pub decreases-loop-fund : goal.decreases-loop-fund
decreases-loop-fund l = length l.left.entries
