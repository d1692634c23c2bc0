use Rattle.std.proofs.Common.{◌≡◌, ℕ, ◌<◌, length, get_or, sum_by, take}
use Rattle.scr_funds.specs.ByNumber.{weighted_rows}
use Rattle.scr_funds.specs.HandedOn.{times}
use Rattle.scr_funds.proofs.look_through.holders_of.Given as goal

abbrev pub invariant-loop-row : goal.invariant-loop-row
invariant-loop-row l = record {
  size : length l.waiting.items ≡ l.fn.size;
  counts : (x : ℕ) → x < l.fn.size → get_or l.waiting.items x 0
      ≡ sum_by (times x) (take l.row-index (weighted_rows l.funds));
}
