use Rattle.std.proofs.Common.{◌≡◌, ℕ, ◌*◌, List, pos, slice_index_or, take}
use Rattle.std.specs.Prelude.{◌≤ℤ◌, sum_by}
use Rattle.scr_tree.specs.RowSpans.{BeginAt}
use Rattle.scr_tree.proofs.row_spans.sum_of.Given as goal

-- what is held of those so far, of each less than 2 ^ 64
abbrev pub invariant-loop-first : goal.invariant-loop-first
invariant-loop-first l = record {
  sum : (rows : List ℕ) → BeginAt l.places l.firsts rows
      → l.sum ≡ pos (sum_by (λ row. slice_index_or l.cents row 0) (take l.first-index rows));
  low : pos 0 ≤ℤ l.sum;
  high : l.sum ≤ℤ pos (l.first-index * 18446744073709551615);
}
