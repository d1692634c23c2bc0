use Rattle.std.proofs.Common.{◌≡◌, ◌-◌, ◌≤◌, max}
use Rattle.scr_num.specs.Rounding.{ends}
use Rattle.scr_partial_sums.specs.Written.{any_block_open, blocks_ends}
use Rattle.scr_partial_sums.proofs.Added.{AddedTo}
use Rattle.scr_partial_sums.proofs.writing.Subtotals.add_blocks.Given as goal

-- what those so far come to, and whether one of them rests on an open choice
abbrev pub invariant-loop-index : goal.invariant-loop-index
invariant-loop-index l = record {
  from : l.start ≤ l.index;
  until : l.index ≤ max l.start l.end;
  added : AddedTo (blocks_ends l.figures l.self l.level l.start (l.end - l.start)) (ends l.span) (l.index - l.start);
  close : l.close ≡ any_block_open l.figures l.self l.level l.start (l.index - l.start);
}
