-- The newlines that are left make up those of all bytes with the ones that were counted.
use Rattle.std.proofs.Common.{◌≡◌, ◌+◌, ◌≤◌, length}
use Rattle.scr_line_chunks.specs.Passages.{ended_lines}
use Rattle.scr_line_chunks.proofs.lines.passed_behind.Given as goal

abbrev pub invariant-loop : goal.invariant-loop
invariant-loop l = record {
  counted : l.ended + length l.iterator' ≡ l.passed + ended_lines l.bytes;
  small : l.ended + length l.iterator' ≤ l.passed + length l.bytes;
}
