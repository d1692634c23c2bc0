-- The numbers of the lower run begin at the number or below it, and those of the higher one above it.
use Rattle.std.proofs.Common.{◌-◌, ◌<◌, ◌≤◌, length}
use Rattle.scr_ids.specs.Kept.{run_at}
use Rattle.scr_ids.proofs.places.run_of.Given as goal

abbrev pub invariant-halves : goal.invariant-halves
invariant-halves l = record {
  order : l.low < l.high;
  within : l.high ≤ length l.runs;
  low : (run_at l.runs l.low).first ≤ l.number;
  high : l.high < length l.runs → l.number < (run_at l.runs l.high).first;
}

abbrev pub decreases-halves : goal.decreases-halves
decreases-halves l = l.high - l.low
