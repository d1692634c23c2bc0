-- The last is the greatest of the number and the sources so far.
use Rattle.std.proofs.Common.{ℕ, ◌<◌, ◌≤◌, All, take}
use Rattle.scr_tree.proofs.making.past.Given as goal

abbrev pub invariant-loop-source : goal.invariant-loop-source
invariant-loop-source l = record {
  number : l.number ≤ l.last;
  sources : All (λ source. source ≤ l.last) (take l.source-index l.sources);
  least : (size : ℕ) → l.number < size → All (λ source. source < size) l.sources → l.last < size;
}
