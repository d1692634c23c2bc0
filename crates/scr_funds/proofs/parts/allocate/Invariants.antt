-- The components so far have together what the first k have, each its part.
use Rattle.std.proofs.Common.{◌≡◌, ℕ, ◌<◌, sum, take, get_or}
use Rattle.scr_funds.specs.Parts.{first_parts, part_of}
use Rattle.scr_funds.proofs.parts.allocate.Given as goal

abbrev pub invariant-loop-k : goal.invariant-loop-k
invariant-loop-k l = record {
  weight : l.weight ≡ sum (take l.k l.weights);
  shared : l.shared ≡ first_parts l.value l.weights l.k;
  whole : sum (take l.k l.out) ≡ l.shared;
  parts : (j : ℕ) → j < l.k → get_or l.out j 0 ≡ part_of l.value l.weights j;
}
