-- The figures so far are known.
use Rattle.std.proofs.Common.{◌≡◌, drop, length}
use Rattle.scr_reachability.specs.LinkedDues.{numbers_of}
use Rattle.scr_tree.specs.Ready.{AreKnownBut}
use Rattle.scr_tree.proofs.together.write_all.Given as goal

abbrev pub invariant-loop-k : goal.invariant-loop-k
invariant-loop-k l = record {
  known : AreKnownBut l.basis l.figures (drop l.k (numbers_of l.dues));
  long : length l.figures ≡ length l.fn.figures;
}
