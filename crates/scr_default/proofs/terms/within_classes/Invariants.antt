use Rattle.std.proofs.Common.{◌≡◌}
use Rattle.scr_num.specs.Rounding.{ends}
use Rattle.scr_default.specs.VarianceEnds.{within_term_ends}
use Rattle.scr_default.proofs.AddedUp.{ends_below}
use Rattle.scr_default.proofs.terms.within_classes.Given as goal

abbrev pub invariant-loop-j : goal.invariant-loop-j
invariant-loop-j l = ends l.sum ≡ ends_below (within_term_ends l.squares) l.j
