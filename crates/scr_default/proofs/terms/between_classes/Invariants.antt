use Rattle.std.proofs.Common.{◌≡◌}
use Rattle.scr_num.specs.Rounding.{ends}
use Rattle.scr_default.specs.VarianceEnds.{between_term_ends, sum_of_class_ends}
use Rattle.scr_default.proofs.AddedUp.{ends_below}
use Rattle.scr_default.proofs.terms.between_classes.Given as goal

abbrev pub invariant-loop-j : goal.invariant-loop-j
invariant-loop-j l = ends l.sum ≡ ends_below (λ j. sum_of_class_ends (between_term_ends l.totals j)) l.j
