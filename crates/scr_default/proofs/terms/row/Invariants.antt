use Rattle.std.proofs.Common.{◌≡◌}
use Rattle.scr_num.specs.Rounding.{ends}
use Rattle.scr_default.specs.VarianceEnds.{between_term_ends}
use Rattle.scr_default.proofs.AddedUp.{ends_below}
use Rattle.scr_default.proofs.terms.row.Given as goal

abbrev pub invariant-loop-k : goal.invariant-loop-k
invariant-loop-k l = ends l.sum ≡ ends_below (between_term_ends l.totals l.j) l.k
