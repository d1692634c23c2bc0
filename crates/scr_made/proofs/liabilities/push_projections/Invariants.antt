-- What is appended, and what is still to come, is all that is due.
use Rattle.std.proofs.Common.{◌≡◌, ◌++◌, drop, map}
use Rattle.scr_made.specs.Made.{projection_of, stresses, liability_kind}
use Rattle.scr_made.specs.Records.{records_text}
use Rattle.scr_made.proofs.liabilities.push_projections.Given as goal

abbrev pub invariant-loop-projection : goal.invariant-loop-projection
invariant-loop-projection l =
    l.out.items ++ records_text (map (projection_of l.k l.best) (drop l.projection-index l.projection-items))
    ≡ l.fn.out.items ++ records_text (map (projection_of l.k l.best) (stresses (liability_kind l.k)))
