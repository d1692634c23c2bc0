use Rattle.std.proofs.Common.{◌≡◌, take}
use Rattle.scr_nonlife.specs.Segment.{squared_volumes}
use Rattle.scr_nonlife.proofs.volumes.squared_volumes.Given as goal

-- the squares of the regions so far
abbrev pub invariant-loop-i : goal.invariant-loop-i
invariant-loop-i l = l.sum ≡ squared_volumes (take l.i l.volumes)
