use Rattle.std.proofs.Common.{◌≡◌, take, sum_by}
use Rattle.std.specs.Prelude.{ℕ}
use Rattle.scr_nonlife.proofs.volumes.reserve_volume.Given as goal

-- the volumes of the regions so far
abbrev pub invariant-loop-i : goal.invariant-loop-i
invariant-loop-i l = l.sum ≡ sum_by (λ (region : ℕ × ℕ). region.1) (take l.i l.volumes)
