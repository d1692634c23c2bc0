use Rattle.std.proofs.Common.{◌≡◌, map, take}
use Rattle.scr_funds.proofs.look_through.copy_weights.Given as goal

abbrev pub invariant-loop-place : goal.invariant-loop-place
invariant-loop-place l = take l.place l.weights ≡ map (λ c. c.1) (take l.place l.row)
