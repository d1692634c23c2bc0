use Rattle.std.proofs.Common.{◌*◌, ◌+◌, ◌<◌, ◌≤◌, ap, ◌∙◌, arith}
use Rattle.scr_num.specs.Rounding.{ceil_root}
use Rattle.scr_num.proofs.Roots.{ceil_root-exact, ceil_root-unique, floor_root-square, floor_root-next}
use Rattle.scr_num.proofs.ceil_root_near.Goals as goal

pub returns-then-root-v-clause-value : goal.returns-then-root-v-clause-value
returns-then-root-v-clause-value c = ceil_root-exact c.floor_root_near-root.result ∙ ap ceil_root c.if-root-v.true

pub returns-else-root-v-clause-value : goal.returns-else-root-v-clause-value
returns-else-root-v-clause-value c =
    let v = c.args.v in
    let r = c.floor_root_near-root.result in
    let below : r * r ≤ v = rw c.floor_root_near-root.ensures.value (floor_root-square v) in
    let above : v < (r + 1) * (r + 1) = rw c.floor_root_near-root.ensures.value (omega (arith, floor_root-next v)) in
    ceil_root-unique v r (omega arith) (omega arith)
