use Rattle.std.proofs.Common.{◌≡◌, ℕ, ◌+◌, ◌-◌, ◌*◌, ◌<◌, ◌≤◌, leb, eqb, leb-true, le-leb, arith}
use Rattle.std.proofs.lemmas.Bool.Decides.{same_from_decides, Decides-eqb}
use Rattle.scr_num.specs.Rounding.{floor_root}
use Rattle.scr_num.proofs.Roots.{floor_root-square, floor_root-next, floor_root-unique}
use Rattle.scr_num.proofs.is_floor_root.Goals as goal

next_square : (v r : ℕ) → r ≡ floor_root v → v < (r + 1) * (r + 1)
next_square v r e = rw e (omega (arith, floor_root-next v))

near_above : (v r : ℕ) → r * r ≤ v → leb (v - r * r) (2 * r) ≡ eqb r (floor_root v)
near_above v r below =
    same_from_decides (leb (v - r * r) (2 * r)) (eqb r (floor_root v)) (
      λ t. floor_root-unique v r below (omega (arith, leb-true (v - r * r) (2 * r) t)),
      λ e. le-leb (v - r * r) (2 * r) (omega (arith, next_square v r e)),
    )
    (Decides-eqb r (floor_root v))

too_high : (v r : ℕ) → v < r * r → leb (r * r) v ≡ eqb r (floor_root v)
too_high v r above =
    same_from_decides (leb (r * r) v) (eqb r (floor_root v)) (
      λ t. absurd (omega (arith, leb-true (r * r) v t)),
      λ e. let square : r * r ≤ v = rw e (floor_root-square v) in absurd (omega arith),
    )
    (Decides-eqb r (floor_root v))

pub returns-then-square-v : goal.returns-then-square-v
returns-then-square-v c = near_above c.args.v c.args.root c.if-square-v.true

pub returns-else-square-v : goal.returns-else-square-v
returns-else-square-v c = too_high c.args.v c.args.root c.if-square-v.false
