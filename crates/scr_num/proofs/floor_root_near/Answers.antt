use Rattle.scr_num.proofs.Roots.{floor_root-unique}
use Rattle.scr_num.proofs.floor_root_near.Goals as goal

pub returns-else-is_floor_root-2-clause-value : goal.returns-else-is_floor_root-2-clause-value
returns-else-is_floor_root-2-clause-value c = floor_root-unique _ _ c.isqrt.ensures.square_le c.isqrt.ensures.next_square_gt
