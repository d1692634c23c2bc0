-- The seats of blocks (own). A seat is below the number of blocks. With room for at most 65,535 blocks each is stored in 16 bits;
-- there 65,535 stands for a block that is not written. With more room each is stored in 32 bits.
use Rattle.std.specs.Prelude.{ℕ, ◌==◌, List, if◌then◌else◌}
use Rattle.scr_links.specs.Chains.{none}

-- The seats by block, `none` for a block that is not written, and the number of blocks with room (own).
pub record Seating : Type 0 where
  pub items : List ℕ
  pub room : ℕ

-- The 16 bits of a block that is not written (own).
abbrev pub short_none : ℕ
short_none = 65535

-- The seat that 16 bits stand for (own).
abbrev pub long_seat : ℕ → ℕ
long_seat seat = if seat == short_none then none else seat
