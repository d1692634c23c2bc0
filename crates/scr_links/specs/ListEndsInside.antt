-- The view of stored ends of lists and their invariant (own).
use Rattle.std.specs.Prelude.{◌*◌, ◌≤◌, ◌^◌, length, vec_capacity}
use Rattle.scr_links.specs.Chains.{EndsByList}
use Rattle.scr_links.specs.ListEnds.{AreSeated}
use Rattle.scr_links.specs.declared.list_ends.ListEnds.TheInside.{Inside}

-- What contracts see of the stored ends (own).
abbrev pub ends_by_list : Inside → EndsByList
ends_by_list inside = record { seats = inside.seats.items; written = inside.ends.items; room = inside.blocks * 4 }

-- The invariant of stored ends (own): seats and written blocks agree, and there is room for all blocks, at most 2^30.
pub record IsKept (inside : Inside) : Type 0 where
  pub seated : AreSeated inside.seats.items inside.ends.items
  pub blocks : length inside.seats.items ≤ inside.blocks
  pub seats : inside.blocks ≤ inside.seats.room
  pub ends : inside.blocks * 4 ≤ vec_capacity inside.ends
  pub few : inside.blocks ≤ 2 ^ 30
