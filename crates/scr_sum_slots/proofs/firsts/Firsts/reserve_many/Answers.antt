use Rattle.std.proofs.Common.{◌≡◌, ◌≤◌, ℕ, subst}
use Rattle.scr_sum_slots.specs.Firsts.{FirstLists, firsts_in, room_beside}
use Rattle.scr_sum_slots.proofs.firsts.Firsts.reserve_many.Goals as goal

pub returns-clause-still : goal.returns-clause-still
returns-clause-still c =
    subst (λ (v : FirstLists). (other : ℕ) → firsts_in other (record { lists = c.make_room.new.lists.items }) ≡ firsts_in other v) c.self.view_is
    c.make_room.ensures.roomier.slots

pub returns-clause-room : goal.returns-clause-room
returns-clause-room c =
    subst (λ (v : FirstLists). (other : ℕ) → room_beside other v ≤ room_beside other (record { lists = c.make_room.new.lists.items })) c.self.view_is
    c.make_room.ensures.roomier.room
