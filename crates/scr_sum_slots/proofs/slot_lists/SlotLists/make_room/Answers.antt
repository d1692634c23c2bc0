use Rattle.std.proofs.Common.{List, subst}
use Rattle.scr_sum_slots.specs.Parts.{NumberList}
use Rattle.scr_sum_slots.specs.Moves.{Roomier}
use Rattle.scr_sum_slots.specs.SlotLists.{lists_by}
use Rattle.scr_sum_slots.proofs.Placed.{by-roomier, roomier-trans}
use Rattle.scr_sum_slots.proofs.slot_lists.SlotLists.make_room.Goals as goal

pub returns-clause-roomier : goal.returns-clause-roomier
returns-clause-roomier c =
    let places = c.place_for.new.places.items in
    let lists = c.place_for.new.lists.items in
    let now = c.room_for.new.lists.items in
    subst (λ (v : List NumberList). Roomier v (lists_by places now)) c.self.view_is
    (roomier-trans (lists_by c.self.inside.places.items c.self.inside.lists.items) (lists_by places lists) (lists_by places now)
    c.place_for.ensures.roomier (by-roomier places lists now c.room_for.ensures.roomier))
