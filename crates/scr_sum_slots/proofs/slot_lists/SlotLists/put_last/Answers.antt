use Rattle.std.proofs.Common.{◌≡◌, ℕ, ◌<◌, List, subst, sym, ◌∙◌}
use Rattle.std.proofs.lemmas.List.{get_or_default}
use Rattle.scr_sum_slots.specs.Parts.{NumberList, list_at}
use Rattle.scr_sum_slots.specs.Moves.{AreOthers}
use Rattle.scr_sum_slots.specs.SlotLists.{lists_by, place_of}
use Rattle.scr_sum_slots.proofs.Placed.{by-others, key-inside, own-room}
use Rattle.scr_sum_slots.proofs.slot_lists.SlotLists.put_last.Goals as goal

pub returns-clause-others : goal.returns-clause-others
returns-clause-others c =
    let places = c.self.inside.places.items in
    let was = c.self.inside.lists.items in
    let now = c.put_last.new.lists.items in
    let key = c.args.key in
    let some = subst (λ (v : List NumberList). 0 < (list_at key v).room) (sym c.self.view_is) c.requires in
    let own = own-room places was key some in
    let here : c.index-place.result.now ≡ place_of key places =
    c.index-place.ensures ∙ get_or_default places key c.index-place.result.now 0 (key-inside places was key own) in
    subst (λ (v : List NumberList). AreOthers key v (lists_by places now)) c.self.view_is
    (by-others places was now key own (subst (λ (n : ℕ). AreOthers n was now) here c.put_last.ensures.others) c.self.invariant)
