use Rattle.std.proofs.Common.{◌≡◌, ℕ, ◌++◌, ◌∷◌, List, [], length, set, subst, sym, rules}
use Rattle.scr_sum_slots.specs.Parts.{NumberList}
use Rattle.scr_sum_slots.specs.Moves.{Roomier}
use Rattle.scr_sum_slots.specs.SlotLists.{lists_by, place_of}
use Rattle.scr_sum_slots.proofs.Placed.{by-more, by-still, placed-still, roomier-trans}
use Rattle.scr_sum_slots.proofs.slot_lists.place_for.Goals as goal

pub returns-in_err-reach-clause-roomier : goal.returns-in_err-reach-clause-roomier
returns-in_err-reach-clause-roomier c =
    by-still c.args.places.now.items c.reach.new.places.items c.args.lists.now.items c.reach.ensures.still c.reach.ensures.more c.reach.ensures.few

pub returns-then-index-ne-NONE-clause-roomier : goal.returns-then-index-ne-NONE-clause-roomier
returns-then-index-ne-NONE-clause-roomier c =
    by-still c.args.places.now.items c.reach.new.places.items c.args.lists.now.items c.reach.ensures.still c.reach.ensures.more c.reach.ensures.few

pub returns-in_default-clause-roomier : goal.returns-in_default-clause-roomier
returns-in_default-clause-roomier c =
    by-still c.args.places.now.items c.reach.new.places.items c.args.lists.now.items c.reach.ensures.still c.reach.ensures.more c.reach.ensures.few

pub returns-in_err-push-clause-roomier : goal.returns-in_err-push-clause-roomier
returns-in_err-push-clause-roomier c =
    let was = lists_by c.args.places.now.items c.args.lists.now.items in
    let places = c.reach.new.places.items in
    subst (λ (lists : List NumberList). Roomier was (lists_by places lists)) (sym c.in_err-push.ensures.items)
    (by-still c.args.places.now.items places c.args.lists.now.items c.reach.ensures.still c.reach.ensures.more c.reach.ensures.few)

pub returns-clause-roomier : goal.returns-clause-roomier
returns-clause-roomier c =
    let was = lists_by c.args.places.now.items c.args.lists.now.items in
    let places = c.reach.new.places.items in
    let lists = c.args.lists.now.items in
    let key = c.args.key in
    let fresh : NumberList = c.new.result in
    let free : place_of key places ≡ 0 = search rules in
    let last : c.in-Ok.place ≡ length lists = search rules in
    subst (λ (n : ℕ). Roomier was (lists_by (set places key n) c.push.new.self.items)) (sym last)
    (subst (λ (ls : List NumberList). Roomier was (lists_by (set places key (length lists)) ls)) (sym c.in_ok-push.ensures.items)
    (roomier-trans was (lists_by places lists) (lists_by (set places key (length lists)) (lists ++ fresh ∷ []))
    (by-still c.args.places.now.items places lists c.reach.ensures.still c.reach.ensures.more c.reach.ensures.few)
    (by-more places lists key fresh c.in_ok-reach.ensures.there free c.new.ensures
    (placed-still c.args.places.now.items places lists c.reach.ensures.still c.requires))))
