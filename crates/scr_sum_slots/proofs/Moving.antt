-- The lists of slots, where the last slot of one goes to the end of another.
use Rattle.std.proofs.Common.{◌≡◌, ◌≢◌, ◌⊎◌, inl, inr, ℕ, ◌+◌, ◌<◌, ◌≤◌, ◌++◌, List, [], ◌∷◌, length, get_or, set, refl, sym, ap, subst, ◌∙◌, arith}
use Rattle.std.proofs.lemmas.Bool.{cases_eq, cases_lt}
use Rattle.std.proofs.lemmas.List.{get_or_past, get_or_push, length-set, length_push, same_from_push}
use Rattle.scr_sum_slots.specs.Parts.{FREE, Parted, NumberList, list_at, no_numbers, room_in, size_of, slots_in}
use Rattle.scr_sum_slots.specs.Moves.{AreOthers, AreSame, KeepsRoom, Moved, Roomier}
use Rattle.scr_sum_slots.specs.Kept.{AreKept, IsKept, parted_of}
use Rattle.scr_sum_slots.specs.declared.parts.Parts.TheInside.{Inside}
use Rattle.scr_sum_slots.proofs.Standing.{at-place, kept-moved, kept-same}
use Rattle.scr_sum_slots.proofs.Views.{room-is, size-is, slots-is}

-- a list that has room, or slots, is there
pub there-room : (key : ℕ) (lists : List NumberList) → 0 < (list_at key lists).room → key < length lists
there-room key lists some = by (cases_lt key (length lists))
  where
    by : (key < length lists) ⊎ (length lists ≤ key) → key < length lists
    by (inl inside) = inside
    by (inr past) =
        let none : (list_at key lists).room ≡ 0 = ap (λ (l : NumberList). l.room) (get_or_past lists key no_numbers past) in
        absurd (omega (arith, some, none))

pub there-slots : (key : ℕ) (lists : List NumberList) → 0 < length (list_at key lists).items → key < length lists
there-slots key lists some = by (cases_lt key (length lists))
  where
    by : (key < length lists) ⊎ (length lists ≤ key) → key < length lists
    by (inl inside) = inside
    by (inr past) =
        let none : length (list_at key lists).items ≡ 0 = ap (λ (l : NumberList). length l.items) (get_or_past lists key no_numbers past) in
        absurd (omega (arith, some, none))

-- the last slot of a list is one of all
pub taken-within : (a : Parted) (mid : List NumberList) (from slot : ℕ) → AreKept a
    → (list_at from a.lists).items ≡ (list_at from mid).items ++ slot ∷ [] → slot < length a.owner
taken-within a mid from slot kept taken =
    let last : ℕ = length (list_at from mid).items in
    let long = ap length taken ∙ length_push (list_at from mid).items slot in
    let held = kept.held from last (omega (arith, long)) in
    let is : get_or (slots_in from a) last 0 ≡ slot = ap (λ xs. get_or xs last 0) taken ∙ get_or_push (list_at from mid).items slot 0 last refl in
    subst (λ n. n < length a.owner) is held.within

-- ---- from one list to another

module _ (a b : Parted) (mid : List NumberList) (from to slot : ℕ) (apart : from ≢ to)
    (taken : (list_at from a.lists).items ≡ (list_at from mid).items ++ slot ∷ [])
    (wider : (list_at from a.lists).room + 1 ≤ (list_at from mid).room)
    (first : AreOthers from a.lists mid)
    (put : (list_at to b.lists).items ≡ (list_at to mid).items ++ slot ∷ [])
    (narrower : (list_at to mid).room ≤ (list_at to b.lists).room + 1)
    (second : AreOthers to mid b.lists)
    (owner : b.owner ≡ set a.owner slot (at-place to (length (slots_in to a)))) where
  from-same : list_at from b.lists ≡ list_at from mid
  from-same = second.others from apart

  to-same : list_at to mid ≡ list_at to a.lists
  to-same = first.others to (λ e. apart (sym e))

  left : slots_in from a ≡ slots_in from b ++ slot ∷ []
  left = slots-is from a ∙ taken ∙ ap (λ (l : NumberList). l.items ++ slot ∷ []) (sym from-same) ∙ ap (λ xs. xs ++ slot ∷ []) (sym (slots-is from b))

  joined : slots_in to b ≡ slots_in to a ++ slot ∷ []
  joined = slots-is to b ∙ put ∙ ap (λ (l : NumberList). l.items ++ slot ∷ []) to-same ∙ ap (λ xs. xs ++ slot ∷ []) (sym (slots-is to a))

  other-list : (key : ℕ) → key ≢ from → key ≢ to → list_at key b.lists ≡ list_at key a.lists
  other-list key f t = second.others key t ∙ first.others key f

  others : (key : ℕ) → key ≢ from → key ≢ to → slots_in key b ≡ slots_in key a
  others key f t = slots-is key b ∙ ap (λ (l : NumberList). l.items) (other-list key f t) ∙ sym (slots-is key a)

  room : KeepsRoom a b
  room key = by (cases_eq key from) (cases_eq key to)
    where
      by : (key ≡ from) ⊎ (key ≢ from) → (key ≡ to) ⊎ (key ≢ to)
          → length (slots_in key a) + room_in key a ≤ length (slots_in key b) + room_in key b
      by (inl e) t =
          subst (λ k. length (slots_in k a) + room_in k a ≤ length (slots_in k b) + room_in k b) (sym e)
          (let same = ap (λ (l : NumberList). l.room) from-same in
          omega (arith, ap length left, length_push (slots_in from b) slot, room-is from a, room-is from b, same, wider))
      by (inr f) (inl e) =
          subst (λ k. length (slots_in k a) + room_in k a ≤ length (slots_in k b) + room_in k b) (sym e)
          (let same = ap (λ (l : NumberList). l.room) to-same in
          omega (arith, ap length joined, length_push (slots_in to a) slot, room-is to a, room-is to b, same, narrower))
      by (inr f) (inr t) =
          let same = ap (λ (l : NumberList). l.room) (other-list key f t) in
          omega (arith, ap length (others key f t), room-is key a, room-is key b, same)

  pub moved : Moved from to a b
  moved = record {
    slot = slot;
    left = left;
    joined = joined;
    others = others;
    size = size-is b ∙ ap length owner ∙ length-set a.owner slot (at-place to (length (slots_in to a))) ∙ sym (size-is a);
    room = room;
  }

  pub moved-kept : AreKept a → AreKept b
  moved-kept kept = kept-moved a b kept from to slot apart left joined others owner

-- so of all that is kept
pub kept-through : (before now : Inside) → IsKept before → length now.lists ≡ length before.lists
    → size_of (parted_of now) ≡ size_of (parted_of before) → KeepsRoom (parted_of before) (parted_of now)
    → AreKept (parted_of now) → IsKept now
kept-through before now kept lists size room slots = record {
  lists = omega (arith, kept.lists, lists);
  size = omega (arith, kept.size, size);
  room = let all = room FREE in omega (arith, kept.room, size, all);
  slots = slots;
}

-- ---- more room

module _ (a b : Parted) (roomier : Roomier a.lists b.lists) (owner : b.owner ≡ a.owner) where
  same-slots : (key : ℕ) → slots_in key b ≡ slots_in key a
  same-slots key = slots-is key b ∙ roomier.slots key ∙ sym (slots-is key a)

  pub same : AreSame a b
  same = record {
    slots = same-slots;
    size = size-is b ∙ ap length owner ∙ sym (size-is a);
    room = λ key. let more = roomier.room key in omega (arith, ap length (same-slots key), more, room-is key a, room-is key b);
  }

  pub same-kept : AreKept a → AreKept b
  same-kept kept = kept-same a b kept same-slots owner

pub kept-roomier : (before now : Inside) → IsKept before → Roomier before.lists now.lists → now.owner.items ≡ before.owner.items → IsKept now
kept-roomier before now kept roomier owner =
    let told = same (parted_of before) (parted_of now) roomier owner in
    let all = told.room FREE in
    record {
      lists = roomier.few kept.lists;
      size = omega (arith, kept.size, told.size);
      room = omega (arith, kept.room, told.size, all);
      slots = same-kept (parted_of before) (parted_of now) roomier owner kept.slots;
    }

-- ---- and back

module _ (from to : ℕ) (a b c : Parted) (there : Moved from to a b) (back : Moved to from b c) where
  last : (slots_in to a ≡ slots_in to c) × (there.slot ≡ back.slot)
  last = same_from_push (slots_in to a) (slots_in to c) there.slot back.slot (sym there.joined ∙ back.left)

  pub moved-back : (key : ℕ) → slots_in key c ≡ slots_in key a
  moved-back key = by (cases_eq key from) (cases_eq key to)
    where
      by : (key ≡ from) ⊎ (key ≢ from) → (key ≡ to) ⊎ (key ≢ to) → slots_in key c ≡ slots_in key a
      by (inl e) t =
          subst (λ k. slots_in k c ≡ slots_in k a) (sym e)
          (back.joined ∙ ap (λ s. slots_in from b ++ s ∷ []) (sym last.1) ∙ sym there.left)
      by (inr f) (inl e) = subst (λ k. slots_in k c ≡ slots_in k a) (sym e) (sym last.0)
      by (inr f) (inr t) = back.others key t f ∙ there.others key f t
