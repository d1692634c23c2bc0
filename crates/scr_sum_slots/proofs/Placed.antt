-- Lists by their keys: of each key the place of its list is kept, and the list of that place is its own.
use Rattle.std.proofs.Common.{◌≡◌, ◌≢◌, ◌⊎◌, inl, inr, ℕ, ◌<◌, ◌≤◌, ◌^◌, ◌++◌, List, [], ◌∷◌, length, set, refl, sym, ap, ◌∙◌, arith}
use Rattle.std.specs.Prelude.{if◌then◌else◌}
use Rattle.std.proofs.lemmas.Bool.{cases_eq, cases_lt, ne_eqb}
use Rattle.std.proofs.lemmas.List.{get_or-map, get_or-set_other, get_or-set_same, get_or_append_left, get_or_past, get_or_push, length-map, length-set, length_push}
use Rattle.scr_sum_slots.specs.Parts.{NumberList, list_at, no_numbers}
use Rattle.scr_sum_slots.specs.Moves.{AreOthers, Roomier}
use Rattle.scr_sum_slots.specs.SlotLists.{ArePlaced, list_there, lists_by, place_of}

-- ---- the list of a key

pub list-of : (places : List ℕ) (lists : List NumberList) (key : ℕ) → list_at key (lists_by places lists) ≡ list_there lists (place_of key places)
list-of places lists key = by (cases_lt key (length places))
  where
    by : (key < length places) ⊎ (length places ≤ key) → list_at key (lists_by places lists) ≡ list_there lists (place_of key places)
    by (inl inside) = get_or-map (list_there lists) places key 0 no_numbers inside
    by (inr past) =
        let long = length-map places (list_there lists) in
        get_or_past (lists_by places lists) key no_numbers (omega (arith, past, long)) ∙ ap (list_there lists) (sym (get_or_past places key 0 past))

there-own : (lists : List NumberList) (place : ℕ) → 0 < place → list_there lists place ≡ list_at place lists
there-own lists place some = ap (λ t. if t then no_numbers else list_at place lists) (ne_eqb place 0 (λ e. omega (arith, e, some)))

-- the first list has no slot either
pub slots-of : (places : List ℕ) (lists : List NumberList) (key : ℕ) → ArePlaced places lists
    → (list_at (place_of key places) lists).items ≡ (list_at key (lists_by places lists)).items
slots-of places lists key placed = by (cases_lt 0 (place_of key places))
  where
    by : (0 < place_of key places) ⊎ (place_of key places ≤ 0) → (list_at (place_of key places) lists).items ≡ (list_at key (lists_by places lists)).items
    by (inl some) = ap (λ (l : NumberList). l.items) (sym (list-of places lists key ∙ there-own lists (place_of key places) some))
    by (inr none) =
        let first : place_of key places ≡ 0 = omega (arith, none) in
        ap (λ p. (list_at p lists).items) first ∙ placed.none
        ∙ sym (ap (λ (l : NumberList). l.items) (list-of places lists key ∙ ap (list_there lists) first))

-- a list that has slots, or room, is the key's own
module _ (places : List ℕ) (lists : List NumberList) (key : ℕ) where
  pub own-slots : 0 < length (list_at key (lists_by places lists)).items → 0 < place_of key places
  own-slots some = by (cases_lt 0 (place_of key places))
    where
      by : (0 < place_of key places) ⊎ (place_of key places ≤ 0) → 0 < place_of key places
      by (inl own) = own
      by (inr none) =
          let first : place_of key places ≡ 0 = omega (arith, none) in
          let empty : length (list_at key (lists_by places lists)).items ≡ 0 =
          ap (λ (l : NumberList). length l.items) (list-of places lists key ∙ ap (list_there lists) first) in
          absurd (omega (arith, some, empty))

  pub own-room : 0 < (list_at key (lists_by places lists)).room → 0 < place_of key places
  own-room some = by (cases_lt 0 (place_of key places))
    where
      by : (0 < place_of key places) ⊎ (place_of key places ≤ 0) → 0 < place_of key places
      by (inl own) = own
      by (inr none) =
          let first : place_of key places ≡ 0 = omega (arith, none) in
          let narrow : (list_at key (lists_by places lists)).room ≡ 0 =
          ap (λ (l : NumberList). l.room) (list-of places lists key ∙ ap (list_there lists) first) in
          absurd (omega (arith, some, narrow))

  pub key-inside : 0 < place_of key places → key < length places
  key-inside some = by (cases_lt key (length places))
    where
      by : (key < length places) ⊎ (length places ≤ key) → key < length places
      by (inl inside) = inside
      by (inr past) = let none = get_or_past places key 0 past in absurd (omega (arith, some, none))

  pub list-own : 0 < place_of key places → list_at key (lists_by places lists) ≡ list_at (place_of key places) lists
  list-own some = list-of places lists key ∙ there-own lists (place_of key places) some

-- ---- more keys

module _ (before now : List ℕ) (lists : List NumberList) (still : (key : ℕ) → place_of key now ≡ place_of key before) where
  pub placed-still : ArePlaced before lists → ArePlaced now lists
  placed-still placed = record {
    there = λ key. let low = placed.there key in let same = still key in omega (arith, low, same);
    own = λ one two same some. placed.own one two (sym (still one) ∙ same ∙ still two) (let is = still one in omega (arith, some, is));
    none = placed.none;
  }

  pub by-still : length before ≤ length now → (length before ≤ 2 ^ 32 → length now ≤ 2 ^ 32) → Roomier (lists_by before lists) (lists_by now lists)
  by-still more few =
      let was = length-map before (list_there lists) in
      let is = length-map now (list_there lists) in
      record {
        slots = λ key. ap (λ (l : NumberList). l.items) (same key);
        room = λ key. let rooms = ap (λ (l : NumberList). l.room) (same key) in omega (arith, rooms);
        more = omega (arith, more, was, is);
        few = λ all. let most = few (omega (arith, all, was)) in omega (arith, most, is);
      }
    where
      same : (key : ℕ) → list_at key (lists_by now lists) ≡ list_at key (lists_by before lists)
      same key = list-of now lists key ∙ ap (list_there lists) (still key) ∙ sym (list-of before lists key)

-- ---- a list more, of a key that had none

module _ (places : List ℕ) (lists : List NumberList) (key : ℕ) (fresh : NumberList) (inside : key < length places) (free : place_of key places ≡ 0)
    (empty : fresh.items ≡ []) (placed : ArePlaced places lists) where
  abbrev now : List ℕ
  now = set places key (length lists)

  abbrev longer : List NumberList
  longer = lists ++ fresh ∷ []

  first : 0 < length lists
  first = let low = placed.there 0 in omega (arith, low)

  place-own : place_of key now ≡ length lists
  place-own = get_or-set_same places key (length lists) 0 inside

  place-other : (other : ℕ) → other ≢ key → place_of other now ≡ place_of other places
  place-other other ne = get_or-set_other places key other (length lists) 0 ne

  list-early : (place : ℕ) → place < length lists → list_at place longer ≡ list_at place lists
  list-early place low = get_or_append_left lists (fresh ∷ []) no_numbers place low

  there-early : (place : ℕ) → place < length lists → list_there longer place ≡ list_there lists place
  there-early place low = by (cases_lt 0 place)
    where
      by : (0 < place) ⊎ (place ≤ 0) → list_there longer place ≡ list_there lists place
      by (inl some) = there-own longer place some ∙ list-early place low ∙ sym (there-own lists place some)
      by (inr none) = let zeroth : place ≡ 0 = omega (arith, none) in ap (list_there longer) zeroth ∙ ap (list_there lists) (sym zeroth)

  pub placed-more : ArePlaced now longer
  placed-more = record { there = there; own = own; none = ap (λ (l : NumberList). l.items) (list-early 0 first) ∙ placed.none }
    where
      there : (other : ℕ) → place_of other now < length longer
      there other = by (cases_eq other key)
        where
          by : (other ≡ key) ⊎ (other ≢ key) → place_of other now < length longer
          by (inl e) = let here = ap (λ k. place_of k now) e in omega (arith, here, place-own, length_push lists fresh)
          by (inr ne) = let low = placed.there other in let same = place-other other ne in omega (arith, low, same, length_push lists fresh)

      own : (one two : ℕ) → place_of one now ≡ place_of two now → 0 < place_of one now → one ≡ two
      own one two same some = by (cases_eq one key) (cases_eq two key)
        where
          by : (one ≡ key) ⊎ (one ≢ key) → (two ≡ key) ⊎ (two ≢ key) → one ≡ two
          by (inl e) (inl f) = e ∙ sym f
          by (inl e) (inr g) =
              let here = ap (λ k. place_of k now) e in
              let low = placed.there two in
              let other = place-other two g in
              absurd (omega (arith, here, place-own, low, other, same))
          by (inr g) (inl f) =
              let here = ap (λ k. place_of k now) f in
              let low = placed.there one in
              let other = place-other one g in
              absurd (omega (arith, here, place-own, low, other, same))
          by (inr g) (inr h) =
              let is = place-other one g in
              placed.own one two (sym is ∙ same ∙ place-other two h) (omega (arith, some, is))

  own-list : list_at key (lists_by now longer) ≡ fresh
  own-list =
      list-of now longer key ∙ ap (list_there longer) place-own ∙ there-own longer (length lists) first
      ∙ get_or_push lists fresh no_numbers (length lists) refl

  no-list : list_at key (lists_by places lists) ≡ no_numbers
  no-list = list-of places lists key ∙ ap (list_there lists) free

  other-list : (other : ℕ) → other ≢ key → list_at other (lists_by now longer) ≡ list_at other (lists_by places lists)
  other-list other ne =
      list-of now longer other ∙ ap (list_there longer) (place-other other ne) ∙ there-early (place_of other places) (placed.there other)
      ∙ sym (list-of places lists other)

  pub by-more : Roomier (lists_by places lists) (lists_by now longer)
  by-more =
      let was = length-map places (list_there lists) in
      let is = length-map now (list_there longer) in
      let same = length-set places key (length lists) in
      record {
        slots = λ other. slots other (cases_eq other key);
        room = λ other. room other (cases_eq other key);
        more = omega (arith, was, is, same);
        few = λ all. omega (arith, all, was, is, same);
      }
    where
      slots : (other : ℕ) → (other ≡ key) ⊎ (other ≢ key) → (list_at other (lists_by now longer)).items ≡ (list_at other (lists_by places lists)).items
      slots other (inl e) =
          ap (λ k. (list_at k (lists_by now longer)).items) e ∙ ap (λ (l : NumberList). l.items) own-list ∙ empty
          ∙ ap (λ (l : NumberList). l.items) (sym no-list) ∙ ap (λ k. (list_at k (lists_by places lists)).items) (sym e)
      slots other (inr ne) = ap (λ (l : NumberList). l.items) (other-list other ne)

      room : (other : ℕ) → (other ≡ key) ⊎ (other ≢ key) → (list_at other (lists_by places lists)).room ≤ (list_at other (lists_by now longer)).room
      room other (inl e) =
          let none = ap (λ k. (list_at k (lists_by places lists)).room) e ∙ ap (λ (l : NumberList). l.room) no-list in omega (arith, none)
      room other (inr ne) = let rooms = ap (λ (l : NumberList). l.room) (other-list other ne) in omega (arith, rooms)

pub roomier-trans : (a b c : List NumberList) → Roomier a b → Roomier b c → Roomier a c
roomier-trans a b c one two = record {
  slots = λ key. two.slots key ∙ one.slots key;
  room = λ key. let x = one.room key in let y = two.room key in omega (arith, x, y);
  more = let x = one.more in let y = two.more in omega (arith, x, y);
  few = λ all. two.few (one.few all);
}

-- ---- more room

module _ (places : List ℕ) (before now : List NumberList) (roomier : Roomier before now) where
  pub placed-roomier : ArePlaced places before → ArePlaced places now
  placed-roomier placed = record {
    there = λ key. let low = placed.there key in let more = roomier.more in omega (arith, low, more);
    own = placed.own;
    none = roomier.slots 0 ∙ placed.none;
  }

  pub by-roomier : Roomier (lists_by places before) (lists_by places now)
  by-roomier =
      let was = length-map places (list_there before) in
      let is = length-map places (list_there now) in
      record {
        slots = λ key.
            ap (λ (l : NumberList). l.items) (list-of places now key) ∙ slots (place_of key places) (cases_lt 0 (place_of key places))
            ∙ ap (λ (l : NumberList). l.items) (sym (list-of places before key));
        room = λ key.
            let old = ap (λ (l : NumberList). l.room) (list-of places before key) in
            let new = ap (λ (l : NumberList). l.room) (list-of places now key) in
            let more = room (place_of key places) (cases_lt 0 (place_of key places)) in
            omega (arith, old, new, more);
        more = omega (arith, was, is);
        few = λ all. omega (arith, all, was, is);
      }
    where
      slots : (place : ℕ) → (0 < place) ⊎ (place ≤ 0) → (list_there now place).items ≡ (list_there before place).items
      slots place (inl some) =
          ap (λ (l : NumberList). l.items) (there-own now place some) ∙ roomier.slots place
          ∙ ap (λ (l : NumberList). l.items) (sym (there-own before place some))
      slots place (inr none) =
          let zeroth : place ≡ 0 = omega (arith, none) in
          ap (λ p. (list_there now p).items) zeroth ∙ ap (λ p. (list_there before p).items) (sym zeroth)

      room : (place : ℕ) → (0 < place) ⊎ (place ≤ 0) → (list_there before place).room ≤ (list_there now place).room
      room place (inl some) =
          let old = ap (λ (l : NumberList). l.room) (there-own before place some) in
          let new = ap (λ (l : NumberList). l.room) (there-own now place some) in
          let more = roomier.room place in
          omega (arith, old, new, more)
      room place (inr none) =
          let zeroth : place ≡ 0 = omega (arith, none) in
          let old = ap (λ p. (list_there before p).room) zeroth in
          omega (arith, old)

-- ---- one list changes, and is a key's own

module _ (places : List ℕ) (before now : List NumberList) (key : ℕ) (some : 0 < place_of key places)
    (others : AreOthers (place_of key places) before now) (placed : ArePlaced places before) where
  pub placed-others : ArePlaced places now
  placed-others = record {
    there = λ other. let low = placed.there other in let same = others.lists in omega (arith, low, same);
    own = placed.own;
    none = ap (λ (l : NumberList). l.items) (others.others 0 (λ e. omega (arith, e, some))) ∙ placed.none;
  }

  pub by-others : AreOthers key (lists_by places before) (lists_by places now)
  by-others = record {
    lists = length-map places (list_there now) ∙ sym (length-map places (list_there before));
    others = λ other ne. list-of places now other ∙ same other ne (cases_lt 0 (place_of other places)) ∙ sym (list-of places before other);
  }
    where
      same : (other : ℕ) → other ≢ key → (0 < place_of other places) ⊎ (place_of other places ≤ 0)
          → list_there now (place_of other places) ≡ list_there before (place_of other places)
      same other ne (inl own) =
          there-own now (place_of other places) own ∙ others.others (place_of other places) (λ e. ne (placed.own other key e own))
          ∙ sym (there-own before (place_of other places) own)
      same other ne (inr none) =
          let zeroth : place_of other places ≡ 0 = omega (arith, none) in ap (list_there now) zeroth ∙ ap (list_there before) (sym zeroth)
