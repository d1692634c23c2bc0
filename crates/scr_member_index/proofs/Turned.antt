-- A row is taken back: its first number, and the parts of the lists.
use Rattle.std.proofs.Common.{◌≡◌, ◌≢◌, ◌⊎◌, inl, inr, ℕ, ◌+◌, ◌<◌, ◌≤◌, List, [], ◌∷◌, length, map, get_or, Option, Some, None, slice_get, refl, sym, ap, ap₂, subst, ◌∙◌, arith}
use Rattle.std.proofs.lemmas.Bool.{cases_eq}
use Rattle.std.proofs.lemmas.List.{get_or-map, length-map, length_push}
use Rattle.scr_sum_tree.specs.Blocks.{blocks_at}
use Rattle.scr_sum_tree.specs.declared.blocks.Level.{Level}
use Rattle.scr_member_lists.specs.Members as members
use Rattle.scr_member_lists.specs.Seatings.{NOWHERE, place_in, roll_in, stood}
use Rattle.scr_member_lists.proofs.Places as places
use Rattle.scr_member_lists.proofs.SeatMoves.{come-back}
use Rattle.scr_sum_slots.specs.Firsts.{FirstLists, back_at, first_at, firsts_in, left}
use Rattle.scr_sum_slots.specs.Following.{CanReseat, HasFollowed, reseated}
use Rattle.scr_sum_slots.specs.Moves.{KeepsParts}
use Rattle.scr_sum_slots.specs.Parts.{Parted, count_of, key_of}
use Rattle.scr_sum_slots.proofs.Members.{gone, length-back, length-left, returned}
use Rattle.scr_member_index.specs.Lists.{list_in}
use Rattle.scr_member_index.specs.Following.{CanTakeBack, IsStill}
use Rattle.scr_member_index.specs.Parting.{AreCut, AreExtended, AreSameSlots, CanRegainAll, Comes, IsGrown}
use Rattle.scr_member_index.specs.declared.standing.Move.{Move}
use Rattle.scr_member_index.proofs.Counting.{list-apart}
use Rattle.scr_member_index.proofs.RowMoves.{stood-in, stood-out}
use Rattle.scr_member_index.proofs.Seated.{cut-same}

-- ---- numbers as names of one letter, whose lists go back

abbrev named : List ℕ → List (List ℕ)
named firsts = map (λ (n : ℕ). n ∷ []) firsts

abbrev letter : List ℕ → ℕ
letter name = get_or name 0 0

letters : (firsts : List ℕ) → map letter (named firsts) ≡ firsts
letters [] = refl
letters (n ∷ firsts) = ap (λ (ns : List ℕ). n ∷ ns) (letters firsts)

named-length : (firsts : List ℕ) → length (named firsts) ≡ length firsts
named-length firsts = length-map firsts (λ (n : ℕ). n ∷ [])

pub back-left : (place : ℕ) (firsts : List ℕ) → place < length firsts → back_at place (first_at place firsts) (left place firsts) ≡ firsts
back-left place firsts within =
    ap₂ (λ (n : ℕ) (ns : List ℕ). back_at place n ns) (sym own) gone_from
    ∙ sym (returned letter place (get_or (named firsts) place []) (members.left place (named firsts)) room)
    ∙ ap (map letter) (places.back_at-left place (named firsts) inside)
    ∙ letters firsts
  where
    inside : place < length (named firsts)
    inside = omega (arith, within, named-length firsts)

    own : letter (get_or (named firsts) place []) ≡ first_at place firsts
    own = ap letter (get_or-map (λ (n : ℕ). n ∷ []) firsts place 0 [] within)

    gone_from : left place firsts ≡ map letter (members.left place (named firsts))
    gone_from = ap (left place) (sym (letters firsts)) ∙ sym (gone letter place (named firsts) inside)

    long : length (members.left place (named firsts)) ≡ length (left place firsts)
    long = sym (length-map (members.left place (named firsts)) letter) ∙ ap length (sym gone_from)

    room : place ≤ length (members.left place (named firsts))
    room = let less = length-left place firsts in omega (arith, within, long, less)

pub left-back : (place first : ℕ) (firsts : List ℕ) → place ≡ length firsts → left place (back_at place first firsts) ≡ firsts
left-back place first firsts last =
    ap (left place) joined_as
    ∙ sym (gone letter place (members.come name (named firsts)) low)
    ∙ ap (map letter) (ap (λ (n : ℕ). members.left n (members.come name (named firsts))) at_end ∙ places.left-come name (named firsts))
    ∙ letters firsts
  where
    name : List ℕ
    name = first ∷ []

    at_end : place ≡ length (named firsts)
    at_end = last ∙ sym (named-length firsts)

    joined_as : back_at place first firsts ≡ map letter (members.come name (named firsts))
    joined_as =
        ap (back_at place first) (sym (letters firsts)) ∙ sym (returned letter place name (named firsts) (omega (arith, at_end)))
        ∙ ap (map letter) (ap (λ (n : ℕ). members.back_at n name (named firsts)) at_end ∙ sym (come-back name (named firsts)))

    low : place < length (members.come name (named firsts))
    low = let long = length_push (named firsts) name in omega (arith, long, at_end)

-- ---- all is taken back

module _ (move : Move) (was now : FirstLists) (old new : Parted) (t : CanTakeBack move was now old new) where
  at : (list : ℕ) → list ≢ NOWHERE → (x y : Option ℕ) → stood (t.can.seat_of list) list move.before ≡ x → stood (t.can.seat_of list) list move.after ≡ y
      → firsts_in list now ≡ reseated move.first x y (firsts_in list was)
  at list some x y e d =
      (t.moved.firsts t.can.seat_of t.can.before t.can.after).lists list some (t.can.few list)
      ∙ ap₂ (λ (a b : Option ℕ). reseated move.first a b (firsts_in list was)) e d

  comes : (seat : ℕ) → seat < 11 → roll_in seat move.after ≢ NOWHERE → roll_in seat move.before ≢ roll_in seat move.after
      → firsts_in (roll_in seat move.after) now ≡ back_at (place_in seat move.after) move.first (firsts_in (roll_in seat move.after) was)
  comes seat low some ne =
      let own = t.can.after seat low some in
      at (roll_in seat move.after) some None (Some (place_in seat move.after))
      (ap (λ s. stood s (roll_in seat move.after) move.before) own ∙ stood-out seat (roll_in seat move.after) move.before ne)
      (ap (λ s. stood s (roll_in seat move.after) move.after) own ∙ stood-in seat (roll_in seat move.after) move.after refl)

  leaves : (seat : ℕ) → seat < 11 → roll_in seat move.before ≢ NOWHERE → roll_in seat move.before ≢ roll_in seat move.after
      → firsts_in (roll_in seat move.before) now ≡ left (place_in seat move.before) (firsts_in (roll_in seat move.before) was)
  leaves seat low some ne =
      let own = t.can.before seat low some in
      at (roll_in seat move.before) some (Some (place_in seat move.before)) None
      (ap (λ s. stood s (roll_in seat move.before) move.before) own ∙ stood-in seat (roll_in seat move.before) move.before refl)
      (ap (λ s. stood s (roll_in seat move.before) move.after) own ∙ stood-out seat (roll_in seat move.before) move.after (λ e. ne (sym e)))

  pub can-return : (seat : ℕ) → seat < 11 → CanReseat move.after move.before seat now
  can-return seat low = record {
    there = λ some apart. (
        let long = ap length (comes seat low some (λ e. apart (sym e))) in
        let more = length-back (place_in seat move.after) move.first (firsts_in (roll_in seat move.after) was) in
        let last = t.can.place seat low some (λ e. apart (sym e)) in
        omega (arith, long, more, last));
    place = λ some apart. (
        let long = ap length (leaves seat low some (λ e. apart (sym e))) in
        let less = length-left (place_in seat move.before) (firsts_in (roll_in seat move.before) was) in
        let within = t.can.there seat low some (λ e. apart (sym e)) in
        omega (arith, long, less, within));
    room = λ some apart. (
        let long = ap length (leaves seat low some (λ e. apart (sym e))) in
        let less = length-left (place_in seat move.before) (firsts_in (roll_in seat move.before) was) in
        let within = t.can.there seat low some (λ e. apart (sym e)) in
        let room = t.beside (roll_in seat move.before) in
        omega (arith, long, less, within, room));
  }

  module _ (turned : FirstLists) (back : HasFollowed t.can.seat_of move.after move.before move.first now turned) where
    pub firsts-back : (list : ℕ) → firsts_in list turned ≡ firsts_in list was
    firsts-back list = by (cases_eq list NOWHERE)
      where
        s : ℕ
        s = t.can.seat_of list

        low : s < 11
        low = t.can.few list

        by : (list ≡ NOWHERE) ⊎ (list ≢ NOWHERE) → firsts_in list turned ≡ firsts_in list was
        by (inl none) =
            ap (λ (n : ℕ). firsts_in n turned) none ∙ back.nowhere ∙ (t.moved.firsts t.can.seat_of t.can.before t.can.after).nowhere
            ∙ sym (ap (λ (n : ℕ). firsts_in n was) none)
        by (inr some) = each (cases_eq (roll_in s move.before) list) (cases_eq (roll_in s move.after) list)
          where
            turned_is : (x y : Option ℕ) → stood s list move.before ≡ x → stood s list move.after ≡ y
                → firsts_in list turned ≡ reseated move.first y x (reseated move.first x y (firsts_in list was))
            turned_is x y e d =
                back.lists list some low ∙ ap₂ (λ (a b : Option ℕ). reseated move.first a b (firsts_in list now)) d e
                ∙ ap (reseated move.first y x) (at list some x y e d)

            each : (roll_in s move.before ≡ list) ⊎ (roll_in s move.before ≢ list) → (roll_in s move.after ≡ list) ⊎ (roll_in s move.after ≢ list)
                → firsts_in list turned ≡ firsts_in list was
            each (inl e) (inl d) =
                turned_is (Some (place_in s move.before)) (Some (place_in s move.after)) (stood-in s list move.before e) (stood-in s list move.after d)
            each (inr out) (inr gone) = turned_is None None (stood-out s list move.before out) (stood-out s list move.after gone)
            each (inl e) (inr gone) =
                let real : roll_in s move.before ≢ NOWHERE = λ none. some (sym e ∙ none) in
                let apart : roll_in s move.before ≢ roll_in s move.after = λ same. gone (sym same ∙ e) in
                let within = t.can.there s low real apart in
                let long = ap (λ (n : ℕ). length (firsts_in n was)) e in
                let own : first_at (place_in s move.before) (firsts_in list was) ≡ move.first =
                ap (λ (n : ℕ). first_at (place_in s move.before) (firsts_in n was)) (sym e) ∙ t.can.own s low real apart in
                turned_is (Some (place_in s move.before)) None (stood-in s list move.before e) (stood-out s list move.after gone)
                ∙ ap (λ (n : ℕ). back_at (place_in s move.before) n (left (place_in s move.before) (firsts_in list was))) (sym own)
                ∙ back-left (place_in s move.before) (firsts_in list was) (omega (arith, within, long))
            each (inr out) (inl d) =
                let real : roll_in s move.after ≢ NOWHERE = λ none. some (sym d ∙ none) in
                let apart : roll_in s move.before ≢ roll_in s move.after = λ same. out (same ∙ d) in
                turned_is None (Some (place_in s move.after)) (stood-out s list move.before out) (stood-in s list move.after d)
                ∙ left-back (place_in s move.after) move.first (firsts_in list was)
                (t.can.place s low real apart ∙ ap (λ (n : ℕ). length (firsts_in n was)) d)

  module _ (turned : FirstLists) (same : (list : ℕ) → firsts_in list turned ≡ firsts_in list was) where
    blocks-same : (number : ℕ) (level : Level) → blocks_at (length (firsts_in number was)) level ≡ blocks_at (length (firsts_in number turned)) level
    blocks-same number level = ap (λ (ns : List ℕ). blocks_at (length ns) level) (sym (same number))

    pub can-regain : CanRegainAll move.table turned move.before t.between new
    can-regain = record {
      seat_of = t.can.seat_of;
      own = t.can.before;
      lost = t.lost;
      counts = λ seat low real level.
          t.extended.others (list_in move.table (roll_in seat move.before)) (apart seat low real) level
          ∙ t.can.parts (roll_in seat move.before) level ∙ blocks-same (roll_in seat move.before) level;
      room = t.room;
    }
      where
        apart : (seat : ℕ) → seat < 11 → roll_in seat move.before ≢ NOWHERE → (other : ℕ) → other < 11 → Comes move.before move.after other
            → list_in move.table (roll_in seat move.before) ≢ list_in move.table (roll_in other move.after)
        apart seat low real other less comes = list-apart move.table (roll_in seat move.before) (roll_in other move.after) ne
          where
            ne : roll_in seat move.before ≢ roll_in other move.after
            ne e =
                let one : seat ≡ other = sym (t.can.before seat low real) ∙ ap t.can.seat_of e ∙ t.can.after other less comes.real in
                comes.new (ap (λ s. roll_in s move.before) (sym one) ∙ e)

    pub turned-still : (mid after : Parted) → AreSameSlots t.between mid → AreCut move.table turned move.after 11 mid after → KeepsParts after mid
        → IsStill was turned old after
    turned-still mid after slots cut kept = record {
      firsts = same;
      parts = cut-same move.table turned move.before move.after t.can.seat_of t.can.after 11 (omega arith) old mid after
          (λ number level. t.can.parts number level ∙ blocks-same number level) extended cut
          (λ part slot is. ap (λ xs. slice_get xs part.index) (slots (key_of part.list part.level)) ∙ t.kept part slot is) kept;
    }
      where
        count : (list : ℕ) (level : Level) → count_of list level mid ≡ count_of list level t.between
        count list level = ap length (slots (key_of list level))

        extended : AreExtended move.table turned move.before move.after 11 old mid
        extended = record {
          own = λ seat low comes.
              subst (λ (ns : List ℕ). IsGrown (list_in move.table (roll_in seat move.after)) (length ns + 1) old mid) (sym (same (roll_in seat move.after)))
              (λ level. count (list_in move.table (roll_in seat move.after)) level ∙ t.extended.own seat low comes level);
          others = λ list apart level. count list level ∙ t.extended.others list apart level;
        }
