-- What stands beside the lists follows a row.
use Rattle.std.proofs.Common.{◌≡◌, ◌≢◌, ◌⊎◌, inl, inr, ℕ, ◌+◌, ◌-◌, ◌<◌, ◌≤◌, slice_set, Bool, true, false, cond, ltb, eqb, List, length, max, min, Option, Some, None, refl, sym, ap, ap₂, subst, ◌∙◌, arith}
use Rattle.std.specs.Prelude.{if◌then◌else◌}
use Rattle.std.proofs.lemmas.Bool.{cases_eq}
use Rattle.std.proofs.lemmas.Bool.Decides.{Decides-eqb, nat_tests}
use Rattle.std.proofs.lemmas.List.{length-set, length-take, length_push}
use Rattle.scr_sum_tree.specs.Blocks.{blocks_at, blocks_over, parts}
use Rattle.scr_sum_tree.specs.declared.blocks.Level.{Level}
use Rattle.scr_sum_tree.specs.declared.blocks.Level.TheVariants as levels
use Rattle.scr_member_lists.specs.Seatings.{NOWHERE, place_in, roll_in, stood}
use Rattle.scr_member_lists.specs.declared.seats.Seats.{Seats}
use Rattle.scr_sum_slots.specs.Firsts.{FirstLists, back_at, first_at, firsts_in, joined, left, room_beside}
use Rattle.scr_sum_slots.specs.Following.{CanReseat, HasFollowed, KeepsRoomBeside, reseated}
use Rattle.scr_sum_slots.specs.Parts.{Parted, count_of}
use Rattle.scr_member_index.specs.Lists.{list_in}
use Rattle.scr_member_index.specs.Following.{CanMove}
use Rattle.scr_member_index.specs.Parting.{AreCut, AreExtended, Comes, HavePartsAt, IsGrown}
use Rattle.scr_member_index.specs.declared.standing.Move.{Move}
use Rattle.scr_member_index.proofs.Counting.{list-apart}

-- ---- more members have no fewer Blocks

over-more : (few many : ℕ) → few ≤ many → blocks_over few ≤ blocks_over many
over-more few many le = by (ltb 32 few) refl (ltb 32 many) refl
  where
    by : (s : Bool) → ltb 32 few ≡ s → (t : Bool) → ltb 32 many ≡ t → blocks_over few ≤ blocks_over many
    by true e true d = omega (arith, le, ap (λ t. cond t (parts few) 0) e, ap (λ t. cond t (parts many) 0) d)
    by false e t d = omega (arith, ap (λ t. cond t (parts few) 0) e)
    by true e false d =
        let one : 32 < few = grind (arith, nat_tests, e) in
        let two : many ≤ 32 = grind (arith, nat_tests, d) in
        absurd (omega (arith, one, two, le))

pub blocks-more : (few many : ℕ) → few ≤ many → (level : Level) → blocks_at few level ≤ blocks_at many level
blocks-more few many le levels.First = over-more few many le
blocks-more few many le levels.Second = over-more (parts few) (parts many) (omega (arith, le))

-- ---- lengths

pub left-length : (place : ℕ) (firsts : List ℕ) → length (left place firsts) ≡ length firsts - 1
left-length place firsts =
    let taken = length-take (length firsts - 1) (slice_set firsts place (first_at (length firsts - 1) firsts)) in
    let same = length-set firsts place (first_at (length firsts - 1) firsts) in
    omega (arith, taken, same)

pub back-length : (place first : ℕ) (firsts : List ℕ) → length (back_at place first firsts) ≡ length firsts + 1
back-length place first firsts = by (eqb place (length firsts)) refl
  where
    by : (t : Bool) → eqb place (length firsts) ≡ t → length (back_at place first firsts) ≡ length firsts + 1
    by true e = ap (λ t. length (cond t (joined first firsts) (joined (first_at place firsts) (slice_set firsts place first)))) e ∙ length_push firsts first
    by false e =
        ap (λ t. length (cond t (joined first firsts) (joined (first_at place firsts) (slice_set firsts place first)))) e
        ∙ length_push (slice_set firsts place first) (first_at place firsts) ∙ ap (λ n. n + 1) (length-set firsts place first)

-- ---- where a row stands

pub stood-in : (seat list : ℕ) (seats : Seats) → roll_in seat seats ≡ list → stood seat list seats ≡ Some (place_in seat seats)
stood-in seat list seats e = ap (λ t. if t then Some (place_in seat seats) else None) ((Decides-eqb (roll_in seat seats) list).1 e)

pub stood-out : (seat list : ℕ) (seats : Seats) → roll_in seat seats ≢ list → stood seat list seats ≡ None
stood-out seat list seats ne = by (eqb (roll_in seat seats) list) refl
  where
    by : (t : Bool) → eqb (roll_in seat seats) list ≡ t → stood seat list seats ≡ None
    by true e = absurd (ne ((Decides-eqb (roll_in seat seats) list).0 e))
    by false e = ap (λ t. if t then Some (place_in seat seats) else None) e

-- ---- the row can move

module _ (move : Move) (was : FirstLists) (old : Parted) (can : CanMove move was old) (ready : FirstLists) (still : (list : ℕ) → firsts_in list ready ≡ firsts_in list was) where
  pub can-reseat : ((seat : ℕ) → seat < 11 → roll_in seat move.after ≢ NOWHERE → 0 < room_beside (roll_in seat move.after) ready)
      → (seat : ℕ) → seat < 11 → CanReseat move.before move.after seat ready
  can-reseat room seat low = record {
    there = λ some apart. (let at = can.there seat low some apart in let same = ap length (still (roll_in seat move.before)) in omega (arith, at, same));
    place = λ some apart. (let at = can.place seat low some apart in let same = ap length (still (roll_in seat move.after)) in omega (arith, at, same));
    room = λ some apart. room seat low some;
  }

  pub parts-ready : HavePartsAt move.table ready old
  parts-ready number level = can.parts number level ∙ ap (λ ns. blocks_at (length ns) level) (sym (still number))

  pub extended-was : (mid : Parted) → AreExtended move.table ready move.before move.after 11 old mid → AreExtended move.table was move.before move.after 11 old mid
  extended-was mid extended = record {
    own = λ seat low comes.
        subst (λ (ns : List ℕ). IsGrown (list_in move.table (roll_in seat move.after)) (length ns + 1) old mid) (still (roll_in seat move.after)) (extended.own seat low comes);
    others = extended.others;
  }

  pub beside-was : ((list : ℕ) → room_beside list was ≤ room_beside list ready) → (now : FirstLists) → KeepsRoomBeside ready now → KeepsRoomBeside was now
  beside-was more now kept list = let one = more list in let two = kept list in let same = ap length (still list) in omega (arith, one, two, same)

  -- ---- the row has moved

  pub followed-was : (seat_of : ℕ → ℕ) (now : FirstLists) → HasFollowed seat_of move.before move.after move.first ready now
      → HasFollowed seat_of move.before move.after move.first was now
  followed-was seat_of now followed = record {
    lists = λ list some few.
        followed.lists list some few ∙ ap (reseated move.first (stood (seat_of list) list move.before) (stood (seat_of list) list move.after)) (still list);
    nowhere = followed.nowhere ∙ still NOWHERE;
  }

  module _ (now : FirstLists) (followed : HasFollowed can.seat_of move.before move.after move.first ready now)
      (mid new : Parted) (extended : AreExtended move.table ready move.before move.after 11 old mid) (cut : AreCut move.table now move.before 11 mid new) where
    pub parts-moved : HavePartsAt move.table now new
    parts-moved number level = at_all (cases_eq number NOWHERE)
      where
        list : ℕ
        list = list_in move.table number

        s : ℕ
        s = can.seat_of number

        before_apart : (number ≡ NOWHERE) ⊎ (roll_in s move.before ≢ number) → (seat : ℕ) → seat < 11 → roll_in seat move.before ≢ NOWHERE
            → list ≢ list_in move.table (roll_in seat move.before)
        before_apart out seat low some = list-apart move.table number (roll_in seat move.before) (ne out)
          where
            ne : (number ≡ NOWHERE) ⊎ (roll_in s move.before ≢ number) → number ≢ roll_in seat move.before
            ne (inl none) e = some (sym e ∙ none)
            ne (inr out) e = out (ap (λ t. roll_in t move.before) (ap can.seat_of e ∙ can.before seat low some) ∙ sym e)

        after_apart : (number ≡ NOWHERE) ⊎ (roll_in s move.after ≢ number) ⊎ (roll_in s move.before ≡ number) → (seat : ℕ) → seat < 11 → Comes move.before move.after seat
            → list ≢ list_in move.table (roll_in seat move.after)
        after_apart out seat low comes = list-apart move.table number (roll_in seat move.after) (ne out)
          where
            at : number ≡ roll_in seat move.after → s ≡ seat
            at e = ap can.seat_of e ∙ can.after seat low comes.real

            ne : (number ≡ NOWHERE) ⊎ (roll_in s move.after ≢ number) ⊎ (roll_in s move.before ≡ number) → number ≢ roll_in seat move.after
            ne (inl none) e = comes.real (sym e ∙ none)
            ne (inr (inl out)) e = out (ap (λ t. roll_in t move.after) (at e) ∙ sym e)
            ne (inr (inr stays)) e = comes.new (ap (λ t. roll_in t move.before) (sym (at e)) ∙ stays ∙ e)

        was_count : ◌≡◌ {A = ℕ} (count_of list level old) (blocks_at (length (firsts_in number ready)) level)
        was_count = parts-ready number level

        length_is : (n : ℕ) → length (firsts_in number now) ≡ n → blocks_at n level ≡ blocks_at (length (firsts_in number now)) level
        length_is n e = ap (λ m. blocks_at m level) (sym e)

        at_all : (number ≡ NOWHERE) ⊎ (number ≢ NOWHERE) → count_of list level new ≡ blocks_at (length (firsts_in number now)) level
        at_all (inl none) =
            cut.others list (before_apart (inl none)) level ∙ extended.others list (after_apart (inl none)) level ∙ was_count
            ∙ ap (λ ns. blocks_at (length ns) level) (ap (λ n. firsts_in n ready) none ∙ sym followed.nowhere ∙ sym (ap (λ n. firsts_in n now) none))
        at_all (inr some) = by (cases_eq (roll_in s move.before) number) (cases_eq (roll_in s move.after) number)
          where
            numbers : (x y : Option ℕ) → stood s number move.before ≡ x → stood s number move.after ≡ y
                → firsts_in number now ≡ reseated move.first x y (firsts_in number ready)
            numbers x y e d =
                followed.lists number some (can.few number) ∙ ap₂ (λ (a b : Option ℕ). reseated move.first a b (firsts_in number ready)) e d

            cut_here : roll_in s move.before ≡ number → count_of list level new ≡ min (count_of list level mid) (blocks_at (length (firsts_in number now)) level)
            cut_here e =
                subst (λ (n : ℕ). count_of (list_in move.table n) level new ≡ min (count_of (list_in move.table n) level mid) (blocks_at (length (firsts_in n now)) level)) e
                (cut.own s (can.few number) (λ none. some (sym e ∙ none)) level)

            by : (roll_in s move.before ≡ number) ⊎ (roll_in s move.before ≢ number) → (roll_in s move.after ≡ number) ⊎ (roll_in s move.after ≢ number)
                → count_of list level new ≡ blocks_at (length (firsts_in number now)) level
            by (inl e) (inl d) =
                let same : length (firsts_in number now) ≡ length (firsts_in number ready) =
                ap length (numbers (Some (place_in s move.before)) (Some (place_in s move.after)) (stood-in s number move.before e) (stood-in s number move.after d)) in
                let blocks = ap (λ n. blocks_at n level) same in
                let is = cut_here e in
                let mid_is = extended.others list (after_apart (inr (inr e))) level in
                omega (arith, blocks, is, mid_is, was_count)
            by (inl e) (inr out) =
                let less : length (firsts_in number now) ≡ length (firsts_in number ready) - 1 =
                ap length (numbers (Some (place_in s move.before)) None (stood-in s number move.before e) (stood-out s number move.after out))
                ∙ left-length (place_in s move.before) (firsts_in number ready) in
                let fewer = blocks-more (length (firsts_in number now)) (length (firsts_in number ready)) (omega (arith, less)) level in
                let is = cut_here e in
                let mid_is = extended.others list (after_apart (inr (inl out))) level in
                omega (arith, fewer, is, mid_is, was_count)
            by (inr out) (inl d) =
                let more : length (firsts_in number now) ≡ length (firsts_in number ready) + 1 =
                ap length (numbers None (Some (place_in s move.after)) (stood-out s number move.before out) (stood-in s number move.after d))
                ∙ back-length (place_in s move.after) move.first (firsts_in number ready) in
                let no_fewer = blocks-more (length (firsts_in number ready)) (length (firsts_in number ready) + 1) (omega arith) level in
                let blocks = ap (λ n. blocks_at n level) more in
                let is = cut.others list (before_apart (inr out)) level in
                let grown =
                subst (λ (n : ℕ). count_of (list_in move.table n) level mid ≡ max (count_of (list_in move.table n) level old) (blocks_at (length (firsts_in n ready) + 1) level)) d
                (extended.own s (can.few number) (record { real = λ none. some (sym d ∙ none); new = λ same. out (same ∙ d) }) level) in
                omega (arith, no_fewer, blocks, is, grown, was_count)
            by (inr out) (inr gone) =
                let same : length (firsts_in number now) ≡ length (firsts_in number ready) =
                ap length (numbers None None (stood-out s number move.before out) (stood-out s number move.after gone)) in
                let blocks = ap (λ n. blocks_at n level) same in
                let is = cut.others list (before_apart (inr out)) level in
                let mid_is = extended.others list (after_apart (inr (inl gone))) level in
                omega (arith, blocks, is, mid_is, was_count)

    pub others-moved : (list : ℕ) → ((number : ℕ) → list ≢ list_in move.table number) → (level : Level) → count_of list level new ≡ count_of list level old
    others-moved list apart level =
        cut.others list (λ seat low some. apart (roll_in seat move.before)) level ∙ extended.others list (λ seat low comes. apart (roll_in seat move.after)) level
