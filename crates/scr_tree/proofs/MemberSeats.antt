-- Which rows are members of the list of a sum, and where its seats say that a member stands.
use Rattle.std.proofs.Common.{◌≡◌, ℕ, ◌<◌, true, Contains, List, [], length, Option, Some, None, slice_get, refl, sym, ap, subst, ◌∙◌}
use Rattle.std.specs.Option.{option_map_or}
use Rattle.std.proofs.lemmas.Option.{get_or_from_slice_get, slice_get-get_or, slice_get_within}
use Rattle.scr_funds.proofs.Members.{Contains-from_IsMember, IsMember-from_Contains}
use Rattle.scr_member_lists.specs.Members.{name_at}
use Rattle.scr_member_lists.specs.Seatings.{AreSeated, Seated, names_of, place_in, roll_in as roll_at, seat_at, seat_of, seats_of}
use Rattle.scr_sheet.specs.Members.{is_member, table_of}
use Rattle.scr_sheet.specs.Validity.{Valid}
use Rattle.scr_sheet.specs.declared.roll.Roll.{Roll}
use Rattle.scr_book.specs.Places.{names_in}
use Rattle.scr_book.specs.RolledSheets.{RolledSheet}
use Rattle.scr_book.specs.Rolls.{AreRollsOf, listed, number_of_roll, roll_of, seat_of_roll, seated_in}
use Rattle.scr_book.proofs.RollLaws.{own-before}
use Rattle.scr_book.proofs.RollSettled.{own-table}
use Rattle.scr_book.proofs.RollSteps.{seated-in}
use Rattle.scr_book.proofs.RollsStill.{once-in}
use Rattle.scr_block_graph.specs.Books.{rolled_of}
use Rattle.scr_block_graph.specs.Graph.{roll_in}
use Rattle.scr_block_graph.specs.Sums.{roll_of as sum_roll}
use Rattle.scr_block_graph.specs.declared.sum.Sum.{Sum}
use Rattle.scr_block_graph.proofs.Lives.{is-named, named}
use Rattle.scr_tree.specs.Reading.{seats_at}

module _ (book : RolledSheet) (rolls : AreRollsOf book.sheet book.rolls) where
  -- ---- members

  pub member-is : (sum : Sum) (name : List ℕ) → Contains (roll_in (rolled_of book) sum) name → is_member (sum_roll sum) name book.sheet ≡ true
  member-is sum name h =
      sym (rolls.members (sum_roll sum) name)
      ∙ is-named name (roll_in (rolled_of book) sum) (IsMember-from_Contains (roll_in (rolled_of book) sum) name h)

  pub is-member : (sum : Sum) (name : List ℕ) → is_member (sum_roll sum) name book.sheet ≡ true → Contains (roll_in (rolled_of book) sum) name
  is-member sum name e =
      Contains-from_IsMember (roll_in (rolled_of book) sum) name
      (named name (roll_in (rolled_of book) sum) (rolls.members (sum_roll sum) name ∙ e))

  -- ---- seats

  -- the list has the number that the seat of a row says, and the row's name at the place that it says
  pub record SeatTells (roll : Roll) (row : ℕ) (name : List ℕ) : Type 0 where
    pub numbered : number_of_roll roll book.rolls ≡ Some (roll_at (seat_of_roll roll) (seats_at (table_of roll) row book.rolls))
    pub few : roll_at (seat_of_roll roll) (seats_at (table_of roll) row book.rolls) < length (listed roll book.rolls)
    pub placed : slice_get (roll_of roll book.rolls) (place_in (seat_of_roll roll) (seats_at (table_of roll) row book.rolls)) ≡ Some name

  module _ (valid : Valid book.sheet) (roll : Roll) (row : ℕ) (name : List ℕ)
      (at : slice_get (names_in (table_of roll) book.sheet) row ≡ Some name) where
    abbrev names : List (List ℕ)
    names = names_in (table_of roll) book.sheet

    abbrev seated : Seated
    seated = seated_in (table_of roll) book.rolls

    are : AreSeated names seated
    are = seated-in (table_of roll) book.sheet book.rolls (own-table roll) (rolls.seated (table_of roll))

    own : seats_of names seated.seats name ≡ seat_at row seated.seats
    own = own-before names seated are (once-in (table_of roll) book.sheet valid (own-table roll)) row (slice_get_within names row name at) name
        (get_or_from_slice_get names row name [] at)

    abbrev in_list : Option ℕ → List (List ℕ)
    in_list found = option_map_or (λ n. names_of n (listed roll book.rolls)) found []

    told-at : (n : ℕ) → number_of_roll roll book.rolls ≡ Some n → (p : ℕ) → slice_get (names_of n seated.rolls) p ≡ Some name → SeatTells roll row name
    told-at n e p there =
        let low : p < length (names_of n seated.rolls) = slice_get_within (names_of n seated.rolls) p name there in
        let called : name_at p (names_of n seated.rolls) ≡ name = get_or_from_slice_get (names_of n seated.rolls) p name [] there in
        let seat : seat_of n seated.rolls ≡ seat_of_roll roll = (rolls.numbered.own roll n e).1 in
        let list : roll_at (seat_of_roll roll) (seat_at row seated.seats) ≡ n =
        ap (λ s. roll_at s (seat_at row seated.seats)) (sym seat) ∙ ap (roll_at (seat_of n seated.rolls)) (sym own)
        ∙ subst (λ (x : List ℕ). roll_at (seat_of n seated.rolls) (seats_of names seated.seats x) ≡ n) called (are.rolled n p low) in
        let place : place_in (seat_of_roll roll) (seat_at row seated.seats) ≡ p =
        ap (λ s. place_in s (seat_at row seated.seats)) (sym seat) ∙ ap (place_in (seat_of n seated.rolls)) (sym own)
        ∙ subst (λ (x : List ℕ). place_in (seat_of n seated.rolls) (seats_of names seated.seats x) ≡ p) called (are.placed n p low) in
        record {
          numbered = e ∙ ap Some (sym list);
          few = subst (λ m. m < length (listed roll book.rolls)) (sym list) (rolls.numbered.own roll n e).0;
          placed = subst (λ m. slice_get (roll_of roll book.rolls) m ≡ Some name) (sym place)
              (subst (λ (list : List (List ℕ)). slice_get list p ≡ Some name) (sym (ap in_list e)) there);
        }

    pub seat-tells : Contains (roll_of roll book.rolls) name → SeatTells roll row name
    seat-tells h = by (number_of_roll roll book.rolls) refl
      where
        by : (found : Option ℕ) → number_of_roll roll book.rolls ≡ found → SeatTells roll row name
        by None e = absurd (IsMember-from_Contains [] name (subst (λ (list : List (List ℕ)). Contains list name) (ap in_list e) h))
        by (Some n) e =
            let there = subst (λ (list : List (List ℕ)). Contains list name) (ap in_list e) h in
            told-at n e there.0 (slice_get-get_or (names_of n seated.rolls) there.0 name there.1 ∙ ap Some there.2)
