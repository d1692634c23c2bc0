-- What adds up the member in a row is marked, by the seat in which the row stands.
use Rattle.std.proofs.Common.{◌≡◌, ℕ, ◌<◌, ◌≤◌, List, [], length, Some, slice_get, sym, ap, subst, ◌∙◌, arith}
use Rattle.std.specs.Option.{option_map_or}
use Rattle.std.proofs.lemmas.List.{length-map}
use Rattle.std.proofs.lemmas.Option.{same_Some, slice_get_within}
use Rattle.scr_sum_tree.specs.Readers.{IsReader, reader_of_member}
use Rattle.scr_sum_tree.specs.declared.readers.Reader.{Reader}
use Rattle.scr_sum_tree.proofs.Read.{member-reader}
use Rattle.scr_member_index.specs.Lists.{first_of, firsts_at}
use Rattle.scr_member_index.specs.declared.lists.Lists.{Lists}
use Rattle.scr_ids.specs.Ranges.{Numbered}
use Rattle.scr_sum_slots.specs.Firsts.{firsts_in}
use Rattle.scr_member_lists.specs.Seatings.{AreSeated, NOWHERE, names_of, place_in, roll_in as roll_at}
use Rattle.scr_sheet.specs.Members.{table_of}
use Rattle.scr_sheet.specs.Validity.{Valid}
use Rattle.scr_sheet.specs.declared.roll.Roll.{Roll}
use Rattle.scr_book.specs.Places.{names_in}
use Rattle.scr_book.specs.RolledSheets.{RolledSheet}
use Rattle.scr_book.specs.Rolls.{listed, number_of_roll, seat_of_roll, seated_in}
use Rattle.scr_book.proofs.RollSettled.{own-table}
use Rattle.scr_book.proofs.RollSteps.{seated-in}
use Rattle.scr_block_graph.specs.Books.{rolled_of}
use Rattle.scr_block_graph.specs.Graph.{roll_in}
use Rattle.scr_block_graph.specs.Sums.{roll_of}
use Rattle.scr_block_graph.specs.declared.sum.Sum.{Sum}
use Rattle.scr_tree.specs.Marking.{AreMarkedMore, AreRowMarked, IsMemberAt, IsMemberReaderAt, IsReaderAt}
use Rattle.scr_tree.specs.Points.{AreNumbersOf}
use Rattle.scr_tree.specs.Reading.{seats_at}
use Rattle.scr_tree.proofs.MemberSeats.{SeatTells, seat-tells}
use Rattle.scr_tree.proofs.SumReaders.{member-marked}

module _ (book : RolledSheet) (places : Numbered) (lists : Lists) (numbers : AreNumbersOf book places lists) (valid : Valid book.sheet)
    (sum : Sum) (row seat : ℕ) (own : seat ≡ seat_of_roll (roll_of sum)) (stands : IsMemberAt book sum row) where
  abbrev roll : Roll
  roll = roll_of sum

  tells : SeatTells book numbers.rolls roll row stands.0
  tells = seat-tells book numbers.rolls valid roll row stands.0 stands.1 stands.2

  numbered : number_of_roll roll book.rolls ≡ Some (roll_at seat (seats_at (table_of roll) row book.rolls))
  numbered = tells.numbered ∙ ap (λ s. Some (roll_at s (seats_at (table_of roll) row book.rolls))) (sym own)

  placed : slice_get (roll_in (rolled_of book) sum) (place_in seat (seats_at (table_of roll) row book.rolls)) ≡ Some stands.0
  placed = ap (λ s. slice_get (roll_in (rolled_of book) sum) (place_in s (seats_at (table_of roll) row book.rolls))) own ∙ tells.placed

  -- the row stands in the list
  pub somewhere : roll_at seat (seats_at (table_of roll) row book.rolls) ≡ NOWHERE → ⊥
  somewhere nowhere =
      let are : AreSeated (names_in (table_of roll) book.sheet) (seated_in (table_of roll) book.rolls) =
      seated-in (table_of roll) book.sheet book.rolls (own-table roll) (numbers.rolls.seated (table_of roll)) in
      let most : length (listed roll book.rolls) ≤ NOWHERE = are.few in
      let few : roll_at seat (seats_at (table_of roll) row book.rolls) < length (listed roll book.rolls) =
      subst (λ s. roll_at s (seats_at (table_of roll) row book.rolls) < length (listed roll book.rolls)) (sym own) tells.few in
      omega (arith, most, few, nowhere)

  -- beside the list stand as many first numbers as it has members
  pub counted : (number : ℕ) → number ≡ roll_at seat (seats_at (table_of roll) row book.rolls)
      → length (firsts_in number (firsts_at (table_of roll) lists)) ≡ length (roll_in (rolled_of book) sum)
  counted number is =
      ap length (numbers.lists_of.firsts (table_of roll) (own-table roll) number)
      ∙ length-map (names_of number (listed roll book.rolls)) (first_of book.sheet places (table_of roll))
      ∙ ap (λ n. length (names_of n (listed roll book.rolls))) is
      ∙ sym (ap (λ found. length (option_map_or (λ n. names_of n (listed roll book.rolls)) found [])) numbered)

  module _ (reader : Reader) (count place : ℕ) (is : reader ≡ reader_of_member count place) (long : count ≡ length (roll_in (rolled_of book) sum))
      (at : place ≡ place_in seat (seats_at (table_of roll) row book.rolls)) where
    reader-is : reader ≡ reader_of_member (length (roll_in (rolled_of book) sum)) (place_in seat (seats_at (table_of roll) row book.rolls))
    reader-is = is ∙ ap (λ n. reader_of_member n place) long ∙ ap (reader_of_member (length (roll_in (rolled_of book) sum))) at

    pub is-reader : IsReader (length (roll_in (rolled_of book) sum)) reader
    is-reader =
        subst (IsReader (length (roll_in (rolled_of book) sum))) (sym reader-is)
        (member-reader (length (roll_in (rolled_of book) sum)) (place_in seat (seats_at (table_of roll) row book.rolls))
        (slice_get_within (roll_in (rolled_of book) sum) (place_in seat (seats_at (table_of roll) row book.rolls)) stands.0 placed))

    pub row-marked : (old new : List ℕ) → AreMarkedMore (IsReaderAt book places lists sum reader) old new → AreRowMarked book places lists sum row old new
    row-marked old new marked = λ name named.
        subst (λ (x : List ℕ). AreMarkedMore (IsMemberReaderAt book places lists sum x) old new)
        (same_Some stands.0 name (sym stands.1 ∙ named))
        (member-marked book places lists numbers sum stands.0 (place_in seat (seats_at (table_of roll) row book.rolls)) placed old new
        (subst (λ r. AreMarkedMore (IsReaderAt book places lists sum r) old new) reader-is marked))
