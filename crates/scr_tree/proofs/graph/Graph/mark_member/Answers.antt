use Rattle.std.proofs.Common.{◌≡◌, length, sym, ap, ◌∙◌}
use Rattle.scr_member_index.specs.Lists.{firsts_at}
use Rattle.scr_sum_slots.specs.Firsts.{firsts_in}
use Rattle.scr_member_lists.specs.Seatings.{place_in, roll_in as roll_at}
use Rattle.scr_sheet.specs.Members.{table_of}
use Rattle.scr_block_graph.specs.Books.{rolled_of}
use Rattle.scr_block_graph.specs.Graph.{roll_in}
use Rattle.scr_block_graph.specs.Sums.{roll_of}
use Rattle.scr_tree.specs.Reading.{seats_at}
use Rattle.scr_tree.proofs.MarkedMore.{ok-then}
use Rattle.scr_tree.proofs.RowMarks.{counted, is-reader, row-marked, somewhere}
use Rattle.scr_tree.proofs.graph.Graph.mark_member.Goals as goal

pub returns-then-roll-clause-marked : goal.returns-then-roll-clause-marked
returns-then-roll-clause-marked c =
    let numbers = c.args.self.now.numbers in
    let table = c.table-table.ensures ∙ ap table_of c.roll.ensures in
    let seats = c.seats_at-seats.ensures ∙ ap (λ t. seats_at t c.args.row numbers.book.now.rolls) table in
    let list : c.roll-roll.result ≡ roll_at c.args.seat (seats_at (table_of (roll_of c.args.sum.now)) c.args.row numbers.book.now.rolls) =
    c.roll-roll.ensures ∙ ap (roll_at c.args.seat) seats in
    absurd (somewhere numbers.book.now numbers.places.now numbers.lists.now c.requires.numbers c.requires.valid c.args.sum.now c.args.row c.args.seat c.requires.seat c.requires.stands (sym list ∙ c.if-roll.true))

pub mark_reader-requires-clause-reader : goal.mark_reader-requires-clause-reader
mark_reader-requires-clause-reader c =
    let numbers = c.args.self.now.numbers in
    let table = c.table-table.ensures ∙ ap table_of c.roll.ensures in
    let seats = c.seats_at-seats.ensures ∙ ap (λ t. seats_at t c.args.row numbers.book.now.rolls) table in
    let list : c.roll-roll.result ≡ roll_at c.args.seat (seats_at (table_of (roll_of c.args.sum.now)) c.args.row numbers.book.now.rolls) =
    c.roll-roll.ensures ∙ ap (roll_at c.args.seat) seats in
    let long : length c.list-count.result.now ≡ length (roll_in (rolled_of numbers.book.now) c.args.sum.now) =
    ap length (c.list-count.ensures ∙ ap (firsts_in c.roll-roll.result) (c.of.ensures ∙ ap (λ t. firsts_at t numbers.lists.now) table))
    ∙ counted numbers.book.now numbers.places.now numbers.lists.now c.requires.numbers c.requires.valid c.args.sum.now c.args.row c.args.seat c.requires.seat c.requires.stands c.roll-roll.result list in
    let place : c.place.result ≡ place_in c.args.seat (seats_at (table_of (roll_of c.args.sum.now)) c.args.row numbers.book.now.rolls) =
    c.place.ensures ∙ ap (place_in c.args.seat) seats in
    is-reader numbers.book.now numbers.places.now numbers.lists.now c.requires.numbers c.requires.valid c.args.sum.now c.args.row c.args.seat c.requires.seat c.requires.stands c.reader_of_member-reader.result (length c.list-count.result.now) c.place.result c.reader_of_member-reader.ensures long place

pub returns-clause-marked : goal.returns-clause-marked
returns-clause-marked c =
    let numbers = c.args.self.now.numbers in
    let table = c.table-table.ensures ∙ ap table_of c.roll.ensures in
    let seats = c.seats_at-seats.ensures ∙ ap (λ t. seats_at t c.args.row numbers.book.now.rolls) table in
    let list : c.roll-roll.result ≡ roll_at c.args.seat (seats_at (table_of (roll_of c.args.sum.now)) c.args.row numbers.book.now.rolls) =
    c.roll-roll.ensures ∙ ap (roll_at c.args.seat) seats in
    let long : length c.list-count.result.now ≡ length (roll_in (rolled_of numbers.book.now) c.args.sum.now) =
    ap length (c.list-count.ensures ∙ ap (firsts_in c.roll-roll.result) (c.of.ensures ∙ ap (λ t. firsts_at t numbers.lists.now) table))
    ∙ counted numbers.book.now numbers.places.now numbers.lists.now c.requires.numbers c.requires.valid c.args.sum.now c.args.row c.args.seat c.requires.seat c.requires.stands c.roll-roll.result list in
    let place : c.place.result ≡ place_in c.args.seat (seats_at (table_of (roll_of c.args.sum.now)) c.args.row numbers.book.now.rolls) =
    c.place.ensures ∙ ap (place_in c.args.seat) seats in
    ok-then c.mark_reader.result c.mark_reader.ensures.marked
    (row-marked numbers.book.now numbers.places.now numbers.lists.now c.requires.numbers c.requires.valid c.args.sum.now c.args.row c.args.seat c.requires.seat c.requires.stands c.reader_of_member-reader.result (length c.list-count.result.now) c.place.result c.reader_of_member-reader.ensures long place
    c.args.marks.now.list c.mark_reader.new.marks.list)
