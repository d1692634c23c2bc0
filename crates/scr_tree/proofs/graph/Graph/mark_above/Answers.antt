use Rattle.std.proofs.Common.{◌≡◌, true, length, sym, ap, subst, ◌∙◌}
use Rattle.std.proofs.lemmas.Bool.{and_parts}
use Rattle.std.proofs.lemmas.List.{length-map}
use Rattle.scr_sum_tree.specs.Blocks.{is_block}
use Rattle.scr_sum_tree.specs.Readers.{IsReader, reader_of_block}
use Rattle.scr_sum_tree.proofs.Read.{block-reader}
use Rattle.scr_book.specs.Rolls.{roll_of}
use Rattle.scr_member_index.specs.Lists.{first_of, members_of}
use Rattle.scr_member_index.proofs.Members.{members-own}
use Rattle.scr_sheet.specs.Members.{table_of}
use Rattle.scr_block_graph.specs.Books.{rolled_of}
use Rattle.scr_block_graph.specs.Graph.{is_live_in, reads, roll_in}
use Rattle.scr_block_graph.specs.Sums.{roll_of as sum_roll}
use Rattle.scr_block_graph.specs.declared.point.Point.TheVariants as points
use Rattle.scr_tree.specs.Marking.{AreMarkedMore, IsReaderAt}
use Rattle.scr_tree.specs.Points.{StandsIn}
use Rattle.scr_tree.proofs.MarkedMore.{ok-then}
use Rattle.scr_tree.proofs.SumReaders.{above-marked}
use Rattle.scr_tree.proofs.graph.Graph.mark_above.Goals as goal

pub mark_read-requires-clause-reader : goal.mark_read-requires-clause-reader
mark_read-requires-clause-reader c =
    let numbers = c.args.self.now.numbers in
    let block = c.in-Some.block in
    let from : StandsIn numbers.book.now numbers.places.now numbers.lists.now (points.Block block) c.args.number = c.in-Some.ensures.there in
    let live : is_live_in (rolled_of numbers.book.now) (points.Block block) ≡ true =
    subst (λ p. is_live_in (rolled_of numbers.book.now) p ≡ true)
    (c.requires.numbers.numbers.exact c.args.number (points.Block c.requires.at.0) (points.Block block) c.requires.at.1 from) c.requires.at.2 in
    let long : length c.members-count.result.now ≡ length (roll_in (rolled_of numbers.book.now) block.sum) =
    ap length (c.members-count.ensures ∙ ap (λ r. members_of r numbers.book.now.rolls numbers.lists.now) c.roll.ensures
    ∙ members-own numbers.book.now numbers.places.now numbers.lists.now c.requires.numbers.lists_of (sum_roll block.sum))
    ∙ length-map (roll_of (sum_roll block.sum) numbers.book.now.rolls) (first_of numbers.book.now.sheet numbers.places.now (table_of (sum_roll block.sum))) in
    let reader : c.reader_of_block-reader.result ≡ reader_of_block (length (roll_in (rolled_of numbers.book.now) block.sum)) block.level block.index =
    c.reader_of_block-reader.ensures ∙ ap (λ n. reader_of_block n block.level block.index) long in
    subst (IsReader (length (roll_in (rolled_of numbers.book.now) block.sum))) (sym reader)
    (block-reader (length (roll_in (rolled_of numbers.book.now) block.sum)) block.level block.index
    (and_parts (reads numbers.book.now.sheet block.sum) (is_block (length (roll_in (rolled_of numbers.book.now) block.sum)) block.level block.index) live).1)

pub mark_read-requires-clause-reads : goal.mark_read-requires-clause-reads
mark_read-requires-clause-reads c =
    let numbers = c.args.self.now.numbers in
    let block = c.in-Some.block in
    let from : StandsIn numbers.book.now numbers.places.now numbers.lists.now (points.Block block) c.args.number = c.in-Some.ensures.there in
    let live : is_live_in (rolled_of numbers.book.now) (points.Block block) ≡ true =
    subst (λ p. is_live_in (rolled_of numbers.book.now) p ≡ true)
    (c.requires.numbers.numbers.exact c.args.number (points.Block c.requires.at.0) (points.Block block) c.requires.at.1 from) c.requires.at.2 in
    (and_parts (reads numbers.book.now.sheet block.sum) (is_block (length (roll_in (rolled_of numbers.book.now) block.sum)) block.level block.index) live).0

pub returns-clause-marked : goal.returns-clause-marked
returns-clause-marked c =
    let numbers = c.args.self.now.numbers in
    let block = c.in-Some.block in
    let from : StandsIn numbers.book.now numbers.places.now numbers.lists.now (points.Block block) c.args.number = c.in-Some.ensures.there in
    let live : is_live_in (rolled_of numbers.book.now) (points.Block block) ≡ true =
    subst (λ p. is_live_in (rolled_of numbers.book.now) p ≡ true)
    (c.requires.numbers.numbers.exact c.args.number (points.Block c.requires.at.0) (points.Block block) c.requires.at.1 from) c.requires.at.2 in
    let long : length c.members-count.result.now ≡ length (roll_in (rolled_of numbers.book.now) block.sum) =
    ap length (c.members-count.ensures ∙ ap (λ r. members_of r numbers.book.now.rolls numbers.lists.now) c.roll.ensures
    ∙ members-own numbers.book.now numbers.places.now numbers.lists.now c.requires.numbers.lists_of (sum_roll block.sum))
    ∙ length-map (roll_of (sum_roll block.sum) numbers.book.now.rolls) (first_of numbers.book.now.sheet numbers.places.now (table_of (sum_roll block.sum))) in
    let reader : c.reader_of_block-reader.result ≡ reader_of_block (length (roll_in (rolled_of numbers.book.now) block.sum)) block.level block.index =
    c.reader_of_block-reader.ensures ∙ ap (λ n. reader_of_block n block.level block.index) long in
    ok-then c.mark_read.result c.mark_read.ensures.marked (λ m.
    above-marked numbers.book.now numbers.places.now numbers.lists.now c.requires.numbers block c.args.number from live c.args.marks.now.list c.mark_read.new.marks.list
    (subst (λ r. AreMarkedMore (IsReaderAt numbers.book.now numbers.places.now numbers.lists.now block.sum r) c.args.marks.now.list c.mark_read.new.marks.list) reader m))
