use Rattle.std.proofs.Common.{◌≤◌, sym, subst}
use Rattle.scr_block_graph.specs.Sums.{reader_of}
use Rattle.scr_tree.specs.Reading.{fall_of}
use Rattle.scr_tree.proofs.MarkedMore.{ok-then}
use Rattle.scr_tree.proofs.SumReaders.{figure-marked, figure-within, whole-both, whole-one}
use Rattle.scr_tree.proofs.graph.Graph.mark_whole.Goals as goal

pub mark_some-requires : goal.mark_some-requires
mark_some-requires c =
    let numbers = c.args.self.now.numbers in
    figure-within numbers.book.now numbers.places.now numbers.lists.now c.requires.numbers c.sheet-sheet.result.now c.reader.result (reader_of c.args.sum.now) c.sheet-sheet.ensures.sheet
    c.reader.ensures c.find.result c.find.ensures.there c.find.ensures.absent
    c.args.marks.now.size c.requires.room

pub mark_some-requires-2 : goal.mark_some-requires-2
mark_some-requires-2 c =
    let numbers = c.args.self.now.numbers in
    figure-within numbers.book.now numbers.places.now numbers.lists.now c.requires.numbers c.sheet-sheet.result.now c.fall.result (fall_of c.args.sum.now) c.sheet-sheet.ensures.sheet
    c.fall.ensures c.find-2.result c.find-2.ensures.there c.find-2.ensures.absent
    c.mark_some.new.marks.size (subst (λ n. numbers.places.now.size ≤ n) (sym c.in_ok-mark_some.ensures.size) c.requires.room)

pub returns-then-not-is_foreign-clause-marked : goal.returns-then-not-is_foreign-clause-marked
returns-then-not-is_foreign-clause-marked c =
    let numbers = c.args.self.now.numbers in
    whole-one numbers.book.now numbers.places.now numbers.lists.now c.requires.numbers c.args.sum.now c.requires.reads (c.is_foreign.ensures c.if-not-is_foreign.true)
    c.args.marks.now.list c.mark_some.new.marks.list
    (figure-marked numbers.book.now numbers.places.now numbers.lists.now c.requires.numbers c.sheet-sheet.result.now c.reader.result (reader_of c.args.sum.now) c.sheet-sheet.ensures.sheet
    c.reader.ensures c.find.result c.find.ensures.there c.find.ensures.absent
    c.args.marks.now.list c.mark_some.new.marks.list c.in_ok-mark_some.ensures.marked)

pub returns-clause-marked : goal.returns-clause-marked
returns-clause-marked c =
    let numbers = c.args.self.now.numbers in
    ok-then c.mark_some-2.result c.mark_some-2.ensures.marked (λ two.
    whole-both numbers.book.now numbers.places.now numbers.lists.now c.requires.numbers c.args.sum.now c.requires.reads c.args.marks.now.list c.mark_some.new.marks.list c.mark_some-2.new.marks.list
    (figure-marked numbers.book.now numbers.places.now numbers.lists.now c.requires.numbers c.sheet-sheet.result.now c.reader.result (reader_of c.args.sum.now) c.sheet-sheet.ensures.sheet
    c.reader.ensures c.find.result c.find.ensures.there c.find.ensures.absent
    c.args.marks.now.list c.mark_some.new.marks.list c.in_ok-mark_some.ensures.marked)
    (figure-marked numbers.book.now numbers.places.now numbers.lists.now c.requires.numbers c.sheet-sheet.result.now c.fall.result (fall_of c.args.sum.now) c.sheet-sheet.ensures.sheet
    c.fall.ensures c.find-2.result c.find-2.ensures.there c.find-2.ensures.absent
    c.mark_some.new.marks.list c.mark_some-2.new.marks.list two))
