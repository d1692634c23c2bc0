use Rattle.std.proofs.Common.{◌≡◌, false, sym, ap, ◌∙◌}
use Rattle.scr_nodes.specs.Live.{is_live}
use Rattle.scr_sheet.specs.declared.sheet.BalanceSheet.{BalanceSheet}
use Rattle.scr_block_graph.specs.Graph.{reads}
use Rattle.scr_tree.proofs.SumReaders.{unread}
use Rattle.scr_tree.proofs.graph.Graph.mark_reader.Goals as goal

pub returns-then-not-is_live-clause-marked : goal.returns-then-not-is_live-clause-marked
returns-then-not-is_live-clause-marked c =
    let numbers = c.args.self.now.numbers in
    let none : reads numbers.book.now.sheet c.args.sum.now ≡ false =
    sym (c.is_live.ensures ∙ ap (λ (s : BalanceSheet). is_live s c.reader.result) c.sheet.ensures.sheet ∙ ap (is_live numbers.book.now.sheet) c.reader.ensures)
    ∙ c.if-not-is_live.true in
    unread numbers.book.now numbers.places.now numbers.lists.now c.requires.numbers c.args.sum.now c.args.reader c.args.marks.now.list none

pub mark_read-requires-clause-reads : goal.mark_read-requires-clause-reads
mark_read-requires-clause-reads c =
    sym (c.is_live.ensures ∙ ap (λ (s : BalanceSheet). is_live s c.reader.result) c.sheet.ensures.sheet
    ∙ ap (is_live c.args.self.now.numbers.book.now.sheet) c.reader.ensures)
    ∙ c.if-not-is_live.false
