use Rattle.std.proofs.Common.{◌≡◌, ◌<◌, length, sym, ap, ◌∙◌, arith}
use Rattle.scr_sheet.specs.declared.sheet.BalanceSheet.{BalanceSheet}
use Rattle.scr_tree.proofs.MarkedMore.{ok-then}
use Rattle.scr_tree.proofs.Squares.{above-marked, none-marked}
use Rattle.scr_tree.proofs.graph.Graph.mark_squares.Goals as goal

pub returns-then-count-eq0-clause-marked : goal.returns-then-count-eq0-clause-marked
returns-then-count-eq0-clause-marked c =
    let numbers = c.args.self.now.numbers in
    let count : c.len-count.result ≡ length numbers.book.now.sheet.groups = c.len-count.ensures.count ∙ ap (λ (s : BalanceSheet). length s.groups) c.sheet.ensures.sheet in
    none-marked numbers.book.now numbers.places.now numbers.lists.now c.requires.numbers c.requires.valid (sym count ∙ c.if-count-eq0.true) c.args.marks.now.list

pub returns-clause-marked : goal.returns-clause-marked
returns-clause-marked c =
    let numbers = c.args.self.now.numbers in
    let count : c.len-count.result ≡ length numbers.book.now.sheet.groups = c.len-count.ensures.count ∙ ap (λ (s : BalanceSheet). length s.groups) c.sheet.ensures.sheet in
    let some : 0 < length numbers.book.now.sheet.groups = omega (arith, c.if-count-eq0.false, count) in
    ok-then c.mark_whole.result c.mark_whole.ensures.marked
    (above-marked numbers.book.now numbers.places.now numbers.lists.now c.requires.numbers c.requires.valid some c.args.marks.now.list c.mark_whole.new.marks.list)
