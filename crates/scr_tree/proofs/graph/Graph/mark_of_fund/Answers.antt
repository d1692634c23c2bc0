use Rattle.std.proofs.Common.{◌≡◌, Some, slice_get, sym, subst, ◌∙◌}
use Rattle.scr_sheet.specs.declared.sheet.BalanceSheet.{BalanceSheet}
use Rattle.scr_tree.proofs.AtNumbers.{fund-first}
use Rattle.scr_tree.proofs.MarkedMore.{ok-then}
use Rattle.scr_tree.proofs.OfRows.{fund-marked, fund-named, fund-open, of-closed}
use Rattle.scr_tree.proofs.graph.Graph.mark_of_fund.Goals as goal

pub returns-then-not-is_closed-clause-marked : goal.returns-then-not-is_closed-clause-marked
returns-then-not-is_closed-clause-marked c =
    let numbers = c.args.self.now.numbers in
    let got = subst (λ (s : BalanceSheet). slice_get s.funds c.args.place.now.row ≡ Some c.at.result.now) c.sheet.ensures.sheet c.at.ensures in
    let at = fund-first numbers.book.now numbers.places.now numbers.lists.now c.requires.numbers c.args.number c.args.place.now.row c.args.place.now.family c.requires.at in
    fund-open numbers.book.now numbers.places.now numbers.lists.now c.requires.numbers c.requires.valid c.args.place.now.row c.at.result.now got c.args.number at (sym c.is_closed.ensures ∙ c.if-not-is_closed.true) c.args.marks.now.list

pub mark_member-requires-clause-stands : goal.mark_member-requires-clause-stands
mark_member-requires-clause-stands c =
    let numbers = c.args.self.now.numbers in
    let got = subst (λ (s : BalanceSheet). slice_get s.funds c.args.place.now.row ≡ Some c.at.result.now) c.sheet.ensures.sheet c.at.ensures in
    let at = fund-first numbers.book.now numbers.places.now numbers.lists.now c.requires.numbers c.args.number c.args.place.now.row c.args.place.now.family c.requires.at in
    (c.at.result.now.fund.name, fund-named numbers.book.now numbers.places.now numbers.lists.now c.requires.numbers c.requires.valid c.args.place.now.row c.at.result.now got, of-closed numbers.book.now numbers.places.now numbers.lists.now c.requires.numbers c.requires.valid c.args.place.now.row c.at.result.now got (sym c.is_closed.ensures ∙ c.if-not-is_closed.false))

pub returns-clause-marked : goal.returns-clause-marked
returns-clause-marked c =
    let numbers = c.args.self.now.numbers in
    let got = subst (λ (s : BalanceSheet). slice_get s.funds c.args.place.now.row ≡ Some c.at.result.now) c.sheet.ensures.sheet c.at.ensures in
    let at = fund-first numbers.book.now numbers.places.now numbers.lists.now c.requires.numbers c.args.number c.args.place.now.row c.args.place.now.family c.requires.at in
    ok-then c.mark_member.result c.mark_member.ensures.marked (λ m.
    fund-marked numbers.book.now numbers.places.now numbers.lists.now c.requires.numbers c.requires.valid c.args.place.now.row c.at.result.now got c.args.number at c.args.marks.now.list c.mark_member.new.marks.list (m c.at.result.now.fund.name (fund-named numbers.book.now numbers.places.now numbers.lists.now c.requires.numbers c.requires.valid c.args.place.now.row c.at.result.now got)))
