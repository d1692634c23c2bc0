use Rattle.std.proofs.Common.{◌≡◌, Some, slice_get, subst}
use Rattle.scr_ids.specs.Ranges.{IsAt}
use Rattle.scr_ids.specs.declared.table.Table.TheVariants as ranged
use Rattle.scr_nodes.specs.declared.node.Direction.TheVariants as directions
use Rattle.scr_sheet.specs.declared.sheet.BalanceSheet.{BalanceSheet}
use Rattle.scr_tree.proofs.MarkedMore.{ok-then}
use Rattle.scr_tree.proofs.OfRows.{costs-marked, line-named, of-costs, of-presents, presents-marked}
use Rattle.scr_tree.proofs.graph.Graph.mark_of_liability.Goals as goal

pub mark_member-requires-clause-stands : goal.mark_member-requires-clause-stands
mark_member-requires-clause-stands c =
    let numbers = c.args.self.now.numbers in
    let got = subst (λ (s : BalanceSheet). slice_get s.liabilities c.args.place.now.row ≡ Some c.at-liability.result.now) c.sheet.ensures.sheet c.at-liability.ensures in
    (c.at-liability.result.now.name, line-named numbers.book.now numbers.places.now numbers.lists.now c.requires.numbers c.requires.valid c.args.place.now.row c.at-liability.result.now got, of-costs numbers.book.now numbers.places.now numbers.lists.now c.requires.numbers c.requires.valid c.args.place.now.row c.at-liability.result.now got directions.Up)

pub mark_member-requires-in-1-clause-stands : goal.mark_member-requires-in-1-clause-stands
mark_member-requires-in-1-clause-stands c =
    let numbers = c.args.self.now.numbers in
    let got = subst (λ (s : BalanceSheet). slice_get s.liabilities c.args.place.now.row ≡ Some c.at-liability.result.now) c.sheet.ensures.sheet c.at-liability.ensures in
    (c.at-liability.result.now.name, line-named numbers.book.now numbers.places.now numbers.lists.now c.requires.numbers c.requires.valid c.args.place.now.row c.at-liability.result.now got, of-costs numbers.book.now numbers.places.now numbers.lists.now c.requires.numbers c.requires.valid c.args.place.now.row c.at-liability.result.now got directions.Down)

pub mark_member-requires-in-2-clause-stands : goal.mark_member-requires-in-2-clause-stands
mark_member-requires-in-2-clause-stands c =
    let numbers = c.args.self.now.numbers in
    let got = subst (λ (s : BalanceSheet). slice_get s.liabilities c.args.place.now.row ≡ Some c.at-liability.result.now) c.sheet.ensures.sheet c.at-liability.ensures in
    (c.at-liability.result.now.name, line-named numbers.book.now numbers.places.now numbers.lists.now c.requires.numbers c.requires.valid c.args.place.now.row c.at-liability.result.now got, of-presents numbers.book.now numbers.places.now numbers.lists.now c.requires.numbers c.requires.valid c.args.place.now.row c.at-liability.result.now got)

pub returns-in-0-clause-marked : goal.returns-in-0-clause-marked
returns-in-0-clause-marked c =
    let numbers = c.args.self.now.numbers in
    let got = subst (λ (s : BalanceSheet). slice_get s.liabilities c.args.place.now.row ≡ Some c.at-liability.result.now) c.sheet.ensures.sheet c.at-liability.ensures in
    ok-then c.mark_member.result c.mark_member.ensures.marked (λ m.
    costs-marked numbers.book.now numbers.places.now numbers.lists.now c.requires.numbers c.requires.valid c.args.place.now.row c.at-liability.result.now got directions.Up c.args.number (subst (λ i. IsAt numbers.places.now ranged.Liability c.args.place.now.row i c.args.number) c.in-0.is c.requires.at) c.args.marks.now.list c.mark_member.new.marks.list (m c.at-liability.result.now.name (line-named numbers.book.now numbers.places.now numbers.lists.now c.requires.numbers c.requires.valid c.args.place.now.row c.at-liability.result.now got)))

pub returns-in-1-clause-marked : goal.returns-in-1-clause-marked
returns-in-1-clause-marked c =
    let numbers = c.args.self.now.numbers in
    let got = subst (λ (s : BalanceSheet). slice_get s.liabilities c.args.place.now.row ≡ Some c.at-liability.result.now) c.sheet.ensures.sheet c.at-liability.ensures in
    ok-then c.mark_member-in-1.result c.mark_member-in-1.ensures.marked (λ m.
    costs-marked numbers.book.now numbers.places.now numbers.lists.now c.requires.numbers c.requires.valid c.args.place.now.row c.at-liability.result.now got directions.Down c.args.number (subst (λ i. IsAt numbers.places.now ranged.Liability c.args.place.now.row i c.args.number) c.in-1.is c.requires.at) c.args.marks.now.list c.mark_member-in-1.new.marks.list (m c.at-liability.result.now.name (line-named numbers.book.now numbers.places.now numbers.lists.now c.requires.numbers c.requires.valid c.args.place.now.row c.at-liability.result.now got)))

pub returns-in-2-clause-marked : goal.returns-in-2-clause-marked
returns-in-2-clause-marked c =
    let numbers = c.args.self.now.numbers in
    let got = subst (λ (s : BalanceSheet). slice_get s.liabilities c.args.place.now.row ≡ Some c.at-liability.result.now) c.sheet.ensures.sheet c.at-liability.ensures in
    ok-then c.mark_member-in-2.result c.mark_member-in-2.ensures.marked (λ m.
    presents-marked numbers.book.now numbers.places.now numbers.lists.now c.requires.numbers c.requires.valid c.args.place.now.row c.at-liability.result.now got c.args.number (subst (λ i. IsAt numbers.places.now ranged.Liability c.args.place.now.row i c.args.number) c.in-2.is c.requires.at) c.args.marks.now.list c.mark_member-in-2.new.marks.list (m c.at-liability.result.now.name (line-named numbers.book.now numbers.places.now numbers.lists.now c.requires.numbers c.requires.valid c.args.place.now.row c.at-liability.result.now got)))
