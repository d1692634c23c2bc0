use Rattle.std.proofs.Common.{rules, ◌≡◌, ◌+◌, Some, slice_get, refl, subst, arith}
use Rattle.scr_ids.specs.Ranges.{IsAt}
use Rattle.scr_ids.specs.declared.table.Table.TheVariants as ranged
use Rattle.scr_nodes.specs.declared.node.Direction.TheVariants as directions
use Rattle.scr_nodes.specs.declared.node.Node.TheVariants as nodes
use Rattle.scr_nodes.specs.declared.node.OfSecurity.TheVariants as of_securities
use Rattle.scr_sheet.specs.declared.sheet.BalanceSheet.{BalanceSheet}
use Rattle.scr_tree.proofs.Dependants.{live-here}
use Rattle.scr_tree.proofs.MarkedMore.{marked-number, ok-then}
use Rattle.scr_tree.proofs.OfSecurity.{next-within, of-bonds, of-rates, rate-marked, security-named, security-stands, spread-marked, unit-marked}
use Rattle.scr_tree.proofs.graph.Graph.mark_of_security.Goals as goal

pub mark_member-requires-clause-stands : goal.mark_member-requires-clause-stands
mark_member-requires-clause-stands c =
    let numbers = c.args.self.now.numbers in
    let got = subst (λ (s : BalanceSheet). slice_get s.securities c.args.place.now.row ≡ Some c.at-position.result.now) c.sheet.ensures.sheet c.at-position.ensures in
    let called = c.at-position.result.now.security.name in
    let named = security-named numbers.book.now numbers.places.now numbers.lists.now c.requires.numbers c.requires.valid c.args.place.now.row c.at-position.result.now got in
    let at : IsAt numbers.places.now ranged.Security c.args.place.now.row 3 c.args.number = subst (λ i. IsAt numbers.places.now ranged.Security c.args.place.now.row i c.args.number) c.in-3.is c.requires.at in
    (called, named, of-rates numbers.book.now numbers.places.now numbers.lists.now c.requires.numbers c.requires.valid c.args.place.now.row c.at-position.result.now got directions.Up (live-here numbers.book.now numbers.places.now numbers.lists.now c.requires.numbers (nodes.Security called (of_securities.Rate directions.Up)) c.args.number (security-stands numbers.book.now numbers.places.now numbers.lists.now c.requires.numbers c.requires.valid c.args.place.now.row c.at-position.result.now got (of_securities.Rate directions.Up) c.args.number at) c.requires.live))

pub mark_member-requires-in-4-clause-stands : goal.mark_member-requires-in-4-clause-stands
mark_member-requires-in-4-clause-stands c =
    let numbers = c.args.self.now.numbers in
    let got = subst (λ (s : BalanceSheet). slice_get s.securities c.args.place.now.row ≡ Some c.at-position.result.now) c.sheet.ensures.sheet c.at-position.ensures in
    let called = c.at-position.result.now.security.name in
    let named = security-named numbers.book.now numbers.places.now numbers.lists.now c.requires.numbers c.requires.valid c.args.place.now.row c.at-position.result.now got in
    let at : IsAt numbers.places.now ranged.Security c.args.place.now.row 4 c.args.number = subst (λ i. IsAt numbers.places.now ranged.Security c.args.place.now.row i c.args.number) c.in-4.is c.requires.at in
    (called, named, of-rates numbers.book.now numbers.places.now numbers.lists.now c.requires.numbers c.requires.valid c.args.place.now.row c.at-position.result.now got directions.Down (live-here numbers.book.now numbers.places.now numbers.lists.now c.requires.numbers (nodes.Security called (of_securities.Rate directions.Down)) c.args.number (security-stands numbers.book.now numbers.places.now numbers.lists.now c.requires.numbers c.requires.valid c.args.place.now.row c.at-position.result.now got (of_securities.Rate directions.Down) c.args.number at) c.requires.live))

pub mark_member-requires-in_default-clause-stands : goal.mark_member-requires-in_default-clause-stands
mark_member-requires-in_default-clause-stands c =
    let numbers = c.args.self.now.numbers in
    let got = subst (λ (s : BalanceSheet). slice_get s.securities c.args.place.now.row ≡ Some c.at-position.result.now) c.sheet.ensures.sheet c.at-position.ensures in
    let called = c.at-position.result.now.security.name in
    let named = security-named numbers.book.now numbers.places.now numbers.lists.now c.requires.numbers c.requires.valid c.args.place.now.row c.at-position.result.now got in
    let five : c.args.place.now.family ≡ 5 = search rules in
    let at : IsAt numbers.places.now ranged.Security c.args.place.now.row 5 c.args.number =
    subst (λ i. IsAt numbers.places.now ranged.Security c.args.place.now.row i c.args.number) five c.requires.at in
    (called, named, of-bonds numbers.book.now numbers.places.now numbers.lists.now c.requires.numbers c.requires.valid c.args.place.now.row c.at-position.result.now got (live-here numbers.book.now numbers.places.now numbers.lists.now c.requires.numbers (nodes.Security called of_securities.Spread) c.args.number (security-stands numbers.book.now numbers.places.now numbers.lists.now c.requires.numbers c.requires.valid c.args.place.now.row c.at-position.result.now got of_securities.Spread c.args.number at) c.requires.live))

pub returns-in-3-clause-marked : goal.returns-in-3-clause-marked
returns-in-3-clause-marked c =
    let numbers = c.args.self.now.numbers in
    let got = subst (λ (s : BalanceSheet). slice_get s.securities c.args.place.now.row ≡ Some c.at-position.result.now) c.sheet.ensures.sheet c.at-position.ensures in
    let called = c.at-position.result.now.security.name in
    let named = security-named numbers.book.now numbers.places.now numbers.lists.now c.requires.numbers c.requires.valid c.args.place.now.row c.at-position.result.now got in
    let at : IsAt numbers.places.now ranged.Security c.args.place.now.row 3 c.args.number = subst (λ i. IsAt numbers.places.now ranged.Security c.args.place.now.row i c.args.number) c.in-3.is c.requires.at in
    ok-then c.mark_member.result c.mark_member.ensures.marked (λ m.
    rate-marked numbers.book.now numbers.places.now numbers.lists.now c.requires.numbers c.requires.valid c.args.place.now.row c.at-position.result.now got directions.Up c.args.number at c.args.marks.now.list c.mark_member.new.marks.list (m called named))

pub returns-in-4-clause-marked : goal.returns-in-4-clause-marked
returns-in-4-clause-marked c =
    let numbers = c.args.self.now.numbers in
    let got = subst (λ (s : BalanceSheet). slice_get s.securities c.args.place.now.row ≡ Some c.at-position.result.now) c.sheet.ensures.sheet c.at-position.ensures in
    let called = c.at-position.result.now.security.name in
    let named = security-named numbers.book.now numbers.places.now numbers.lists.now c.requires.numbers c.requires.valid c.args.place.now.row c.at-position.result.now got in
    let at : IsAt numbers.places.now ranged.Security c.args.place.now.row 4 c.args.number = subst (λ i. IsAt numbers.places.now ranged.Security c.args.place.now.row i c.args.number) c.in-4.is c.requires.at in
    ok-then c.mark_member-in-4.result c.mark_member-in-4.ensures.marked (λ m.
    rate-marked numbers.book.now numbers.places.now numbers.lists.now c.requires.numbers c.requires.valid c.args.place.now.row c.at-position.result.now got directions.Down c.args.number at c.args.marks.now.list c.mark_member-in-4.new.marks.list (m called named))

pub returns-in_default-clause-marked : goal.returns-in_default-clause-marked
returns-in_default-clause-marked c =
    let numbers = c.args.self.now.numbers in
    let got = subst (λ (s : BalanceSheet). slice_get s.securities c.args.place.now.row ≡ Some c.at-position.result.now) c.sheet.ensures.sheet c.at-position.ensures in
    let called = c.at-position.result.now.security.name in
    let named = security-named numbers.book.now numbers.places.now numbers.lists.now c.requires.numbers c.requires.valid c.args.place.now.row c.at-position.result.now got in
    let five : c.args.place.now.family ≡ 5 = search rules in
    let at : IsAt numbers.places.now ranged.Security c.args.place.now.row 5 c.args.number =
    subst (λ i. IsAt numbers.places.now ranged.Security c.args.place.now.row i c.args.number) five c.requires.at in
    ok-then c.mark_member-in_default.result c.mark_member-in_default.ensures.marked (λ m.
    spread-marked numbers.book.now numbers.places.now numbers.lists.now c.requires.numbers c.requires.valid c.args.place.now.row c.at-position.result.now got c.args.number at c.args.marks.now.list c.mark_member-in_default.new.marks.list (m called named))

pub overflow_add-number : goal.overflow_add-number
overflow_add-number c =
    let numbers = c.args.self.now.numbers in
    let got = subst (λ (s : BalanceSheet). slice_get s.securities c.args.place.now.row ≡ Some c.at-position.result.now) c.sheet.ensures.sheet c.at-position.ensures in
    let called = c.at-position.result.now.security.name in
    let named = security-named numbers.book.now numbers.places.now numbers.lists.now c.requires.numbers c.requires.valid c.args.place.now.row c.at-position.result.now got in
    let at : IsAt numbers.places.now ranged.Security c.args.place.now.row 1 c.args.number = subst (λ i. IsAt numbers.places.now ranged.Security c.args.place.now.row i c.args.number) c.in-1.is c.requires.at in
    let low = next-within numbers.book.now numbers.places.now numbers.lists.now c.requires.numbers c.requires.valid c.args.place.now.row c.at-position.result.now got (of_securities.Rate directions.Up) 3 1 c.args.number refl (omega arith) at (c.args.number + 2) (omega arith) in
    omega (arith, low, c.requires.small)

pub insert-requires : goal.insert-requires
insert-requires c =
    let numbers = c.args.self.now.numbers in
    let got = subst (λ (s : BalanceSheet). slice_get s.securities c.args.place.now.row ≡ Some c.at-position.result.now) c.sheet.ensures.sheet c.at-position.ensures in
    let called = c.at-position.result.now.security.name in
    let named = security-named numbers.book.now numbers.places.now numbers.lists.now c.requires.numbers c.requires.valid c.args.place.now.row c.at-position.result.now got in
    let at : IsAt numbers.places.now ranged.Security c.args.place.now.row 1 c.args.number = subst (λ i. IsAt numbers.places.now ranged.Security c.args.place.now.row i c.args.number) c.in-1.is c.requires.at in
    let low = next-within numbers.book.now numbers.places.now numbers.lists.now c.requires.numbers c.requires.valid c.args.place.now.row c.at-position.result.now got (of_securities.Rate directions.Up) 3 1 c.args.number refl (omega arith) at (c.args.number + 2) (omega arith) in
    omega (arith, low, c.requires.room)

pub returns-in-1-clause-marked : goal.returns-in-1-clause-marked
returns-in-1-clause-marked c =
    let numbers = c.args.self.now.numbers in
    let got = subst (λ (s : BalanceSheet). slice_get s.securities c.args.place.now.row ≡ Some c.at-position.result.now) c.sheet.ensures.sheet c.at-position.ensures in
    let called = c.at-position.result.now.security.name in
    let named = security-named numbers.book.now numbers.places.now numbers.lists.now c.requires.numbers c.requires.valid c.args.place.now.row c.at-position.result.now got in
    let at : IsAt numbers.places.now ranged.Security c.args.place.now.row 1 c.args.number = subst (λ i. IsAt numbers.places.now ranged.Security c.args.place.now.row i c.args.number) c.in-1.is c.requires.at in
    ok-then c.insert.result c.insert.ensures.ok (λ is.
    unit-marked numbers.book.now numbers.places.now numbers.lists.now c.requires.numbers c.requires.valid c.args.place.now.row c.at-position.result.now got directions.Up c.args.number at (live-here numbers.book.now numbers.places.now numbers.lists.now c.requires.numbers (nodes.Security called (of_securities.UnitLoss directions.Up)) c.args.number (security-stands numbers.book.now numbers.places.now numbers.lists.now c.requires.numbers c.requires.valid c.args.place.now.row c.at-position.result.now got (of_securities.UnitLoss directions.Up) c.args.number at) c.requires.live) c.args.marks.now.list c.insert.new.self.list
    (marked-number c.args.marks.now.list c.insert.new.self.list (c.args.number + 2) is))

pub overflow_add-number-in-2 : goal.overflow_add-number-in-2
overflow_add-number-in-2 c =
    let numbers = c.args.self.now.numbers in
    let got = subst (λ (s : BalanceSheet). slice_get s.securities c.args.place.now.row ≡ Some c.at-position.result.now) c.sheet.ensures.sheet c.at-position.ensures in
    let called = c.at-position.result.now.security.name in
    let named = security-named numbers.book.now numbers.places.now numbers.lists.now c.requires.numbers c.requires.valid c.args.place.now.row c.at-position.result.now got in
    let at : IsAt numbers.places.now ranged.Security c.args.place.now.row 2 c.args.number = subst (λ i. IsAt numbers.places.now ranged.Security c.args.place.now.row i c.args.number) c.in-2.is c.requires.at in
    let low = next-within numbers.book.now numbers.places.now numbers.lists.now c.requires.numbers c.requires.valid c.args.place.now.row c.at-position.result.now got (of_securities.Rate directions.Down) 4 2 c.args.number refl (omega arith) at (c.args.number + 2) (omega arith) in
    omega (arith, low, c.requires.small)

pub insert-requires-in-2 : goal.insert-requires-in-2
insert-requires-in-2 c =
    let numbers = c.args.self.now.numbers in
    let got = subst (λ (s : BalanceSheet). slice_get s.securities c.args.place.now.row ≡ Some c.at-position.result.now) c.sheet.ensures.sheet c.at-position.ensures in
    let called = c.at-position.result.now.security.name in
    let named = security-named numbers.book.now numbers.places.now numbers.lists.now c.requires.numbers c.requires.valid c.args.place.now.row c.at-position.result.now got in
    let at : IsAt numbers.places.now ranged.Security c.args.place.now.row 2 c.args.number = subst (λ i. IsAt numbers.places.now ranged.Security c.args.place.now.row i c.args.number) c.in-2.is c.requires.at in
    let low = next-within numbers.book.now numbers.places.now numbers.lists.now c.requires.numbers c.requires.valid c.args.place.now.row c.at-position.result.now got (of_securities.Rate directions.Down) 4 2 c.args.number refl (omega arith) at (c.args.number + 2) (omega arith) in
    omega (arith, low, c.requires.room)

pub returns-in-2-clause-marked : goal.returns-in-2-clause-marked
returns-in-2-clause-marked c =
    let numbers = c.args.self.now.numbers in
    let got = subst (λ (s : BalanceSheet). slice_get s.securities c.args.place.now.row ≡ Some c.at-position.result.now) c.sheet.ensures.sheet c.at-position.ensures in
    let called = c.at-position.result.now.security.name in
    let named = security-named numbers.book.now numbers.places.now numbers.lists.now c.requires.numbers c.requires.valid c.args.place.now.row c.at-position.result.now got in
    let at : IsAt numbers.places.now ranged.Security c.args.place.now.row 2 c.args.number = subst (λ i. IsAt numbers.places.now ranged.Security c.args.place.now.row i c.args.number) c.in-2.is c.requires.at in
    ok-then c.insert-in-2.result c.insert-in-2.ensures.ok (λ is.
    unit-marked numbers.book.now numbers.places.now numbers.lists.now c.requires.numbers c.requires.valid c.args.place.now.row c.at-position.result.now got directions.Down c.args.number at (live-here numbers.book.now numbers.places.now numbers.lists.now c.requires.numbers (nodes.Security called (of_securities.UnitLoss directions.Down)) c.args.number (security-stands numbers.book.now numbers.places.now numbers.lists.now c.requires.numbers c.requires.valid c.args.place.now.row c.at-position.result.now got (of_securities.UnitLoss directions.Down) c.args.number at) c.requires.live) c.args.marks.now.list c.insert-in-2.new.self.list
    (marked-number c.args.marks.now.list c.insert-in-2.new.self.list (c.args.number + 2) is))
