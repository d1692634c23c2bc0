use Rattle.std.proofs.Common.{◌≡◌, ◌+◌, Some, slice_get, refl, subst, arith}
use Rattle.scr_nodes.specs.declared.node.Direction.TheVariants as directions
use Rattle.scr_nodes.specs.declared.node.OfSecurity.TheVariants as of_securities
use Rattle.scr_sheet.specs.Members.{has_class, is_paying}
use Rattle.scr_sheet.specs.declared.rows.Class.TheVariants as classes
use Rattle.scr_sheet.specs.declared.sheet.BalanceSheet.{BalanceSheet}
use Rattle.scr_tree.proofs.MarkedMore.{ok-then, test-as}
use Rattle.scr_tree.proofs.OfSecurity.{next-within, of-assets, of-class, of-group, of-grouped, security-named, total-alone, total-grouped}
use Rattle.scr_tree.proofs.graph.Graph.mark_of_total.Goals as goal

pub overflow_add-number : goal.overflow_add-number
overflow_add-number c =
    let numbers = c.args.self.now.numbers in
    let got = subst (λ (s : BalanceSheet). slice_get s.securities c.args.row ≡ Some c.at-position.result.now) c.sheet.ensures.sheet c.at-position.ensures in
    let position = c.at-position.result.now in
    let called = position.security.name in
    let named = security-named numbers.book.now numbers.places.now numbers.lists.now c.requires.numbers c.requires.valid c.args.row c.at-position.result.now got in
    let at = c.requires.at in
    let low = next-within numbers.book.now numbers.places.now numbers.lists.now c.requires.numbers c.requires.valid c.args.row c.at-position.result.now got (of_securities.Rate directions.Up) 3 0 c.args.number refl (omega arith) at (c.args.number + 3) (omega arith) in
    omega (arith, low, c.requires.small)

pub mark_if-requires : goal.mark_if-requires
mark_if-requires c =
    let numbers = c.args.self.now.numbers in
    let got = subst (λ (s : BalanceSheet). slice_get s.securities c.args.row ≡ Some c.at-position.result.now) c.sheet.ensures.sheet c.at-position.ensures in
    let position = c.at-position.result.now in
    let called = position.security.name in
    let named = security-named numbers.book.now numbers.places.now numbers.lists.now c.requires.numbers c.requires.valid c.args.row c.at-position.result.now got in
    let at = c.requires.at in
    let low = next-within numbers.book.now numbers.places.now numbers.lists.now c.requires.numbers c.requires.valid c.args.row c.at-position.result.now got (of_securities.Rate directions.Up) 3 0 c.args.number refl (omega arith) at (c.args.number + 3) (omega arith) in
    omega (arith, low, c.requires.room)

pub overflow_add-number-2 : goal.overflow_add-number-2
overflow_add-number-2 c =
    let numbers = c.args.self.now.numbers in
    let got = subst (λ (s : BalanceSheet). slice_get s.securities c.args.row ≡ Some c.at-position.result.now) c.sheet.ensures.sheet c.at-position.ensures in
    let position = c.at-position.result.now in
    let called = position.security.name in
    let named = security-named numbers.book.now numbers.places.now numbers.lists.now c.requires.numbers c.requires.valid c.args.row c.at-position.result.now got in
    let at = c.requires.at in
    let low = next-within numbers.book.now numbers.places.now numbers.lists.now c.requires.numbers c.requires.valid c.args.row c.at-position.result.now got (of_securities.Rate directions.Down) 4 0 c.args.number refl (omega arith) at (c.args.number + 4) (omega arith) in
    omega (arith, low, c.requires.small)

pub mark_if-requires-2 : goal.mark_if-requires-2
mark_if-requires-2 c =
    let numbers = c.args.self.now.numbers in
    let got = subst (λ (s : BalanceSheet). slice_get s.securities c.args.row ≡ Some c.at-position.result.now) c.sheet.ensures.sheet c.at-position.ensures in
    let position = c.at-position.result.now in
    let called = position.security.name in
    let named = security-named numbers.book.now numbers.places.now numbers.lists.now c.requires.numbers c.requires.valid c.args.row c.at-position.result.now got in
    let at = c.requires.at in
    let low = next-within numbers.book.now numbers.places.now numbers.lists.now c.requires.numbers c.requires.valid c.args.row c.at-position.result.now got (of_securities.Rate directions.Down) 4 0 c.args.number refl (omega arith) at (c.args.number + 4) (omega arith) in
    omega (arith, low, c.requires.room, c.in_ok-mark_if.ensures.size)

pub overflow_add-number-3 : goal.overflow_add-number-3
overflow_add-number-3 c =
    let numbers = c.args.self.now.numbers in
    let got = subst (λ (s : BalanceSheet). slice_get s.securities c.args.row ≡ Some c.at-position.result.now) c.sheet.ensures.sheet c.at-position.ensures in
    let position = c.at-position.result.now in
    let called = position.security.name in
    let named = security-named numbers.book.now numbers.places.now numbers.lists.now c.requires.numbers c.requires.valid c.args.row c.at-position.result.now got in
    let at = c.requires.at in
    let low = next-within numbers.book.now numbers.places.now numbers.lists.now c.requires.numbers c.requires.valid c.args.row c.at-position.result.now got of_securities.Spread 5 0 c.args.number refl (omega arith) at (c.args.number + 5) (omega arith) in
    omega (arith, low, c.requires.small)

pub mark_if-requires-3 : goal.mark_if-requires-3
mark_if-requires-3 c =
    let numbers = c.args.self.now.numbers in
    let got = subst (λ (s : BalanceSheet). slice_get s.securities c.args.row ≡ Some c.at-position.result.now) c.sheet.ensures.sheet c.at-position.ensures in
    let position = c.at-position.result.now in
    let called = position.security.name in
    let named = security-named numbers.book.now numbers.places.now numbers.lists.now c.requires.numbers c.requires.valid c.args.row c.at-position.result.now got in
    let at = c.requires.at in
    let low = next-within numbers.book.now numbers.places.now numbers.lists.now c.requires.numbers c.requires.valid c.args.row c.at-position.result.now got of_securities.Spread 5 0 c.args.number refl (omega arith) at (c.args.number + 5) (omega arith) in
    omega (arith, low, c.requires.room, c.in_ok-mark_if.ensures.size, c.in_ok-mark_if-2.ensures.size)

pub mark_member-requires-clause-stands : goal.mark_member-requires-clause-stands
mark_member-requires-clause-stands c =
    let numbers = c.args.self.now.numbers in
    let got = subst (λ (s : BalanceSheet). slice_get s.securities c.args.row ≡ Some c.at-position.result.now) c.sheet.ensures.sheet c.at-position.ensures in
    let position = c.at-position.result.now in
    let called = position.security.name in
    let named = security-named numbers.book.now numbers.places.now numbers.lists.now c.requires.numbers c.requires.valid c.args.row c.at-position.result.now got in
    let at = c.requires.at in
    (called, named, of-class numbers.book.now numbers.places.now numbers.lists.now c.requires.numbers c.requires.valid c.args.row c.at-position.result.now got)

pub mark_member-requires-2-clause-stands : goal.mark_member-requires-2-clause-stands
mark_member-requires-2-clause-stands c =
    let numbers = c.args.self.now.numbers in
    let got = subst (λ (s : BalanceSheet). slice_get s.securities c.args.row ≡ Some c.at-position.result.now) c.sheet.ensures.sheet c.at-position.ensures in
    let position = c.at-position.result.now in
    let called = position.security.name in
    let named = security-named numbers.book.now numbers.places.now numbers.lists.now c.requires.numbers c.requires.valid c.args.row c.at-position.result.now got in
    let at = c.requires.at in
    (called, named, of-assets numbers.book.now numbers.places.now numbers.lists.now c.requires.numbers c.requires.valid c.args.row c.at-position.result.now got)

pub mark_member-requires-in-Some-clause-stands : goal.mark_member-requires-in-Some-clause-stands
mark_member-requires-in-Some-clause-stands c =
    let numbers = c.args.self.now.numbers in
    let got = subst (λ (s : BalanceSheet). slice_get s.securities c.args.row ≡ Some c.at-position.result.now) c.sheet.ensures.sheet c.at-position.ensures in
    let position = c.at-position.result.now in
    let called = position.security.name in
    let named = security-named numbers.book.now numbers.places.now numbers.lists.now c.requires.numbers c.requires.valid c.args.row c.at-position.result.now got in
    let at = c.requires.at in
    (called, named, of-grouped numbers.book.now numbers.places.now numbers.lists.now c.requires.numbers c.requires.valid c.args.row c.at-position.result.now got c.in-Some.group c.in-Some.is)

pub mark_member-requires-in-Some-2-clause-stands : goal.mark_member-requires-in-Some-2-clause-stands
mark_member-requires-in-Some-2-clause-stands c =
    let numbers = c.args.self.now.numbers in
    let got = subst (λ (s : BalanceSheet). slice_get s.securities c.args.row ≡ Some c.at-position.result.now) c.sheet.ensures.sheet c.at-position.ensures in
    let position = c.at-position.result.now in
    let called = position.security.name in
    let named = security-named numbers.book.now numbers.places.now numbers.lists.now c.requires.numbers c.requires.valid c.args.row c.at-position.result.now got in
    let at = c.requires.at in
    (called, named, of-group numbers.book.now numbers.places.now numbers.lists.now c.requires.numbers c.requires.valid c.args.row c.at-position.result.now got c.in-Some.group c.in-Some.is)

pub returns-in-None-clause-marked : goal.returns-in-None-clause-marked
returns-in-None-clause-marked c =
    let numbers = c.args.self.now.numbers in
    let got = subst (λ (s : BalanceSheet). slice_get s.securities c.args.row ≡ Some c.at-position.result.now) c.sheet.ensures.sheet c.at-position.ensures in
    let position = c.at-position.result.now in
    let called = position.security.name in
    let named = security-named numbers.book.now numbers.places.now numbers.lists.now c.requires.numbers c.requires.valid c.args.row c.at-position.result.now got in
    let at = c.requires.at in
    let one = test-as c.is_paying-paying.result (is_paying position) c.is_paying-paying.ensures (c.args.number + 3) c.args.marks.now.list c.mark_if.new.marks.list c.in_ok-mark_if.ensures.marked in
    let two = test-as c.is_paying-paying.result (is_paying position) c.is_paying-paying.ensures (c.args.number + 4) c.mark_if.new.marks.list c.mark_if-2.new.marks.list c.in_ok-mark_if-2.ensures.marked in
    let three = test-as c.has_class.result (has_class classes.Bond position) c.has_class.ensures (c.args.number + 5) c.mark_if-2.new.marks.list c.mark_if-3.new.marks.list c.in_ok-mark_if-3.ensures.marked in
    let four = c.in_ok-mark_member.ensures.marked called named in
    let five = c.in_ok-mark_member-2.ensures.marked called named in
    total-alone numbers.book.now numbers.places.now numbers.lists.now c.requires.numbers c.requires.valid c.args.row c.at-position.result.now got c.args.number at c.args.marks.now.list c.mark_if.new.marks.list c.mark_if-2.new.marks.list c.mark_if-3.new.marks.list c.mark_member.new.marks.list c.mark_member-2.new.marks.list one two three four five c.in-None.is

pub returns-in_ok-mark_member-in-Some-clause-marked : goal.returns-in_ok-mark_member-in-Some-clause-marked
returns-in_ok-mark_member-in-Some-clause-marked c =
    let numbers = c.args.self.now.numbers in
    let got = subst (λ (s : BalanceSheet). slice_get s.securities c.args.row ≡ Some c.at-position.result.now) c.sheet.ensures.sheet c.at-position.ensures in
    let position = c.at-position.result.now in
    let called = position.security.name in
    let named = security-named numbers.book.now numbers.places.now numbers.lists.now c.requires.numbers c.requires.valid c.args.row c.at-position.result.now got in
    let at = c.requires.at in
    let one = test-as c.is_paying-paying.result (is_paying position) c.is_paying-paying.ensures (c.args.number + 3) c.args.marks.now.list c.mark_if.new.marks.list c.in_ok-mark_if.ensures.marked in
    let two = test-as c.is_paying-paying.result (is_paying position) c.is_paying-paying.ensures (c.args.number + 4) c.mark_if.new.marks.list c.mark_if-2.new.marks.list c.in_ok-mark_if-2.ensures.marked in
    let three = test-as c.has_class.result (has_class classes.Bond position) c.has_class.ensures (c.args.number + 5) c.mark_if-2.new.marks.list c.mark_if-3.new.marks.list c.in_ok-mark_if-3.ensures.marked in
    let four = c.in_ok-mark_member.ensures.marked called named in
    let five = c.in_ok-mark_member-2.ensures.marked called named in
    ok-then c.mark_member-in-Some-2.result c.mark_member-in-Some-2.ensures.marked (λ m.
    total-grouped numbers.book.now numbers.places.now numbers.lists.now c.requires.numbers c.requires.valid c.args.row c.at-position.result.now got c.args.number at c.args.marks.now.list c.mark_if.new.marks.list c.mark_if-2.new.marks.list c.mark_if-3.new.marks.list c.mark_member.new.marks.list c.mark_member-2.new.marks.list one two three four five c.in-Some.group c.in-Some.is c.mark_member-in-Some.new.marks.list c.mark_member-in-Some-2.new.marks.list
    (c.in_ok-mark_member-in-Some.ensures.marked called named) (m called named))
