use Rattle.std.proofs.Common.{inl, inr, refl, sym, subst}
use Rattle.std.specs.Prelude.{IsNone}
use Rattle.scr_ids.specs.Ranges.{IsAt}
use Rattle.scr_ids.specs.declared.table.Table.TheVariants as ranged
use Rattle.scr_tree.specs.Marking.{assets}
use Rattle.scr_tree.specs.Points.{StandsIn}
use Rattle.scr_tree.proofs.AtNumbers.{block-at, group-at, no-assets, no-place, none-plain}
use Rattle.scr_tree.proofs.MarkedFrom.{from-all, from-group, from-plain, from-squares}
use Rattle.scr_tree.proofs.MarkedMore.{ok-then}
use Rattle.scr_tree.proofs.OfRows.{assets-only, assets-stand}
use Rattle.scr_tree.proofs.graph.Graph.mark_dependants.Goals as goal

pub returns-in_default-clause-marked : goal.returns-in_default-clause-marked
returns-in_default-clause-marked c =
    let numbers = c.args.self.now.numbers in
    absurd (no-place numbers.book.now numbers.places.now numbers.lists.now c.requires.graph.numbers_of c.args.number (c.place_at.ensures.absent (subst (λ found. IsNone found) (sym c.in_default.is) refl)) c.requires.live)

pub mark_above-requires-clause-at : goal.mark_above-requires-clause-at
mark_above-requires-clause-at c =
    let numbers = c.args.self.now.numbers in
    let place = c.in-Some.place in
    let at : IsAt numbers.places.now ranged.Part place.row place.family c.args.number =
    subst (λ t. IsAt numbers.places.now t place.row place.family c.args.number) c.in-Part.is c.in-Some.ensures.there in
    block-at numbers.book.now numbers.places.now numbers.lists.now c.requires.graph.numbers_of c.args.number c.len-size.ensures.apart place.row place.family at c.requires.live

pub returns-in-Security-clause-marked : goal.returns-in-Security-clause-marked
returns-in-Security-clause-marked c =
    let numbers = c.args.self.now.numbers in
    let place = c.in-Some.place in
    let at : IsAt numbers.places.now ranged.Security place.row place.family c.args.number =
    subst (λ t. IsAt numbers.places.now t place.row place.family c.args.number) c.in-Security.is c.in-Some.ensures.there in
    ok-then c.mark_of_security.result c.mark_of_security.ensures.marked (λ more.
    from-plain numbers.book.now numbers.places.now numbers.lists.now c.requires.graph.numbers_of c.args.number c.args.marks.now.list c.mark_linked.new.marks.list c.mark_of_security.new.marks.list c.in_ok-mark_linked.ensures.marked more (no-assets numbers.book.now numbers.places.now numbers.lists.now c.requires.graph.numbers_of c.args.number c.len-size.ensures.apart ranged.Security place.row place.family at (λ e. absurd (cc))))

pub returns-in-Fund-clause-marked : goal.returns-in-Fund-clause-marked
returns-in-Fund-clause-marked c =
    let numbers = c.args.self.now.numbers in
    let place = c.in-Some.place in
    let at : IsAt numbers.places.now ranged.Fund place.row place.family c.args.number =
    subst (λ t. IsAt numbers.places.now t place.row place.family c.args.number) c.in-Fund.is c.in-Some.ensures.there in
    ok-then c.mark_of_fund.result c.mark_of_fund.ensures.marked (λ more.
    from-plain numbers.book.now numbers.places.now numbers.lists.now c.requires.graph.numbers_of c.args.number c.args.marks.now.list c.mark_linked.new.marks.list c.mark_of_fund.new.marks.list c.in_ok-mark_linked.ensures.marked more (no-assets numbers.book.now numbers.places.now numbers.lists.now c.requires.graph.numbers_of c.args.number c.len-size.ensures.apart ranged.Fund place.row place.family at (λ e. absurd (cc))))

pub returns-in-Liability-clause-marked : goal.returns-in-Liability-clause-marked
returns-in-Liability-clause-marked c =
    let numbers = c.args.self.now.numbers in
    let place = c.in-Some.place in
    let at : IsAt numbers.places.now ranged.Liability place.row place.family c.args.number =
    subst (λ t. IsAt numbers.places.now t place.row place.family c.args.number) c.in-Liability.is c.in-Some.ensures.there in
    ok-then c.mark_of_liability.result c.mark_of_liability.ensures.marked (λ more.
    from-plain numbers.book.now numbers.places.now numbers.lists.now c.requires.graph.numbers_of c.args.number c.args.marks.now.list c.mark_linked.new.marks.list c.mark_of_liability.new.marks.list c.in_ok-mark_linked.ensures.marked more (no-assets numbers.book.now numbers.places.now numbers.lists.now c.requires.graph.numbers_of c.args.number c.len-size.ensures.apart ranged.Liability place.row place.family at (λ e. absurd (cc))))

pub returns-in-Group-clause-marked : goal.returns-in-Group-clause-marked
returns-in-Group-clause-marked c =
    let numbers = c.args.self.now.numbers in
    let place = c.in-Some.place in
    let at : IsAt numbers.places.now ranged.Group place.row place.family c.args.number =
    subst (λ t. IsAt numbers.places.now t place.row place.family c.args.number) c.in-Group.is c.in-Some.ensures.there in
    let own = group-at numbers.book.now numbers.places.now numbers.lists.now c.requires.graph.numbers_of c.args.number place.row place.family at in
    ok-then c.mark_of_group.result c.mark_of_group.ensures.marked
    (from-group numbers.book.now numbers.places.now numbers.lists.now c.requires.graph.numbers_of c.args.number c.args.marks.now.list c.mark_linked.new.marks.list c.mark_of_group.new.marks.list c.in_ok-mark_linked.ensures.marked own.name own.what own.at)

pub returns-in-Whole-clause-marked : goal.returns-in-Whole-clause-marked
returns-in-Whole-clause-marked c =
    let numbers = c.args.self.now.numbers in
    let at : StandsIn numbers.book.now numbers.places.now numbers.lists.now assets c.args.number = subst (StandsIn numbers.book.now numbers.places.now numbers.lists.now assets) (sym c.if-number-eq-ASSETS.true) (assets-stand numbers.book.now numbers.places.now numbers.lists.now c.requires.graph.numbers_of) in
    ok-then c.mark_squares.result c.mark_squares.ensures.marked
    (from-squares numbers.book.now numbers.places.now numbers.lists.now c.requires.graph.numbers_of c.args.number c.args.marks.now.list c.mark_linked.new.marks.list c.mark_squares.new.marks.list c.in_ok-mark_linked.ensures.marked at)

pub returns-in-Part-clause-marked : goal.returns-in-Part-clause-marked
returns-in-Part-clause-marked c =
    let numbers = c.args.self.now.numbers in
    let place = c.in-Some.place in
    let at : IsAt numbers.places.now ranged.Part place.row place.family c.args.number =
    subst (λ t. IsAt numbers.places.now t place.row place.family c.args.number) c.in-Part.is c.in-Some.ensures.there in
    ok-then c.mark_above.result c.mark_above.ensures.marked (λ more.
    from-all numbers.book.now numbers.places.now numbers.lists.now c.requires.graph.numbers_of c.args.number c.args.marks.now.list c.mark_linked.new.marks.list c.mark_above.new.marks.list c.in_ok-mark_linked.ensures.marked more (no-assets numbers.book.now numbers.places.now numbers.lists.now c.requires.graph.numbers_of c.args.number c.len-size.ensures.apart ranged.Part place.row place.family at (λ e. absurd (cc))))

pub returns-in-Whole-2-clause-marked : goal.returns-in-Whole-2-clause-marked
returns-in-Whole-2-clause-marked c =
    let numbers = c.args.self.now.numbers in
    let place = c.in-Some.place in
    let at : IsAt numbers.places.now ranged.Whole place.row place.family c.args.number =
    subst (λ t. IsAt numbers.places.now t place.row place.family c.args.number) c.in-Whole.is c.in-Some.ensures.there in
    let others : StandsIn numbers.book.now numbers.places.now numbers.lists.now assets c.args.number → ⊥ = λ here. c.if-number-eq-ASSETS.false (assets-only numbers.book.now numbers.places.now numbers.lists.now c.requires.graph.numbers_of c.args.number here) in
    from-plain numbers.book.now numbers.places.now numbers.lists.now c.requires.graph.numbers_of c.args.number c.args.marks.now.list c.mark_linked.new.marks.list c.mark_linked.new.marks.list c.in_ok-mark_linked.ensures.marked
    (none-plain numbers.book.now numbers.places.now numbers.lists.now c.requires.graph.numbers_of c.args.number c.len-size.ensures.apart ranged.Whole place.row place.family at (inl refl) others c.requires.live c.mark_linked.new.marks.list) others

pub returns-in-Currency-clause-marked : goal.returns-in-Currency-clause-marked
returns-in-Currency-clause-marked c =
    let numbers = c.args.self.now.numbers in
    let place = c.in-Some.place in
    let at : IsAt numbers.places.now ranged.Currency place.row place.family c.args.number =
    subst (λ t. IsAt numbers.places.now t place.row place.family c.args.number) c.in-Currency.is c.in-Some.ensures.there in
    from-plain numbers.book.now numbers.places.now numbers.lists.now c.requires.graph.numbers_of c.args.number c.args.marks.now.list c.mark_linked.new.marks.list c.mark_linked.new.marks.list c.in_ok-mark_linked.ensures.marked
    (none-plain numbers.book.now numbers.places.now numbers.lists.now c.requires.graph.numbers_of c.args.number c.len-size.ensures.apart ranged.Currency place.row place.family at (inr refl) (no-assets numbers.book.now numbers.places.now numbers.lists.now c.requires.graph.numbers_of c.args.number c.len-size.ensures.apart ranged.Currency place.row place.family at (λ e. absurd (cc))) c.requires.live c.mark_linked.new.marks.list)
    (no-assets numbers.book.now numbers.places.now numbers.lists.now c.requires.graph.numbers_of c.args.number c.len-size.ensures.apart ranged.Currency place.row place.family at (λ e. absurd (cc)))
