use Rattle.std.proofs.Common.{◌≡◌, true, false, Option, slice_get, ap, refl, subst, sym, ◌∙◌}
use Rattle.std.specs.Prelude.{IfSome, is_some}
use Rattle.scr_member_index.specs.Lists.{list_in}
use Rattle.scr_sum_slots.specs.Firsts.{firsts_in}
use Rattle.scr_member_lists.specs.Seatings.{roll_in}
use Rattle.scr_sheet.specs.declared.roll.Roll.{Roll}
use Rattle.scr_tree.specs.Reading.{IsRollOf}
use Rattle.scr_tree.proofs.FirstMembers.{empty-roll, list-same, no-row, no-seat, roll-told, row-within}
use Rattle.scr_tree.proofs.graph.Numbers.roll_of.Goals as goal

pub returns-in-Some-clause-there : goal.returns-in-Some-clause-there
returns-in-Some-clause-there c =
    let roll = c.in-Some.roll in
    let number = c.list_of-table.result.1 in
    let told = c.in-Some.ensures.there in
    record {
      number = number;
      numbered = told.1 c.args.self.now.book.now.rolls;
      is = list-same roll number ∙ ap (λ table. list_in table number) told.0 ∙ c.list_of-table.ensures.number;
    }

pub returns-in_err-first-clause-absent : goal.returns-in_err-first-clause-absent
returns-in_err-first-clause-absent c = λ none roll of.
    let number = c.list_of-table.result.1 in
    empty-roll c.args.self.now.book.now c.args.self.now.places.now c.args.self.now.lists.now c.requires c.list_of-table.result.0 c.list_of-table.ensures.table number
    (ap (λ ns. slice_get ns 0) (sym (c.list.ensures ∙ ap (firsts_in number) c.of.ensures)) ∙ sym c.in_err-first.ensures.value)
    c.args.list c.list_of-table.ensures.number roll of

pub returns-in_err-row-clause-absent : goal.returns-in_err-row-clause-absent
returns-in_err-row-clause-absent c = λ none roll of.
    let number = c.list_of-table.result.1 in
    absurd (no-row c.args.self.now.book.now c.args.self.now.places.now c.args.self.now.lists.now c.requires c.list_of-table.result.0 c.list_of-table.ensures.table number
    c.len-numbers.ensures.apart c.in_ok-first.first.now
    (ap (λ ns. slice_get ns 0) (sym (c.list.ensures ∙ ap (firsts_in number) c.of.ensures)) ∙ sym c.in_ok-first.ensures.value)
    (c.in_err-row.ensures.absent refl))

pub seats_at-requires-clause-row : goal.seats_at-requires-clause-row
seats_at-requires-clause-row c =
    let number = c.list_of-table.result.1 in
    let place = c.in_ok-row.field-0 in
    row-within c.args.self.now.book.now c.args.self.now.places.now c.args.self.now.lists.now c.requires c.list_of-table.result.0 c.list_of-table.ensures.table number
    c.len-numbers.ensures.apart c.in_ok-first.first.now
    (ap (λ ns. slice_get ns 0) (sym (c.list.ensures ∙ ap (firsts_in number) c.of.ensures)) ∙ sym c.in_ok-first.ensures.value)
    place.table place.row place.family c.in_ok-row.ensures.there

pub returns-in_err-seat-clause-absent : goal.returns-in_err-seat-clause-absent
returns-in_err-seat-clause-absent c = λ none roll of.
    let number = c.list_of-table.result.1 in
    let place = c.in_ok-row.field-0 in
    absurd (no-seat c.args.self.now.book.now c.args.self.now.places.now c.args.self.now.lists.now c.requires c.list_of-table.result.0 c.list_of-table.ensures.table number
    c.len-numbers.ensures.apart c.in_ok-first.first.now
    (ap (λ ns. slice_get ns 0) (sym (c.list.ensures ∙ ap (firsts_in number) c.of.ensures)) ∙ sym c.in_ok-first.ensures.value)
    place.table place.row place.family c.in_ok-row.ensures.there
    (λ s low e. c.in_err-seat.ensures.absent refl s low (ap (roll_in s) c.seats_at.ensures ∙ e)))

pub roll_in-requires-clause-row : goal.roll_in-requires-clause-row
roll_in-requires-clause-row c =
    let number = c.list_of-table.result.1 in
    let place = c.in_ok-row.field-0 in
    row-within c.args.self.now.book.now c.args.self.now.places.now c.args.self.now.lists.now c.requires c.list_of-table.result.0 c.list_of-table.ensures.table number
    c.len-numbers.ensures.apart c.in_ok-first.first.now
    (ap (λ ns. slice_get ns 0) (sym (c.list.ensures ∙ ap (firsts_in number) c.of.ensures)) ∙ sym c.in_ok-first.ensures.value)
    place.table place.row place.family c.in_ok-row.ensures.there

pub returns-clause-there : goal.returns-clause-there
returns-clause-there c =
    let n = c.args.self.now in
    let number = c.list_of-table.result.1 in
    let place = c.in_ok-row.field-0 in
    let seat = c.in_ok-seat.seat in
    let told = roll-told n.book.now n.places.now n.lists.now c.requires c.list_of-table.result.0 c.list_of-table.ensures.table number
    c.len-numbers.ensures.apart c.in_ok-first.first.now
    (ap (λ ns. slice_get ns 0) (sym (c.list.ensures ∙ ap (firsts_in number) c.of.ensures)) ∙ sym c.in_ok-first.ensures.value)
    place.table place.row place.family c.in_ok-row.ensures.there seat (ap (roll_in seat) (sym c.seats_at.ensures) ∙ c.in_ok-seat.ensures.there.1)
    c.args.list c.list_of-table.ensures.number c.roll_in.result c.roll_in.ensures.member in
    subst (λ (roll : Option Roll). IfSome roll (IsRollOf c.args.self.now.book.now.rolls c.args.list)) (sym told.1) told.2

pub returns-clause-absent : goal.returns-clause-absent
returns-clause-absent c = λ none roll of.
    let n = c.args.self.now in
    let number = c.list_of-table.result.1 in
    let place = c.in_ok-row.field-0 in
    let seat = c.in_ok-seat.seat in
    let told = roll-told n.book.now n.places.now n.lists.now c.requires c.list_of-table.result.0 c.list_of-table.ensures.table number
    c.len-numbers.ensures.apart c.in_ok-first.first.now
    (ap (λ ns. slice_get ns 0) (sym (c.list.ensures ∙ ap (firsts_in number) c.of.ensures)) ∙ sym c.in_ok-first.ensures.value)
    place.table place.row place.family c.in_ok-row.ensures.there seat (ap (roll_in seat) (sym c.seats_at.ensures) ∙ c.in_ok-seat.ensures.there.1)
    c.args.list c.list_of-table.ensures.number c.roll_in.result c.roll_in.ensures.member in
    let clash : true ≡ false = sym (ap (λ (r : Option Roll). is_some r) told.1) ∙ none in
    absurd (cc)
