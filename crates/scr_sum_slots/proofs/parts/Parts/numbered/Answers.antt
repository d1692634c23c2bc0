use Rattle.std.proofs.Common.{◌≡◌, ◌≢◌, ◌≤◌, None, refl, rules}
use Rattle.scr_ids.specs.declared.table.Table.TheVariants as tables
use Rattle.scr_sum_slots.specs.Parts.{part_at, size_of}
use Rattle.scr_sum_slots.proofs.PartNumbered.{no-part, other-table, past-size}
use Rattle.scr_sum_slots.proofs.parts.Parts.numbered.Goals as goal

pub returns-in_err-place-clause-absent : goal.returns-in_err-place-clause-absent
returns-in_err-place-clause-absent c = λ none part place at. c.in_err-place.ensures.absent refl tables.Part at.slot place at.at

pub returns-then-ne-clause-absent : goal.returns-then-ne-clause-absent
returns-then-ne-clause-absent c = λ none part place at.
    let ne : c.in_ok-place.place.table ≢ tables.Part = search rules in
    other-table c.args.self.now c.args.places.now c.len-slots.ensures.own c.len-numbers.ensures.apart c.args.number c.in_ok-place.place.table c.in_ok-place.place.row
    c.in_ok-place.place.family c.in_ok-place.ensures.there part place at ne

pub returns-then-place-slots-clause-absent : goal.returns-then-place-slots-clause-absent
returns-then-place-slots-clause-absent c = λ none part place at.
    let past : size_of c.args.self.now ≤ c.in_ok-place.place.row = search rules in
    past-size c.args.self.now c.args.places.now c.len-slots.ensures.own c.len-numbers.ensures.apart c.args.number c.in_ok-place.place.table c.in_ok-place.place.row
    c.in_ok-place.place.family c.in_ok-place.ensures.there part place at past

pub returns-in_err-part-clause-absent : goal.returns-in_err-part-clause-absent
returns-in_err-part-clause-absent c = λ none part place at.
    let gone : part_at c.in_ok-place.place.row c.args.self.now ≡ None = search rules in
    no-part c.args.self.now c.args.places.now c.len-slots.ensures.own c.len-numbers.ensures.apart c.args.number c.in_ok-place.place.table c.in_ok-place.place.row
    c.in_ok-place.place.family c.in_ok-place.ensures.there part place at gone
