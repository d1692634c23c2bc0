use Rattle.std.proofs.Common.{◌+◌, subst, sym, ◌∙◌}
use Rattle.scr_member_index.specs.Lists.{list_in}
use Rattle.scr_member_index.proofs.Seated.{ExtendedTo, extended-all, extended-none, extended-one, on-ok, extended-passed, extended-refused}
use Rattle.scr_member_index.proofs.parting.extend_all.Goals.{then-number+then-number-roll+in_ok-grow, else-number, else-number-via-then-number+else-number-roll, else-number-via-else-number}
use Rattle.scr_member_index.proofs.parting.extend_all.Goals as goal

pub loop-seat-init : goal.loop-seat-init
loop-seat-init c =
    extended-none c.args.change.now.table c.args.firsts.now c.args.change.now.before c.args.change.now.after c.args.parts.now

pub loop-seat-preserved : goal.loop-seat-preserved
loop-seat-preserved c =
    let change = c.args.change.now in
    let firsts = c.args.firsts.now in
    let own = c.requires in
    elim c.if-number.branch [
      | then-number+then-number-roll+in_ok-grow w ↦
          subst (ExtendedTo change.table firsts change.before change.after (c.loop-seat.seat + 1) c.args.parts.now) (sym w.parts-is)
          (extended-one change.table firsts change.before change.after own.0 own.1 c.loop-seat.seat c.loop-seat-test.true c.args.parts.now c.loop-seat.parts c.loop-seat.invariant
          w.grow.new.parts c.roll-number.result w.list.result.now c.roll-number.ensures w.if-number.true (λ e. w.if-number-roll.true (e ∙ sym w.roll.ensures)) w.list.ensures
          w.in_ok-grow.ensures.ok w.grow.ensures.others w.grow.ensures.kept)
      | else-number w ↦
          elim w.else-number.branch [
            | else-number-via-then-number+else-number-roll w' ↦
                extended-passed change.table firsts change.before change.after own.0 own.1 c.loop-seat.seat c.loop-seat-test.true c.args.parts.now c.loop-seat.parts c.loop-seat.invariant
                c.if-number.parts (λ comes. comes.new (sym w'.roll.ensures ∙ sym w'.if-number-roll.false ∙ c.roll-number.ensures)) w.parts-is
            | else-number-via-else-number w' ↦
                extended-passed change.table firsts change.before change.after own.0 own.1 c.loop-seat.seat c.loop-seat-test.true c.args.parts.now c.loop-seat.parts c.loop-seat.invariant
                c.if-number.parts (λ comes. comes.real (sym c.roll-number.ensures ∙ w'.if-number.false)) w.parts-is
          ]
    ]

pub returns-clause-ok : goal.returns-clause-ok
returns-clause-ok c =
    let change = c.args.change.now in
    on-ok c.number_parts.result
    (extended-all change.table c.args.firsts.now change.before change.after c.loop-seat.seat c.args.parts.now c.loop-seat.parts
    c.loop-seat-test.false c.loop-seat.auto.seat-end c.loop-seat.invariant)

pub returns-clause-part : goal.returns-clause-part
returns-clause-part c = (c.loop-seat.seat, c.loop-seat.auto.seat-end, c.loop-seat.invariant.extended)

pub returns-in_err-grow-clause-part : goal.returns-in_err-grow-clause-part
returns-in_err-grow-clause-part c =
    let change = c.args.change.now in
    extended-refused change.table c.args.firsts.now change.before change.after c.requires.0 c.requires.1 c.loop-seat.seat c.loop-seat-test.true
    c.args.parts.now c.loop-seat.parts c.loop-seat.invariant c.grow.new.parts (list_in change.table c.roll-number.result) c.in_err-grow.ensures.err c.grow.ensures.others

pub returns-in_err-grow-clause-kept : goal.returns-in_err-grow-clause-kept
returns-in_err-grow-clause-kept c = λ part slot is. c.grow.ensures.kept part slot (c.loop-seat.invariant.kept part slot is)
