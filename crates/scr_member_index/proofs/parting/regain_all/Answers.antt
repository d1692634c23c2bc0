use Rattle.std.proofs.Common.{◌-◌, refl, sym, ◌∙◌, arith}
use Rattle.scr_member_index.proofs.Lost.{back-done, back-one, back-passed, back-start, can-number, one-down}
use Rattle.scr_member_index.proofs.parting.regain_all.Goals as goal

pub loop-seat-init : goal.loop-seat-init
loop-seat-init c = back-start c.args.table c.args.firsts.now c.args.at.now c.args.parts.now 11 refl

pub loop-seat-preserved : goal.loop-seat-preserved
loop-seat-preserved c =
    let table = c.args.table in
    let firsts = c.args.firsts.now in
    let at = c.args.at.now in
    let start = c.args.parts.now in
    let now = c.loop-seat.parts in
    back-passed table firsts at start (c.loop-seat.seat - 1) (omega (arith, c.loop-seat-test.true, c.loop-seat.auto.seat)) now
    (one-down table firsts at start now c.loop-seat.seat c.loop-seat-test.true c.loop-seat.invariant) now
    (sym c.roll-number.ensures ∙ c.if-number.false) refl

pub loop-seat-preserved-then-number : goal.loop-seat-preserved-then-number
loop-seat-preserved-then-number c =
    let table = c.args.table in
    let firsts = c.args.firsts.now in
    let at = c.args.at.now in
    let start = c.args.parts.now in
    let now = c.loop-seat.parts in
    back-one table firsts at start (c.loop-seat.seat - 1) (omega (arith, c.loop-seat-test.true, c.loop-seat.auto.seat)) now
    (one-down table firsts at start now c.loop-seat.seat c.loop-seat-test.true c.loop-seat.invariant) c.regain.new.parts
    c.roll-number.result c.list.result.now c.roll-number.ensures c.if-number.true c.list.ensures c.regain.ensures.slots c.regain.ensures.room

pub regain-requires : goal.regain-requires
regain-requires c =
    let table = c.args.table in
    let firsts = c.args.firsts.now in
    let at = c.args.at.now in
    let start = c.args.parts.now in
    let now = c.loop-seat.parts in
    can-number table firsts at start (c.loop-seat.seat - 1) (omega (arith, c.loop-seat-test.true, c.loop-seat.auto.seat)) now
    (one-down table firsts at start now c.loop-seat.seat c.loop-seat-test.true c.loop-seat.invariant) c.requires.0 c.requires.1
    c.roll-number.result c.list.result.now c.roll-number.ensures c.if-number.true c.list.ensures

pub returns-clause-slots : goal.returns-clause-slots
returns-clause-slots c =
    back-done c.args.table c.args.firsts.now c.args.at.now c.args.parts.now c.loop-seat.seat c.loop-seat.parts
    (omega (arith, c.loop-seat-test.false)) c.loop-seat.invariant
