use Rattle.std.proofs.Common.{◌<◌, ◌++◌, ◌∷◌, [], ap, arith, length, map, sym, take, ◌∙◌}
use Rattle.std.proofs.lemmas.List.{length-set, map-append}
use Rattle.scr_num.specs.Rounding.{ends}
use Rattle.scr_board.proofs.Figures.{figure-of}
use Rattle.scr_board.proofs.Reading.{same_count}
use Rattle.scr_board.proofs.Rows.{take-past, take-push, take-set}
use Rattle.scr_board.proofs.Shown.{all_counted, each_put, joined_worked, shown}
use Rattle.scr_board.proofs.board.Board.close.Goals as goal

pub close_with-closed-requires : goal.close_with-closed-requires
close_with-closed-requires c = (c.joined-seat.ensures c.requires.done.0 c.requires.done.1).of_board.table

pub free-requires : goal.free-requires
free-requires c =
    let joined = c.joined-seat.ensures c.requires.done.0 c.requires.done.1 in
    let none = joined.of_board.slotless in
    let counts = c.close_with-closed.ensures.counts.1 in
    λ k low. absurd (omega (arith, none, counts, low))

pub returns-clause-each : goal.returns-clause-each
returns-clause-each c = λ round done.
    let joined = c.joined-seat.ensures round done in
    let worked = joined_worked c.args.self round c.args.passes.items c.joined-seat.result _ _ joined c.close_with-closed.ensures.values.2 in
    each_put c.args.self round c.args.passes.items c.joined-seat.result _ joined worked

pub returns-clause-count : goal.returns-clause-count
returns-clause-count c = λ round done.
    let joined = c.joined-seat.ensures round done in
    let worked = joined_worked c.args.self round c.args.passes.items c.joined-seat.result _ _ joined c.close_with-closed.ensures.values.2 in
    all_counted c.args.self round c.args.passes.items c.joined-seat.result _ joined worked

pub figure_at-requires-clause-shown : goal.figure_at-requires-clause-shown
figure_at-requires-clause-shown c =
    let round = c.requires.done.0 in
    let joined = c.joined-seat.ensures round c.requires.done.1 in
    let worked = joined_worked c.args.self round c.args.passes.items c.joined-seat.result _ _ joined c.close_with-closed.ensures.values.2 in
    let more = c.loop-n-test.true in
    let long = c.loop-n.invariant.long in
    let size = c.requires.done.2 in
    let node : c.loop-n.n < length round.places = omega (arith, more, long, size) in
    let figure = figure-of round c.loop-n.n joined.formed node in
    (figure.0, shown round _ _ worked c.loop-n.n figure.0 joined.formed node figure.1)

pub loop-n-preserved : goal.loop-n-preserved
loop-n-preserved c =
    let more = c.loop-n-test.true in
    let long = c.loop-n.invariant.long in
    let size = c.requires.done.2 in
    let out = c.loop-n.out in
    let n = c.loop-n.n in
    let first = c.joined-seat.ensures c.requires.done.0 c.requires.done.1 in
    record {
      shown = λ round done.
          let joined = c.joined-seat.ensures round done in
          let worked = joined_worked c.args.self round c.args.passes.items c.joined-seat.result _ _ joined c.close_with-closed.ensures.values.2 in
          let same = same_count c.requires.done.0 round c.joined-seat.result.me.0.round first.lists joined.lists in
          let node : c.loop-n.n < length round.places = omega (arith, more, long, size, same) in
          let figure = figure-of round n joined.formed node in
          let is = c.figure_at.ensures figure.0 (shown round _ _ worked n figure.0 joined.formed node figure.1) in
          ap (map ends) (take-set out n c.figure_at.result (omega (arith, more)))
          ∙ map-append ends (take n out) (c.figure_at.result ∷ [])
          ∙ ap (λ figures. figures ++ ends c.figure_at.result ∷ []) (c.loop-n.invariant.shown round done)
          ∙ ap (λ e. take n round.worked ++ e ∷ []) is
          ∙ sym (take-push round.worked n figure.0 figure.1);
      long = length-set out n c.figure_at.result ∙ long;
    }

pub returns-clause-worked : goal.returns-clause-worked
returns-clause-worked c = λ round done.
    let joined = c.joined-seat.ensures round done in
    let first = c.joined-seat.ensures c.requires.done.0 c.requires.done.1 in
    let same = same_count c.requires.done.0 round c.joined-seat.result.me.0.round first.lists joined.lists in
    let end = c.loop-n-test.false in
    let long = c.loop-n.invariant.long in
    let size = c.requires.done.2 in
    let count = joined.formed.long in
    ap (map ends) (sym (take-past c.loop-n.out c.loop-n.n (omega (arith, end))))
    ∙ c.loop-n.invariant.shown round done
    ∙ take-past round.worked c.loop-n.n (omega (arith, end, long, size, same, count))
