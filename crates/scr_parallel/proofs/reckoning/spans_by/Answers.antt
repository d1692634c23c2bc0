use Rattle.std.proofs.Common.{◌++◌, length, map, drop, take, refl, ap, sym, subst, ◌∙◌, arith}
use Rattle.std.specs.List.{AllByRecursion}
use Rattle.std.proofs.lemmas.List.{length-map, take_at}
use Rattle.scr_reachability.specs.declared.ranks.Due.{Due}
use Rattle.scr_num.specs.Rounding.{ends}
use Rattle.scr_board.specs.Closing.{AreDone}
use Rattle.scr_board.specs.Working.{IsDone}
use Rattle.scr_parallel.specs.Workable.{IsGraphOf, round_for}
use Rattle.scr_parallel.specs.DueForming.{places-count}
use Rattle.scr_parallel.proofs.reckoning.spans_by.Goals as goal

pub close-requires : goal.close-requires
close-requires g c =
    let worked = g.P.Plan.worked c.args.plan.now in
    let round = round_for worked c.args.dues.now c.in_ok-round.round in
    let is : IsGraphOf (g.P.Plan.is_known c.args.plan.now) (g.P.Plan.is_due c.args.plan.now) c.args.dues.now c.in_ok-round.round =
    record { workable = c.requires.due; of = c.in_ok-round.ensures; few = c.if-not-are_few.ensures.dues refl; few_sources = c.if-not-are_few.ensures.sources refl } in
    let back = take_at c.work.new.passes (drop (length c.work.new.passes) c.in_ok-board.passes.items) c.in_ok-board.passes.len
    (c.work.ensures.count ∙ c.as_mut_slice.ensures.len) in
    let room = c.as_mut_slice-2.ensures.len in
    let long = c.in_ok-resize.ensures.len in
    let count = places-count worked (g.P.Plan.is_known c.args.plan.now) (g.P.Plan.is_due c.args.plan.now) c.args.dues.now c.in_ok-round.round is in
    record {
      done = (
        round,
        record {
          each = subst (AllByRecursion (IsDone c.in_ok-board.board round)) (sym back) c.work.ensures.end;
          count = ap length back ∙ c.work.ensures.count ∙ ap length c.as_mut_slice.ensures.value ∙ c.in_ok-board.ensures.count
              ∙ sym c.in_ok-board.ensures.workers;
        },
        omega (arith, room, count, long),
      );
    }

pub returns : goal.returns
returns g c =
    let worked = g.P.Plan.worked c.args.plan.now in
    let round = round_for worked c.args.dues.now c.in_ok-round.round in
    let back = take_at c.work.new.passes (drop (length c.work.new.passes) c.in_ok-board.passes.items) c.in_ok-board.passes.len
    (c.work.ensures.count ∙ c.as_mut_slice.ensures.len) in
    let done : AreDone c.in_ok-board.board round (take c.in_ok-board.passes.len (c.work.new.passes ++ drop (length c.work.new.passes) c.in_ok-board.passes.items)) = record {
      each = subst (AllByRecursion (IsDone c.in_ok-board.board round)) (sym back) c.work.ensures.end;
      count = ap length back ∙ c.work.ensures.count ∙ ap length c.as_mut_slice.ensures.value ∙ c.in_ok-board.ensures.count
          ∙ sym c.in_ok-board.ensures.workers;
    } in
    let out = c.close.ensures.worked round done in
    let found = ap length out in
    let a = length-map c.close.new.out ends in
    let b = length-map c.args.dues.now (λ (due : Due). worked due.number) in
    let long = c.in_ok-resize.ensures.len in
    let room = take_at c.close.new.out (drop (length c.close.new.out) c.resize.new.self.items) c.resize.new.self.len (omega (arith, found, a, b, long)) in
    ap (map ends) room ∙ out
