use Rattle.std.proofs.Common.{◌++◌, ◌∷◌, [], length, sym, ap, subst, ◌∙◌, arith}
use Rattle.std.specs.Prelude.{option_to_list}
use Rattle.std.specs.List.{AllByRecursion}
use Rattle.scr_board.proofs.Rows.{popped_none}
use Rattle.scr_parallel.specs.Apart.{apart_round}
use Rattle.scr_parallel.specs.PieceForming.{long-places}
use Rattle.scr_parallel.specs.Hands.{AreSorted, HasEnded}
use Rattle.scr_parallel.specs.Rows.{row, times_row}
use Rattle.scr_parallel.proofs.Counted.{all-once, put-once}
use Rattle.scr_parallel.proofs.Drawn.{sorted-next}
use Rattle.scr_parallel.proofs.Pushed.{each-first, long-push}
use Rattle.scr_parallel.proofs.hands.parts_of.Goals as goal

pub loop-hand-preserved : goal.loop-hand-preserved
loop-hand-preserved g c =
    let count = g.P.RowPlan.count c.args._plan.now in
    let is_row = g.P.RowPlan.is_row c.args._plan.now in
    let pieces = c.args.pieces.now in
    let items = c.pop.ensures.items ∙ ap (λ o. c.pop.new.self.items ++ option_to_list o) c.in-Some.is in
    let ended = each-first (HasEnded c.args.board count is_row pieces) c.pop.new.self.items c.in-Some.hand
    (subst (AllByRecursion (HasEnded c.args.board count is_row pieces)) items c.loop-hand.invariant.left) in
    let put = c.in_ok-push.ensures.items in
    let told = c.in_ok-push-2.ensures.items in
    let popped = long-push c.pop.new.self.items c.loop-hand.hands.items c.in-Some.hand items in
    let longer = long-push c.loop-hand.passes.items c.push.new.self.items c.in-Some.hand.pass put in
    let sum = c.loop-hand.invariant.count in
    record {
      sorted = subst (λ ps. AreSorted c.args.board count is_row pieces ps c.push-in-Some.new.self.items) (sym put)
          (subst (AreSorted c.args.board count is_row pieces (c.loop-hand.passes.items ++ c.in-Some.hand.pass ∷ [])) (sym told)
          (sorted-next count is_row pieces c.args.board c.loop-hand.passes.items c.loop-hand.parts.items c.in-Some.hand
          c.loop-hand.invariant.sorted ended.1 c.if-full.false));
      left = ended.0;
      count = omega (arith, popped, longer, sum);
    }

pub close-requires : goal.close-requires
close-requires g c =
    let many = length c.args.pieces.now in
    let none = (popped_none c.pop.result _ _ c.in_default.is c.pop.ensures.cases).0 in
    let ok = c.loop-hand.hands.ok in
    let sum = c.loop-hand.invariant.count in
    let places = long-places many in
    let room = ap (λ xs. length xs) c.as_mut_slice.ensures.value in
    let full = c.resize.new.self.ok in
    let resized = c.in_ok-resize.ensures.len in
    record {
      done = (
        apart_round many,
        record { each = c.loop-hand.invariant.sorted.done; count = omega (arith, none, ok, sum) },
        omega (arith, places, room, full, resized),
      );
    }

pub returns : goal.returns
returns g c =
    let pieces = c.args.pieces.now in
    let many = length pieces in
    let none = (popped_none c.pop.result _ _ c.in_default.is c.pop.ensures.cases).0 in
    let ok = c.loop-hand.hands.ok in
    let sum = c.loop-hand.invariant.count in
    record {
      each = c.loop-hand.invariant.sorted.each;
      within = c.loop-hand.invariant.sorted.within;
      once = λ sort place low.
          c.loop-hand.invariant.sorted.rows (row sort place)
          ∙ put-once c.args.board (apart_round many) pieces c.loop-hand.passes.items (row sort place) (long-places many)
          c.loop-hand.invariant.sorted.done
          (c.close.ensures.each (apart_round many) (record { each = c.loop-hand.invariant.sorted.done; count = omega (arith, none, ok, sum) }))
          (ap (times_row (row sort place)) c.requires.pieces.rows_are ∙ all-once (g.P.RowPlan.count c.args._plan.now) sort place low);
    }
