use Rattle.std.proofs.Common.{◌++◌, length, refl, sym, ap, subst, ◌∙◌, arith}
use Rattle.std.specs.Prelude.{option_to_list}
use Rattle.std.specs.List.{AllByRecursion}
use Rattle.scr_board.specs.Working.{IsFresh}
use Rattle.scr_parallel.specs.Apart.{apart_round}
use Rattle.scr_parallel.specs.Hands.{IsOpen}
use Rattle.scr_parallel.proofs.Pushed.{each-first, each-push, long-push}
use Rattle.scr_parallel.proofs.hands.hands_of.Goals as goal

pub loop-pass-preserved : goal.loop-pass-preserved
loop-pass-preserved c =
    let items = c.pop.ensures.items ∙ ap (λ o. c.pop.new.self.items ++ option_to_list o) c.in-Some.is in
    let pushed = c.in_ok-push.ensures.items in
    let popped = long-push c.pop.new.self.items c.loop-pass.passes.items c.in-Some.pass items in
    let longer = long-push c.loop-pass.hands.items c.push.new.self.items _ pushed in
    let count = c.loop-pass.invariant.count in
    record {
      count = omega (arith, popped, longer, count);
      fresh = λ board pieces all.
          (each-first (IsFresh board (apart_round (length pieces))) c.pop.new.self.items c.in-Some.pass
          (subst (AllByRecursion (IsFresh board (apart_round (length pieces)))) items (c.loop-pass.invariant.fresh board pieces all))).0;
      open_now = λ board pieces all.
          subst (AllByRecursion (IsOpen board pieces)) (sym pushed)
          (each-push (IsOpen board pieces) c.loop-pass.hands.items _ (c.loop-pass.invariant.open_now board pieces all)
          (record {
            fresh = (each-first (IsFresh board (apart_round (length pieces))) c.pop.new.self.items c.in-Some.pass
                (subst (AllByRecursion (IsFresh board (apart_round (length pieces)))) items (c.loop-pass.invariant.fresh board pieces all))).1;
            no_pieces = c.new.ensures.items;
            no_spans = c.new-in-Some.ensures.items;
            not_full = refl;
          }));
    }
