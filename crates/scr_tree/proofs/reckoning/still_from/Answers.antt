use Rattle.std.proofs.Common.{IfSome, subst, arith}
use Rattle.scr_tree.specs.Still.{AreAllWithin}
use Rattle.scr_tree.proofs.Still.{all-still, free-less}
use Rattle.scr_tree.proofs.reckoning.still_from.Goals as goal

pub returns-then-assets : goal.returns-then-assets
returns-then-assets c = record {
  settled = λ row low. absurd (omega (arith, low));
  free = λ kind step low. omega arith;
  still = record {
    few = omega arith;
    left = omega arith;
    come = λ row low. absurd (omega (arith, low));
    each = λ row low. absurd (omega (arith, low));
  };
}

pub returns-then-are_next : goal.returns-then-are_next
returns-then-are_next c = record {
  settled = λ row low. c.if-assets.false;
  free = free-less c.args.assets.now.scale c.free-free.result c.in-Some.most (omega (arith, c.if-most-free.true)) c.free-free.ensures.free;
  still = all-still c.args.figures.now c.in-Some.most c.args.firsts.now c.args.numbers.now (c.are_next.ensures.yes c.if-are_next.true)
      (subst (λ o. IfSome o (AreAllWithin c.args.figures.now c.args.firsts.now)) c.in-Some.is c.requires.ceiling);
}

pub returns : goal.returns
returns c = record {
  settled = λ row low. c.if-assets.false;
  free = free-less c.args.assets.now.scale c.free-free.result _ (omega arith) c.free-free.ensures.free;
  still = c.count_still.ensures.still;
}
