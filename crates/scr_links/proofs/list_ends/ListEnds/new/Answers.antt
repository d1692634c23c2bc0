-- No list has ends.
use Rattle.std.proofs.Common.{ap, length, arith}
use Rattle.scr_links.proofs.Blocks.{empty-seated, past-none}
use Rattle.scr_links.proofs.list_ends.ListEnds.new.Goals as goal

pub invariant_of-result : goal.invariant_of-result
invariant_of-result c = record {
  seated = empty-seated _ _ c.new.ensures c.new-2.ensures.items;
  blocks = omega (arith, ap length c.new.ensures);
  seats = omega arith;
  ends = omega arith;
  few = omega arith;
}

pub returns : goal.returns
returns c = λ list.
    past-none _ _ (empty-seated _ _ c.new.ensures c.new-2.ensures.items) (omega (arith, ap length c.new.ensures)) list
    (omega (arith, ap length c.new.ensures))
