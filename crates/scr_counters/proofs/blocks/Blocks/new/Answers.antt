use Rattle.std.proofs.Common.{rules}
use Rattle.scr_counters.proofs.Seats.{seats-made, counts-made}
use Rattle.scr_counters.proofs.blocks.Blocks.new.Goals as goal

pub invariant_of-result : goal.invariant_of-result
invariant_of-result c = seats-made _ _ (c.in_ok-seats.ensures.items_if_clones_equal (λ y k. search rules)) c.in_ok-counts.ensures.items _ c.in_ok-counts.ensures.capacity

pub returns : goal.returns
returns c block place = counts-made _ _ (c.in_ok-seats.ensures.items_if_clones_equal (λ y k. search rules)) c.in_ok-counts.ensures.items block place
