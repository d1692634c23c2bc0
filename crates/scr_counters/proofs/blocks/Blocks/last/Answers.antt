use Rattle.std.proofs.Common.{◌≡◌, List, ℕ, subst, arith}
use Rattle.scr_counters.specs.Blocks.{count_in}
use Rattle.scr_counters.proofs.Seats.{count-past}
use Rattle.scr_counters.proofs.blocks.Blocks.last.Goals as goal

pub loop-block-init : goal.loop-block-init
loop-block-init c block place past =
    subst (λ (blocks : List (List ℕ)). count_in blocks block place ≡ 0) c.self.view_is
    (count-past c.self.inside.seats.items c.self.inside.counts.items block place (omega (arith, past, c.len-block.ensures, c.self.inside.seats.ok.0)))
