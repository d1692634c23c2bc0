use Rattle.std.proofs.Common.{true, ap, subst, sym}
use Rattle.scr_funds.specs.Inside.{IsRankedOrder}
use Rattle.scr_funds.specs.Search.{rows_of}
use Rattle.scr_funds.proofs.Ranked.{order_ranked-none}
use Rattle.scr_funds.proofs.order.FundOrder.new.Goals as goal

pub invariant_of-result : goal.invariant_of-result
invariant_of-result c =
    subst (λ all. IsRankedOrder all c.new-2.result.items c.new-3.result.items true)
    (ap rows_of (sym c.new.ensures.items)) (order_ranked-none c.new-2.result.items c.new-3.result.items true)
