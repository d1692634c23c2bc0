use Rattle.std.proofs.Common.{sym, ◌∙◌, arith}
use Rattle.scr_agg.proofs.Nets.{net_start, net_step, net_end}
use Rattle.scr_agg.proofs.choice.net_of.Goals as goal

pub loop-i-init : goal.loop-i-init
loop-i-init c = net_start c.args.list.now c.index-list-0.result c.requires

pub loop-i-preserved : goal.loop-i-preserved
loop-i-preserved c = net_step c.args.list.now c.loop-i.i c.loop-i.net c.index-list-i.result c.max-net.result
    (omega arith) c.index-list-i.is (rw (← c.index-list-i.is) at c.max-net.ensures.ends) ∙ c.loop-i.invariant

pub returns : goal.returns
returns c = sym (net_end c.args.list.now c.loop-i.i c.loop-i.net (omega arith)) ∙ c.loop-i.invariant
