use Rattle.std.proofs.Common.{◌∙◌, ap, arith, replicate}
use Rattle.scr_subgraph.proofs.Entering.{adding_done, adding_none}
use Rattle.scr_subgraph.proofs.round.counts_of.Goals as goal

pub loop-place-init : goal.loop-place-init
loop-place-init c = adding_none c.args.slots.now c.in_ok-counts.counts.items (c.in_ok-counts.ensures ∙ ap (λ n. replicate n 0) c.len.ensures)

pub returns : goal.returns
returns c = adding_done c.args.slots.now c.loop-place.counts.items c.loop-place.place (omega arith) c.loop-place.invariant
