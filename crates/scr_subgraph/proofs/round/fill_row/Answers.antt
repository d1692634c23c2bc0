use Rattle.std.proofs.Common.{◌++◌, ◌∷◌, [], ◌∙◌, ap, arith, get_or}
use Rattle.scr_reachability.proofs.Members.{next_of}
use Rattle.scr_subgraph.specs.Slots.{slot_of}
use Rattle.scr_subgraph.proofs.Entering.{mapped_done, mapped_next}
use Rattle.scr_subgraph.proofs.round.fill_row.Goals as goal

pub loop-source-preserved : goal.loop-source-preserved
loop-source-preserved c =
    mapped_next (slot_of c.args.places.now.list) c.args.sources.now c.loop-source.row.items c.push.new.self.items
    c.loop-source.source-index (get_or c.args.sources.now c.loop-source.source-index 0) c.loop-source.invariant
    (next_of c.args.sources.now c.loop-source.source-index (omega arith))
    (c.in_ok-push.ensures.items ∙ ap (λ slot. c.loop-source.row.items ++ slot ∷ []) c.slot_at.ensures)

pub returns : goal.returns
returns c =
    mapped_done (slot_of c.args.places.now.list) c.args.sources.now c.loop-source.row.items c.loop-source.source-index
    (omega arith) c.loop-source.invariant
