use Rattle.std.proofs.Common.{ap, sym, ◌∙◌}
use Rattle.scr_subgraph.specs.Slots.{slot_or}
use Rattle.scr_subgraph.proofs.Entering.{slot-looked_up}
use Rattle.scr_subgraph.proofs.round.slot_at.Goals as goal

pub returns-in-Some : goal.returns-in-Some
returns-in-Some c =
    sym (ap (slot_or c.args.source) c.in-Some.is)
    ∙ slot-looked_up c.args.places.now.list c.args.source c.place_of.result c.place_of.ensures.there c.place_of.ensures.only

pub returns-in-None : goal.returns-in-None
returns-in-None c =
    sym (ap (slot_or c.args.source) c.in-None.is)
    ∙ slot-looked_up c.args.places.now.list c.args.source c.place_of.result c.place_of.ensures.there c.place_of.ensures.only
