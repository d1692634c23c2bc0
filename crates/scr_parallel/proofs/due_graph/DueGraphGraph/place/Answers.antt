use Rattle.std.proofs.Common.{Some, ap, sym, ◌∙◌}
use Rattle.std.specs.Option.{option_map}
use Rattle.scr_board.specs.BoardRounds.{Fixed}
use Rattle.scr_parallel.specs.Workable.{spot_for}
use Rattle.scr_parallel.proofs.Slotted.{slot-known, spots-at}
use Rattle.scr_parallel.proofs.due_graph.DueGraphGraph.place.Goals as goal

pub known-requires : goal.known-requires
known-requires g c =
    slot-known (g.P.Plan.worked c.args.self.now.plan.now) (g.P.Plan.is_known c.args.self.now.plan.now) (g.P.Plan.is_due c.args.self.now.plan.now)
    c.args.self.now.dues.now c.args.self.now.round.now c.requires.graph c.args.n c.args.k c.in-Kept.number
    (sym c.slot.ensures ∙ c.in_ok-number.was ∙ ap Some c.in-Kept.is)

pub returns-in-Kept : goal.returns-in-Kept
returns-in-Kept g c =
    ap (λ e. Some (Fixed e)) c.known.ensures
    ∙ sym (spots-at (g.P.Plan.worked c.args.self.now.plan.now) c.args.self.now.round.now.slots c.args.n c.args.k
    ∙ ap (option_map (spot_for (g.P.Plan.worked c.args.self.now.plan.now))) (sym c.slot.ensures ∙ c.in_ok-number.was ∙ ap Some c.in-Kept.is))

pub returns-in-Due : goal.returns-in-Due
returns-in-Due g c =
    sym (spots-at (g.P.Plan.worked c.args.self.now.plan.now) c.args.self.now.round.now.slots c.args.n c.args.k
    ∙ ap (option_map (spot_for (g.P.Plan.worked c.args.self.now.plan.now))) (sym c.slot.ensures ∙ c.in_ok-number.was ∙ ap Some c.in-Due.is))
