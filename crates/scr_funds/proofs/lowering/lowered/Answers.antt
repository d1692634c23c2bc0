use Rattle.std.proofs.Common.{sym, subst}
use Rattle.std.proofs.lemmas.Bool.{true≢false}
use Rattle.scr_funds.specs.Edges.{edges_in}
use Rattle.scr_funds.specs.Ranks.{AreLowered}
use Rattle.scr_funds.proofs.Lowered.{lowered_end, lowered_next, none_pending, nothing}
use Rattle.scr_funds.proofs.lowering.lowered.Goals as goal

pub lower-requires-in-Some-clause-before : goal.lower-requires-in-Some-clause-before
lower-requires-in-Some-clause-before c =
    lowered_next (edges_in c.args.edges.now) c.args.edges.now.ranks.now c.loop.lowering.fresh.entries
    c.loop.lowering.pending.keys c.pop_last.new.self.keys (c.in-Some.field-0-0, c.in-Some.fund)
    c.in-Some.ensures.removal (c.loop.invariant c.if-not-is_kept.false)

pub returns-in-None : goal.returns-in-None
returns-in-None c =
    lowered_end (edges_in c.args.edges.now) c.args.edges.now.ranks.now c.loop.lowering.fresh.entries
    (subst (AreLowered (edges_in c.args.edges.now) c.args.edges.now.ranks.now nothing c.loop.lowering.fresh.entries)
    (none_pending c.loop.lowering.pending.keys (λ l. true≢false (sym (c.in-None.ensures.variant.1 l))))
    (c.loop.invariant c.if-not-is_kept.false))
