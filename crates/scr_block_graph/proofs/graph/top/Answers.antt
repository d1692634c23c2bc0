use Rattle.std.proofs.Common.{slice_get, ap, ◌∙◌, arith}
use Rattle.scr_block_graph.specs.Graph.{block_point, member_point}
use Rattle.scr_block_graph.proofs.Placed.{at-firsts, at-members, at-seconds}
use Rattle.scr_block_graph.proofs.graph.top.Goals as goal

pub returns-then-firsts-eq0 : goal.returns-then-firsts-eq0
returns-then-firsts-eq0 c =
    let sum = c.args.sum.now in
    c.member_at.ensures
    ∙ ap (λ list. slice_get list c.args.place)
    (at-members (member_point sum) (block_point sum) _ _ c.members-names.ensures.names _ _ c.blocks_at-firsts.ensures c.blocks_at-seconds.ensures c.if-firsts-eq0.true)

pub returns-then-seconds-eq0 : goal.returns-then-seconds-eq0
returns-then-seconds-eq0 c =
    let sum = c.args.sum.now in
    let some = c.if-firsts-eq0.false in
    c.block_at.ensures
    ∙ ap (λ list. slice_get list c.args.place)
    (at-firsts (member_point sum) (block_point sum) _ _ c.members-names.ensures.names _ _ c.blocks_at-firsts.ensures c.blocks_at-seconds.ensures (omega (arith, some)) c.if-seconds-eq0.true)

pub returns-else-seconds-eq0 : goal.returns-else-seconds-eq0
returns-else-seconds-eq0 c =
    let sum = c.args.sum.now in
    let some = c.if-firsts-eq0.false in
    let more = c.if-seconds-eq0.false in
    c.block_at-else-seconds-eq0.ensures
    ∙ ap (λ list. slice_get list c.args.place)
    (at-seconds (member_point sum) (block_point sum) _ _ c.members-names.ensures.names _ _ c.blocks_at-firsts.ensures c.blocks_at-seconds.ensures (omega (arith, some)) (omega (arith, more)))
