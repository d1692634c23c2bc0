use Rattle.std.proofs.Common.{length, sym, ap, subst, ◌∙◌}
use Rattle.scr_row_change.specs.Changes.{after}
use Rattle.scr_sheet.specs.Validity.{Valid}
use Rattle.scr_block_graph.specs.Books.{rolled_of}
use Rattle.scr_block_graph.specs.Graph.{reads}
use Rattle.scr_block_graph.specs.Turns.{IsSmall}
use Rattle.scr_block_graph.proofs.Answered.{step-within, turn-is}
use Rattle.scr_block_graph.proofs.Laters.{applied-after, is-named-change}
use Rattle.scr_block_graph.proofs.turns.turn_of.Goals as goal

pub reads_after-requires-clause-valid : goal.reads_after-requires-clause-valid
reads_after-requires-clause-valid c = subst Valid (sym c.sheet-sheet.ensures.sheet) c.sheet-sheet.ensures.valid

pub reads_after-requires-clause-named : goal.reads_after-requires-clause-named
reads_after-requires-clause-named c = is-named-change c.args.edit.now c.args.book.now.sheet c.args.change.now c.requires

pub step_of-requires : goal.step_of-requires
step_of-requires c = c.requires

pub returns-clause-turn : goal.returns-clause-turn
returns-clause-turn c =
    let edit = c.args.edit.now in
    let sum = c.args.sum.now in
    let change = c.args.change.now in
    let own = c.sheet-sheet.ensures.sheet in
    turn-is edit (rolled_of c.args.book.now) sum _ _ _ _
    (c.reads.ensures ∙ ap (λ s. reads s sum) own)
    (c.reads_after.ensures ∙ ap (λ s. reads (after change s) sum) own
    ∙ ap (λ s. reads s sum) (applied-after edit c.args.book.now.sheet change c.sheet-sheet.ensures.valid c.requires))
    (ap length c.members-names.ensures.names)
    c.step_of.ensures

pub returns-clause-small : goal.returns-clause-small
returns-clause-small c =
    let edit = c.args.edit.now in
    let sum = c.args.sum.now in
    let own = c.sheet-sheet.ensures.sheet in
    let is = turn-is edit (rolled_of c.args.book.now) sum _ _ _ _
    (c.reads.ensures ∙ ap (λ s. reads s sum) own)
    (c.reads_after.ensures ∙ ap (λ s. reads (after c.args.change.now s) sum) own
    ∙ ap (λ s. reads s sum) (applied-after edit c.args.book.now.sheet c.args.change.now c.sheet-sheet.ensures.valid c.requires))
    (ap length c.members-names.ensures.names)
    c.step_of.ensures in
    subst IsSmall (sym is)
    (record { few = c.members-names.ensures.few; within = step-within edit (rolled_of c.args.book.now) sum c.members-names.ensures.own })

pub returns-clause-own : goal.returns-clause-own
returns-clause-own c = c.members-names.ensures.own
