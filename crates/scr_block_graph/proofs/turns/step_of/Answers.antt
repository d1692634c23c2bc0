use Rattle.std.proofs.Common.{sym, ◌∙◌}
use Rattle.std.specs.List.{position_or_len}
use Rattle.scr_tables.specs.Names.{same_name}
use Rattle.scr_sheet.specs.Members.{edit_name}
use Rattle.scr_block_graph.specs.Books.{rolled_of}
use Rattle.scr_block_graph.specs.Graph.{roll_in}
use Rattle.scr_block_graph.specs.Sums.{roll_of}
use Rattle.scr_block_graph.proofs.Answered.{named-step}
use Rattle.scr_block_graph.proofs.Laters.{applied-after, is-named-change, name-is, unnamed-stays}
use Rattle.scr_block_graph.proofs.turns.step_of.Goals as goal

pub named_step-requires : goal.named_step-requires
named_step-requires c = is-named-change c.args.edit.now c.args.book.now.sheet c.args.change.now c.requires

pub returns-in-Some : goal.returns-in-Some
returns-in-Some c =
    let edit = c.args.edit.now in
    let sheet = c.args.book.now.sheet in
    c.named_step.ensures.step
    ∙ named-step edit sheet c.args.change.now c.args.sum.now (roll_in (rolled_of c.args.book.now) c.args.sum.now) c.in-Some.name
    (name-is edit c.in-Some.name (sym c.row_name.ensures ∙ c.in-Some.is))
    (applied-after edit sheet c.args.change.now c.named_step.ensures.valid c.requires)

pub returns-in-None : goal.returns-in-None
returns-in-None c =
    unnamed-stays c.args.edit.now c.args.book.now.sheet (roll_of c.args.sum.now)
    (position_or_len (same_name (edit_name c.args.edit.now)) (roll_in (rolled_of c.args.book.now) c.args.sum.now))
    (sym c.row_name.ensures ∙ c.in-None.is)
