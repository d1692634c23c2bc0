use Rattle.std.proofs.Common.{◌∙◌}
use Rattle.std.specs.List.{position_or_len}
use Rattle.scr_tables.specs.Names.{same_name}
use Rattle.scr_row_change.specs.Changes.{after}
use Rattle.scr_block_graph.specs.Books.{rolled_of}
use Rattle.scr_block_graph.specs.Graph.{roll_in}
use Rattle.scr_block_graph.proofs.Answered.{step-joined, step-left}
use Rattle.scr_block_graph.proofs.turns.named_step.Goals as goal

pub returns-in-Some-clause-step : goal.returns-in-Some-clause-step
returns-in-Some-clause-step c =
    c.left.ensures
    ∙ step-left c.args.book.now c.args.sum.now c.args.name.now (after c.args.change.now c.args.book.now.sheet) c.roll.result c.roll.ensures c.place.result
    c.place.ensures.place c.place.ensures.member c.is_later-is.result c.is_later-is.ensures.is c.in-Some.place c.in-Some.is

pub returns-in-None-clause-step : goal.returns-in-None-clause-step
returns-in-None-clause-step c =
    let at = position_or_len (same_name c.args.name.now) (roll_in (rolled_of c.args.book.now) c.args.sum.now) in
    c.joined.ensures at
    ∙ step-joined c.args.book.now c.args.sum.now c.args.name.now (after c.args.change.now c.args.book.now.sheet) c.roll.result c.roll.ensures c.place.result
    c.place.ensures.place c.place.ensures.member c.is_later-is.result c.is_later-is.ensures.is c.in-None.is at
