use Rattle.std.proofs.Common.{sym, ◌∙◌}
use Rattle.scr_book.proofs.NoFault.{none_if, within}
use Rattle.scr_book.proofs.ranges.is_within.Goals as goal

pub returns-then-gives_within : goal.returns-then-gives_within
returns-then-gives_within c is =
    within c.args.edit.now c.args.ledger.now (c.gives_within.ensures c.if-gives_within.true)
    (sym c.sheet_outside.ensures ∙ none_if c.sheet_outside.result c.is_none.result c.is_none.ensures is)
