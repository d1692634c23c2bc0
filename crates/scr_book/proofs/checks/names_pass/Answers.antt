use Rattle.std.proofs.Common.{sym, ◌∙◌}
use Rattle.scr_book.proofs.NamesInOrder.{in_order-known, in_order-placed}
use Rattle.scr_book.proofs.checks.names_pass.Goals as goal

pub returns-clause-known : goal.returns-clause-known
returns-clause-known c is = in_order-known c.args.edit.now c.args.sheet.now (sym c.are_in_order.ensures ∙ is)

pub returns-clause-kind : goal.returns-clause-kind
returns-clause-kind c is = in_order-placed c.args.edit.now c.args.sheet.now (sym c.are_in_order.ensures ∙ is)
