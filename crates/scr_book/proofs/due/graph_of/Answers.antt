use Rattle.scr_book.proofs.Anew.{sheet_funds_apart}
use Rattle.scr_book.proofs.due.graph_of.Goals as goal

pub put-requires-clause-apart : goal.put-requires-clause-apart
put-requires-clause-apart c = sheet_funds_apart c.args.sheet.now c.requires

pub returns : goal.returns
returns c = record { components = c.in_ok-put.ensures }
