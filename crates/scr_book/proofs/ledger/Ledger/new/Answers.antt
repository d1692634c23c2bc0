use Rattle.std.proofs.Common.{refl}
use Rattle.scr_book.proofs.OpeningSheet.{kept-opening}
use Rattle.scr_book.proofs.ledger.Ledger.new.Goals as goal

pub invariant_of-result : goal.invariant_of-result
invariant_of-result c = kept-opening _ c.in_ok-opening.ensures refl c.in_ok-days.ensures c.in_ok-graph.ensures.components
