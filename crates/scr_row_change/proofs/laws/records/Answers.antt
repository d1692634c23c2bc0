use Rattle.std.proofs.Common.{sym}
use Rattle.scr_row_change.proofs.AsExchanged.{as-change, named-change}
use Rattle.scr_row_change.proofs.laws.records.Goals as goal

pub returns-clause-made : goal.returns-clause-made
returns-clause-made c = λ edit sheet valid. sym (as-change edit sheet valid)

pub returns-clause-named : goal.returns-clause-named
returns-clause-named c = λ edit sheet. named-change edit sheet
