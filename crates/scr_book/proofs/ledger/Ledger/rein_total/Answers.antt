use Rattle.std.proofs.Common.{◌≡◌, ◌+◌, ap, ◌∙◌, arith}
use Rattle.std.specs.Option.{option_map_or}
use Rattle.scr_tables.specs.Tables.{row_of}
use Rattle.scr_sheet.specs.BalanceSheet.{rein_name}
use Rattle.scr_sheet.specs.declared.sheet.BalanceSheet.{BalanceSheet}
use Rattle.scr_sheet.proofs.Sums.{rein_total, defaults-part_rein}
use Rattle.scr_book.proofs.ledger.Ledger.rein_total.Goals as goal

own : (c : goal.In-Some) → c.in-Some.rein.now.recoverables + c.in-Some.rein.now.mitigation ≡ option_map_or rein_total (row_of rein_name c.args.name.now c.args.self.now.reinsurers) 0
own c = ap (λ o. option_map_or rein_total o 0) (c.in-Some.ensures ∙ ap (λ (s : BalanceSheet). row_of rein_name c.args.name.now s.reinsurers) c.sheet.ensures.sheet)

pub overflow_add-result : goal.overflow_add-result
overflow_add-result c = omega (arith, own c, defaults-part_rein c.args.name.now c.args.self.now, c.sheet.ensures.valid.within.defaults)

pub returns-in-Some-clause-part : goal.returns-in-Some-clause-part
returns-in-Some-clause-part c = omega (arith, own c, defaults-part_rein c.args.name.now c.args.self.now)
