use Rattle.std.proofs.Common.{ap, ◌∙◌, arith}
use Rattle.std.specs.Option.{option_map_or}
use Rattle.scr_tables.specs.Tables.{row_of}
use Rattle.scr_sheet.specs.BalanceSheet.{bank_name}
use Rattle.scr_sheet.specs.declared.sheet.BalanceSheet.{BalanceSheet}
use Rattle.scr_sheet.proofs.Sums.{defaults-part_bank}
use Rattle.scr_book.proofs.ledger.Ledger.bank_total.Goals as goal

pub returns-in-Some-clause-part : goal.returns-in-Some-clause-part
returns-in-Some-clause-part c =
    let name = c.args.name.now in
    let own = ap (λ o. option_map_or (λ b. b.cents) o 0) (c.in-Some.ensures ∙ ap (λ (s : BalanceSheet). row_of bank_name name s.banks) c.sheet.ensures.sheet) in
    omega (arith, own, defaults-part_bank name c.args.self.now)
