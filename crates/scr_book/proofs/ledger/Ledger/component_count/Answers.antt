use Rattle.std.proofs.Common.{length, ap, ◌∙◌, arith}
use Rattle.std.specs.Option.{option_map_or}
use Rattle.scr_tables.specs.Tables.{row_of}
use Rattle.scr_sheet.specs.BalanceSheet.{stake_name}
use Rattle.scr_sheet.specs.declared.sheet.BalanceSheet.{BalanceSheet}
use Rattle.scr_sheet.proofs.Sums.{stake_components, components-part}
use Rattle.scr_book.proofs.ledger.Ledger.component_count.Goals as goal

pub returns-in-Some-clause-part : goal.returns-in-Some-clause-part
returns-in-Some-clause-part c =
    let count = ap length c.as_slice.ensures in
    let own = ap (λ o. option_map_or stake_components o 0) (c.in-Some.ensures ∙ ap (λ (s : BalanceSheet). row_of stake_name c.args.name.now s.funds) c.sheet.ensures.sheet) in
    omega (arith, count, own, components-part c.args.name.now c.args.self.now)
