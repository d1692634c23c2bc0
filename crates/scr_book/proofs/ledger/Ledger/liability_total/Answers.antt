use Rattle.std.proofs.Common.{sym, ap, ◌∙◌, arith}
use Rattle.scr_tables.specs.Tables.{row_of}
use Rattle.scr_sheet.specs.BalanceSheet.{liability_name}
use Rattle.scr_sheet.specs.CashFlows.{total}
use Rattle.scr_sheet.specs.declared.sheet.BalanceSheet.{BalanceSheet}
use Rattle.scr_sheet.proofs.Sums.{liability_flows-part}
use Rattle.scr_book.proofs.ledger.Ledger.liability_total.Goals as goal

pub overflow_cast-result : goal.overflow_cast-result
overflow_cast-result c =
    let found = sym (c.in-Some.ensures ∙ ap (λ (s : BalanceSheet). row_of liability_name c.args.name.now s.liabilities) c.sheet.ensures.sheet) in
    let part = liability_flows-part c.args.projection c.args.name.now c.args.self.now c.in-Some.liability.now found in
    omega (arith, part, c.sheet.ensures.valid.within.liability_flows c.args.projection, c.total.ensures.sum, ap total c.under.ensures)

pub returns-in-Some-clause-part : goal.returns-in-Some-clause-part
returns-in-Some-clause-part c =
    let found = sym (c.in-Some.ensures ∙ ap (λ (s : BalanceSheet). row_of liability_name c.args.name.now s.liabilities) c.sheet.ensures.sheet) in
    let part = liability_flows-part c.args.projection c.args.name.now c.args.self.now c.in-Some.liability.now found in
    grind (arith, part, c.total.ensures.sum, ap total c.under.ensures)
