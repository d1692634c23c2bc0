use Rattle.std.proofs.Common.{refl, ◌≡◌, ℕ, ◌+◌, ◌-◌, sym, ap, ◌∙◌}
use Rattle.std.specs.Option.{option_or, option_map_or}
use Rattle.scr_sheet.specs.CashFlows.{total, greatest_years}
use Rattle.scr_tables.specs.Tables.{row_of}
use Rattle.scr_sheet.specs.BalanceSheet.{liability_name, liability_flows_total}
use Rattle.scr_sheet.specs.Faults.{above}
use Rattle.scr_sheet.specs.declared.sheet.BalanceSheet.{BalanceSheet}
use Rattle.scr_sheet.specs.declared.fault.Quantity.TheVariants as quantities
use Rattle.scr_sheet.specs.declared.keys.Table.TheVariants as tables
use Rattle.scr_profile.specs.declared.limits.TheConstants.{MAX_LIABILITY_FLOWS, MAX_YEARS}
use Rattle.scr_sheet.proofs.Bounds.{neither}
use Rattle.scr_sheet.proofs.Preserved.{right_table}
use Rattle.scr_sheet.proofs.Sums.{liability_total}
use Rattle.scr_sheet.proofs.Quiet.{outside-liability_flows}
use Rattle.scr_book.proofs.Reduced.{first_by_is, years-is}
use Rattle.scr_book.proofs.ranges.outside_projection.Goals as goal

pub returns-in-LiabilityFlows : goal.returns-in-LiabilityFlows
returns-in-LiabilityFlows c =
    let book = c.args.ledger.now in
    let op = c.in-LiabilityFlows in
    let years : c.years.result ≡ greatest_years book.numbers.asof.number op.flows =
    years-is c.years.result c.sheet.result.now.numbers book.numbers op.flows op.flows c.years.ensures (ap (λ (s : BalanceSheet). s.numbers) c.sheet.ensures.sheet) refl in
    first_by_is book c.first_of.result c.args.edit.now _ op.is
    (λ known kind. c.first_of.ensures ∙ ap (λ o. option_or o c.outside_years.result) c.outside_liability_flows-total.ensures
    ∙ ap (λ o. option_or (above quantities.LiabilityFlows (liability_flows_total op.projection book - option_map_or (liability_total op.projection) (row_of liability_name op.liability book.liabilities) 0 + total op.flows) MAX_LIABILITY_FLOWS) o)
    (c.outside_years.ensures ∙ ap (λ (n : ℕ). above quantities.Years n MAX_YEARS) years)
    ∙ sym (outside-liability_flows book c.sheet.ensures.valid op.liability op.projection op.flows (right_table tables.Liability op.liability book known (neither _ _ kind).0)))
    c.requires.known c.requires.kind
