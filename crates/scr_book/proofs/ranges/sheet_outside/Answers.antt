use Rattle.std.proofs.Common.{refl, ◌≡◌, ℕ, ◌+◌, ◌-◌, length, true, sym, ap, ◌∙◌, arith, rules, FitsSigned, w64}
use Rattle.std.proofs.lemmas.Int.{to_z-of_z}
use Rattle.std.specs.Option.{option_or, option_map_or}
use Rattle.scr_sheet.specs.CashFlows.{greatest_years}
use Rattle.scr_tables.specs.Tables.{row_of}
use Rattle.scr_sheet.specs.BalanceSheet.{group_name, position_name, stake_name, liability_name, curve_name, components_total}
use Rattle.scr_sheet.specs.Faults.{above}
use Rattle.scr_sheet.specs.declared.sheet.BalanceSheet.{BalanceSheet}
use Rattle.scr_sheet.specs.declared.fault.Quantity.TheVariants as quantities
use Rattle.scr_sheet.specs.declared.keys.Table.TheVariants as tables
use Rattle.scr_profile.specs.declared.limits.TheConstants.{MAX_YEARS, MAX_CURRENCIES, MAX_SECURITIES, MAX_FUNDS, MAX_COMPONENTS, MAX_LIABILITIES, MAX_GROUPS}
use Rattle.scr_sheet.proofs.Preserved.{right_table}
use Rattle.scr_sheet.proofs.Sums.{stake_components}
use Rattle.scr_sheet.proofs.Quiet.{is_quiet, outside-quiet, outside-curve, outside-group, outside-security, outside-fund, outside-liability, outside-flows, outside-hold, outside-bank, outside-rein}
use Rattle.scr_book.proofs.Moved.{right_holding}
use Rattle.scr_book.proofs.Reduced.{first_by_is, above-with, banks-with, reinsurers-with, years-is, both-is}
use Rattle.scr_book.proofs.ranges.sheet_outside.Goals as goal

pub returns-in-Curve : goal.returns-in-Curve
returns-in-Curve c =
    let book = c.args.ledger.now in
    let op = c.in-Curve in
    first_by_is book c.outside_rows.result c.args.edit.now _ op.is
    (λ known kind. c.outside_rows.ensures ∙ above-with quantities.Currencies MAX_CURRENCIES curve_name op.currency _ book.curves (ap (λ (s : BalanceSheet). s.curves) c.sheet-sheet.ensures.sheet)
    ∙ sym (outside-curve book c.sheet-sheet.ensures.valid op.currency op.rates))
    c.requires.known c.requires.kind

pub returns-in-Group : goal.returns-in-Group
returns-in-Group c =
    let book = c.args.ledger.now in
    let op = c.in-Group in
    first_by_is book c.outside_rows-in-Group.result c.args.edit.now _ op.is
    (λ known kind. c.outside_rows-in-Group.ensures ∙ above-with quantities.Groups MAX_GROUPS group_name op.name _ book.groups (ap (λ (s : BalanceSheet). s.groups) c.sheet-sheet.ensures.sheet)
    ∙ sym (outside-group book c.sheet-sheet.ensures.valid op.name op.kind op.step))
    c.requires.known c.requires.kind

pub returns-in-Security : goal.returns-in-Security
returns-in-Security c =
    let book = c.args.ledger.now in
    let op = c.in-Security in
    first_by_is book c.outside_rows-in-Security.result c.args.edit.now _ op.is
    (λ known kind. c.outside_rows-in-Security.ensures ∙ above-with quantities.Securities MAX_SECURITIES position_name op.name _ book.securities (ap (λ (s : BalanceSheet). s.securities) c.sheet-sheet.ensures.sheet)
    ∙ sym (outside-security book c.sheet-sheet.ensures.valid op.name op.class op.group op.currency op.duration))
    c.requires.known c.requires.kind

pub returns-in-Fund : goal.returns-in-Fund
returns-in-Fund c =
    let book = c.args.ledger.now in
    let op = c.in-Fund in
    let old : ℕ = option_map_or stake_components (row_of stake_name op.name book.funds) 0 in
    first_by_is book c.outside_funds.result c.args.edit.now _ op.is
    (λ known kind. c.outside_funds.ensures
    ∙ ap (λ o. option_or o (above quantities.Components (components_total book - old + length op.components) MAX_COMPONENTS)) (above-with quantities.Funds MAX_FUNDS stake_name op.name _ book.funds refl)
    ∙ sym (outside-fund book c.sheet-sheet.ensures.valid op.name op.components))
    c.requires.known c.requires.kind

pub returns-in-Liability : goal.returns-in-Liability
returns-in-Liability c =
    let book = c.args.ledger.now in
    let op = c.in-Liability in
    first_by_is book c.outside_rows-in-Liability.result c.args.edit.now _ op.is
    (λ known kind. c.outside_rows-in-Liability.ensures ∙ above-with quantities.Liabilities MAX_LIABILITIES liability_name op.name _ book.liabilities (ap (λ (s : BalanceSheet). s.liabilities) c.sheet-sheet.ensures.sheet)
    ∙ sym (outside-liability book c.sheet-sheet.ensures.valid op.name op.kind op.currency))
    c.requires.known c.requires.kind

pub returns-in-Hold : goal.returns-in-Hold
returns-in-Hold c =
    let book = c.args.ledger.now in
    let op = c.in-Hold in
    let fits : FitsSigned w64 op.cents = search rules in
    let told = simp to_z-of_z at c.outside_held.ensures in
    first_by_is book c.outside_held.result c.args.edit.now _ op.is
    (λ known kind. told ∙ sym (outside-hold book c.sheet-sheet.ensures.valid op.name op.cents (right_holding op.name book known kind)))
    c.requires.known c.requires.kind

pub returns-in-Absorb : goal.returns-in-Absorb
returns-in-Absorb c =
    let quiet : is_quiet c.args.edit.now ≡ true = grind arith in
    sym (outside-quiet c.args.ledger.now c.sheet-sheet.ensures.valid c.args.edit.now quiet)

pub returns-in-Flows : goal.returns-in-Flows
returns-in-Flows c =
    let book = c.args.ledger.now in
    let op = c.in-Flows in
    let years : c.years.result ≡ greatest_years book.numbers.asof.number op.flows =
    years-is c.years.result c.sheet-sheet.result.now.numbers book.numbers op.flows op.flows c.years.ensures (ap (λ (s : BalanceSheet). s.numbers) c.sheet-sheet.ensures.sheet) refl in
    first_by_is book c.outside_years-in-Flows.result c.args.edit.now _ op.is
    (λ known kind. c.outside_years-in-Flows.ensures ∙ ap (λ (n : ℕ). above quantities.Years n MAX_YEARS) years
    ∙ sym (outside-flows book c.sheet-sheet.ensures.valid op.security op.flows (right_table tables.Security op.security book known kind)))
    c.requires.known c.requires.kind

pub returns-in-Rein : goal.returns-in-Rein
returns-in-Rein c =
    let book = c.args.ledger.now in
    let op = c.in-Rein in
    let fits_recoverables : FitsSigned w64 op.recoverables = search rules in
    let fits_mitigation : FitsSigned w64 op.mitigation = search rules in
    let recoverables = simp to_z-of_z at c.natural.ensures in
    let mitigation = simp to_z-of_z at c.natural-in-Rein.ensures in
    first_by_is book c.outside_rein.result c.args.edit.now _ op.is
    (λ known kind. c.outside_rein.ensures
    ∙ reinsurers-with book op.name _ _ (both-is _ _ _ _ recoverables mitigation)
    ∙ sym (outside-rein book c.sheet-sheet.ensures.valid op.name op.group op.recoverables op.mitigation op.collateral))
    c.requires.known c.requires.kind

pub returns-in-Bank : goal.returns-in-Bank
returns-in-Bank c =
    let book = c.args.ledger.now in
    let op = c.in-Bank in
    let fits : FitsSigned w64 op.cents = search rules in
    let cents = simp to_z-of_z at c.natural-in-Bank.ensures in
    first_by_is book c.outside_bank.result c.args.edit.now _ op.is
    (λ known kind. c.outside_bank.ensures
    ∙ banks-with book op.name _ _ cents
    ∙ sym (outside-bank book c.sheet-sheet.ensures.valid op.name op.group op.cents))
    c.requires.known c.requires.kind
