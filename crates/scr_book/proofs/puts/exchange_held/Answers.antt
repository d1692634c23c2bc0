use Rattle.std.proofs.Common.{◌≡◌, ◌&&◌, false, is_some, Option, Some, None, sym, ap, ◌∙◌, arith, rules}
use Rattle.std.specs.Option.{option_map_or}
use Rattle.scr_tables.specs.Tables.{row_of, has_row, with_row, changed}
use Rattle.scr_sheet.specs.BalanceSheet.{position_name, stake_name, is_in}
use Rattle.scr_sheet.specs.declared.keys.Table.TheVariants as tables
use Rattle.scr_sheet.specs.declared.rows.Stake.{Stake}
use Rattle.scr_sheet.proofs.Sums.{in_one_table}
use Rattle.scr_book.proofs.Moved.{none_there}
use Rattle.scr_book.proofs.Applied.{changed-from}
use Rattle.scr_book.proofs.puts.exchange_held.Goals as goal

found : (c : goal.After-change-2) → row_of position_name c.args.name.now c.args.sheet.now.securities ≡ Some c.in-Some.position.now
found c = sym c.in-Some.ensures

-- a name that a security has is no fund's
absent : (c : goal.After-change-2) → row_of stake_name c.args.name.now c.args.sheet.now.funds ≡ None
absent c =
    let fund : has_row stake_name c.args.name.now c.args.sheet.now.funds ≡ false =
    sym (ap (λ o. is_some o && is_in tables.Fund c.args.name.now c.args.sheet.now) (found c)) ∙ in_one_table c.args.sheet.now c.requires c.args.name.now in
    none_there stake_name c.args.name.now c.args.sheet.now.funds fund

pub returns-clause-was : goal.returns-clause-was
returns-clause-was c =
    let security : option_map_or (λ p. p.held) (row_of position_name c.args.name.now c.args.sheet.now.securities) 0 ≡ c.in-Some.position.now.held = ap (λ o. option_map_or (λ p. p.held) o 0) (found c) in
    let fund : option_map_or (λ s. s.held) (row_of stake_name c.args.name.now c.args.sheet.now.funds) 0 ≡ 0 = ap (λ o. option_map_or (λ s. s.held) o 0) (absent c) in
    omega (arith, security, fund)

pub returns-clause-is : goal.returns-clause-is
returns-clause-is c =
    let sheet = c.args.sheet.now in
    let written : c.change-2.new.self ≡ changed position_name (λ p. record p { held = c.args.held }) c.args.name.now sheet.securities =
    changed-from position_name (λ p. record p { held = c.args.held }) _ c.args.name.now sheet.securities c.change-2.new.self (λ old new ran. search rules) c.change-2.ensures in
    let same : changed stake_name (λ s. record s { held = c.args.held }) c.args.name.now sheet.funds ≡ sheet.funds =
    ap (λ (o : Option Stake). option_map_or (λ row. with_row stake_name (record row { held = c.args.held }) sheet.funds) o sheet.funds) (absent c) in
    ap (λ rows. record sheet { securities = rows }) written
    ∙ ap (λ rows. record sheet { securities = changed position_name (λ p. record p { held = c.args.held }) c.args.name.now sheet.securities; funds = rows }) (sym same)
