-- What is held of each security and fund of a balance sheet, directly and through funds (Article 84 of Delegated Regulation
-- (EU) 2015/35), in cents.
use Rattle.std.specs.Prelude.{ℕ, List, map, sum_by, if◌then◌else◌}
use Rattle.scr_funds.specs.LookThrough.{Shared, part_in, total}
use Rattle.scr_tables.specs.Names.{same_name}
use Rattle.scr_sheet.specs.BalanceSheet.{held_of}
use Rattle.scr_sheet.specs.declared.{sheet.BalanceSheet.BalanceSheet, rows.Stake.Stake}
use Rattle.scr_sheet.specs.Members.{is_closed}
use Rattle.scr_sheet.specs.Records.{natural}

-- a fund's name, and its components with their weights
abbrev pub shared : Stake → Shared (List ℕ)
shared stake = (stake.fund.name, map (λ c. (c.0, natural c.1)) stake.fund.components)

abbrev pub shared_funds : BalanceSheet → List (Shared (List ℕ))
shared_funds sheet = map shared sheet.funds

abbrev pub total_of : BalanceSheet → List ℕ → ℕ
total_of sheet name = total same_name (held_of sheet) (shared_funds sheet) name

-- the parts of a name in the totals of all funds
abbrev pub parts_of_funds : BalanceSheet → List ℕ → ℕ
parts_of_funds sheet name = sum_by (λ s. part_in same_name (total_of sheet s.fund.name) (shared s).1 name) sheet.funds

-- all closed funds together
abbrev pub closed_total : BalanceSheet → ℕ
closed_total sheet = sum_by (λ s. if is_closed s then total_of sheet s.fund.name else 0) sheet.funds

-- all securities together
abbrev pub securities_total : BalanceSheet → ℕ
securities_total sheet = sum_by (λ p. total_of sheet p.security.name) sheet.securities
