-- What is held of securities and of closed funds, directly and through funds, in cents (Articles 84 and 168 of Delegated
-- Regulation (EU) 2015/35).
use Rattle.std.specs.Prelude.{ℕ, ◌+◌, List, sum_by, if◌then◌else◌}
use Rattle.scr_sheet.specs.declared.sheet.BalanceSheet.{BalanceSheet}
use Rattle.scr_sheet.specs.Totals.{total_of, closed_total}
use Rattle.scr_sheet.specs.declared.rows.Class.{Class}
use Rattle.scr_sheet.specs.declared.rows.Class.TheVariants as classes
use Rattle.scr_sheet.specs.declared.rows.Group.{Group}
use Rattle.scr_sheet.specs.declared.rows.Position.{Position}
use Rattle.scr_sheet.specs.declared.rows.Stake.{Stake}
use Rattle.scr_conc.specs.Concentration.{Exposure}
use Rattle.scr_nodes.specs.Rows.{has_class, is_held_in, is_of_group, has_group}

abbrev pub security_cents : BalanceSheet → Position → ℕ
security_cents sheet position = total_of sheet position.security.name

abbrev pub fund_cents : BalanceSheet → Stake → ℕ
fund_cents sheet stake = total_of sheet stake.fund.name

-- all securities of a class
abbrev pub class_securities_total : Class → BalanceSheet → ℕ
class_securities_total class sheet = sum_by (λ p. if has_class class p then security_cents sheet p else 0) sheet.securities

-- all that counts in a class: closed funds count as type 2 equities (Article 168(3))
abbrev pub class_total : Class → BalanceSheet → ℕ
class_total classes.Type2Equity sheet = class_securities_total classes.Type2Equity sheet + closed_total sheet
class_total class sheet = class_securities_total class sheet

-- all securities in a currency; a closed fund counts as held in the reporting currency (this project's own)
unfoldable pub assets_in : List ℕ → BalanceSheet → ℕ
assets_in currency sheet = sum_by (λ p. if is_held_in currency p then security_cents sheet p else 0) sheet.securities

-- what is exposed to a group, and to all groups together: the assets of which concentrations are measured, where the base of
-- Article 184(2) is wider, and closed funds stand outside (both this project's own)
unfoldable pub group_cents : BalanceSheet → List ℕ → ℕ
group_cents sheet name = sum_by (λ p. if is_of_group name p then security_cents sheet p else 0) sheet.securities

unfoldable pub assets_cents : BalanceSheet → ℕ
assets_cents sheet = sum_by (λ p. if has_group p then security_cents sheet p else 0) sheet.securities

abbrev pub exposure_to : BalanceSheet → Group → Exposure
exposure_to sheet group = record { cents = group_cents sheet group.name; kind = group.kind; step = group.step }
