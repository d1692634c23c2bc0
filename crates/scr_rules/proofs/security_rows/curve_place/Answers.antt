use Rattle.std.proofs.Common.{sym, ◌∙◌}
use Rattle.scr_sheet.specs.BalanceSheet.{curve_name}
use Rattle.scr_rules.proofs.FirstCurve.{first-has}
use Rattle.scr_rules.proofs.security_rows.curve_place.Goals as goal

pub returns-then-eq-clause-there : goal.returns-then-eq-clause-there
returns-then-eq-clause-there c = sym (first-has curve_name c.args.currency.now c.args.sheet.now.curves c.at.result.now c.at.ensures (sym c.eq.ensures ∙ c.if-eq.true))
