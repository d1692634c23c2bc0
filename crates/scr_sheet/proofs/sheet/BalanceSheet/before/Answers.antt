use Rattle.std.proofs.Common.{refl, sym, subst}
use Rattle.scr_sheet.specs.CashFlows.{with_flows}
use Rattle.scr_sheet.specs.Earlier.{LeadsBack}
use Rattle.scr_sheet.specs.declared.earlier.Earlier.TheVariants as earlier
use Rattle.scr_sheet.specs.declared.edit.Edit.{Edit}
use Rattle.scr_sheet.specs.declared.edit.Edit.TheVariants as edits
use Rattle.scr_sheet.proofs.EarlierSheets.{back-securities, back-liabilities}
use Rattle.scr_sheet.proofs.sheet.BalanceSheet.before.Goals as goal

pub returns-in_ok-before_put-in-Flows : goal.returns-in_ok-before_put-in-Flows
returns-in_ok-before_put-in-Flows c =
    let past = c.in_ok-before_put-in-Flows.field-0 in
    let rows = back-securities c.args.self.now c.in-Flows.security past (λ p. record p { security = record p.security { flows = c.in-Flows.flows } }) (λ p. refl) c.in_ok-before_put-in-Flows.ensures in
    let back : LeadsBack (earlier.Securities past) (edits.Flows c.in-Flows.security c.in-Flows.flows) c.args.self.now = record { back = rows.0; fits = rows.1 } in
    subst (λ (edit : Edit). LeadsBack (earlier.Securities past) edit c.args.self.now) (sym c.in-Flows.is) back

pub returns-in_ok-before_put-in-LiabilityFlows : goal.returns-in_ok-before_put-in-LiabilityFlows
returns-in_ok-before_put-in-LiabilityFlows c =
    let past = c.in_ok-before_put-in-LiabilityFlows.field-0 in
    let name = c.in-LiabilityFlows.liability in
    let rows = back-liabilities c.args.self.now name past (λ l. record l { flows = with_flows c.in-LiabilityFlows.projection c.in-LiabilityFlows.flows l.flows }) (λ l. refl) c.in_ok-before_put-in-LiabilityFlows.ensures in
    let back : LeadsBack (earlier.Liabilities past) (edits.LiabilityFlows name c.in-LiabilityFlows.projection c.in-LiabilityFlows.flows) c.args.self.now = record { back = rows.0; fits = rows.1 } in
    subst (λ (edit : Edit). LeadsBack (earlier.Liabilities past) edit c.args.self.now) (sym c.in-LiabilityFlows.is) back
