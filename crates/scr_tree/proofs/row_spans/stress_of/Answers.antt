use Rattle.std.proofs.Common.{◌≡◌, true, false, Some, slice_get, sym, subst, ◌∙◌}
use Rattle.scr_num.specs.Rounding.{ends}
use Rattle.scr_sheet.specs.declared.sheet.BalanceSheet.{BalanceSheet}
use Rattle.scr_nodes.specs.Rows.{has_flows}
use Rattle.scr_nodes.specs.Sources.{liability_loss}
use Rattle.scr_discounts.specs.Kept.{rows_of}
use Rattle.scr_rules.specs.Worked.{worked}
use Rattle.scr_tree.proofs.FirstRows.{liability-own}
use Rattle.scr_tree.proofs.GroupSums.{one-row}
use Rattle.scr_tree.proofs.RowParts.{stress-right}
use Rattle.scr_tree.proofs.RowsMade.{discounts-are, rows-are}
use Rattle.scr_tree.proofs.row_spans.stress_of.Goals as goal

pub returns-then-not-has_flows : goal.returns-then-not-has_flows
returns-then-not-has_flows g c = λ l there has.
    let at = subst (λ (s : BalanceSheet). slice_get s.liabilities c.args.k ≡ Some c.at-liability.result.now) c.sheet.ensures.sheet c.at-liability.ensures in
    let same = one-row c.args.ground.inputs.book.now.sheet.liabilities c.args.k l c.at-liability.result.now there at in
    let none = sym c.has_flows.ensures ∙ c.if-not-has_flows.true in
    let clash : true ≡ false = sym (subst (λ m. has_flows c.args.projection m ≡ true) same has) ∙ none in
    absurd (cc)

pub liability_loss-requires-clause-rows : goal.liability_loss-requires-clause-rows
liability_loss-requires-clause-rows g c = discounts-are c.args.ground c.requires.ground

pub liability_loss-requires-clause-row : goal.liability_loss-requires-clause-row
liability_loss-requires-clause-row g c =
    let ground = c.args.ground in
    let at = subst (λ (s : BalanceSheet). slice_get s.liabilities c.args.k ≡ Some c.at-liability.result.now) c.sheet.ensures.sheet c.at-liability.ensures in
    liability-own ground.inputs.book.now.sheet c.requires.ground.valid ground.places.now c.requires.ground.numbered c.args.k c.at-liability.result.now at

pub liability_loss-requires-clause-estimate : goal.liability_loss-requires-clause-estimate
liability_loss-requires-clause-estimate g c =
    c.requires.estimate c.at-liability.result.now
    (subst (λ (s : BalanceSheet). slice_get s.liabilities c.args.k ≡ Some c.at-liability.result.now) c.sheet.ensures.sheet c.at-liability.ensures)

pub returns : goal.returns
returns g c = λ l there has.
    let ground = c.args.ground in
    let factors = ground.inputs.factors.now in
    let at = subst (λ (s : BalanceSheet). slice_get s.liabilities c.args.k ≡ Some c.at-liability.result.now) c.sheet.ensures.sheet c.at-liability.ensures in
    let same = one-row ground.inputs.book.now.sheet.liabilities c.args.k c.at-liability.result.now l at there in
    subst (λ m. ends c.liability_loss.result ≡ worked factors ground.inputs.book.now.sheet (liability_loss c.args.projection m)) same
    (stress-right factors c.requires.ground.form ground.inputs.book.now.sheet c.requires.ground.valid ground.places.now c.requires.ground.numbered
    c.args.k c.at-liability.result.now at c.args.projection c.requires.stress (sym c.has_flows.ensures ∙ c.if-not-has_flows.false)
    (rows_of ground.inputs.rates.now.curves) (rows-are ground c.requires.ground) c.liability_loss.result
    (c.liability_loss.ensures factors))
