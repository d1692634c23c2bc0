use Rattle.std.proofs.Common.{◌≡◌, Some, slice_get, subst}
use Rattle.scr_sheet.specs.declared.sheet.BalanceSheet.{BalanceSheet}
use Rattle.scr_discounts.specs.Kept.{rows_of}
use Rattle.scr_rules.specs.ByRow.{IsEstimateOf}
use Rattle.scr_tree.specs.RowSpans.{AreEstimates}
use Rattle.scr_tree.proofs.FirstRows.{liability-own}
use Rattle.scr_tree.proofs.GroupSums.{one-row}
use Rattle.scr_tree.proofs.RowParts.{estimates-right}
use Rattle.scr_tree.proofs.RowsMade.{discounts-are, rows-are}
use Rattle.scr_parallel.specs.declared.rows.Sort.TheVariants as sorts
use Rattle.scr_tree.proofs.Writing.{row-few}
use Rattle.scr_tree.proofs.row_spans.estimate_of.Goals as goal

pub first-first-requires : goal.first-first-requires
first-first-requires g c = row-few c.args.ground c.requires.ground sorts.Liability c.args.k c.requires.row

pub liability_estimate-requires-clause-rows : goal.liability_estimate-requires-clause-rows
liability_estimate-requires-clause-rows g c = discounts-are c.args.ground c.requires.ground

pub liability_estimate-requires-clause-row : goal.liability_estimate-requires-clause-row
liability_estimate-requires-clause-row g c =
    let ground = c.args.ground in
    let at = subst (λ (s : BalanceSheet). slice_get s.liabilities c.args.k ≡ Some c.at-liability.result.now) c.sheet.ensures.sheet c.at-liability.ensures in
    liability-own ground.inputs.book.now.sheet c.requires.ground.valid ground.places.now c.requires.ground.numbered c.args.k c.at-liability.result.now at

pub returns-clause-figures : goal.returns-clause-figures
returns-clause-figures g c = λ l there.
    let ground = c.args.ground in
    let factors = ground.inputs.factors.now in
    let at = subst (λ (s : BalanceSheet). slice_get s.liabilities c.args.k ≡ Some c.at-liability.result.now) c.sheet.ensures.sheet c.at-liability.ensures in
    let same = one-row ground.inputs.book.now.sheet.liabilities c.args.k c.at-liability.result.now l at there in
    subst (λ m. AreEstimates factors ground.inputs.book.now.sheet m c.liability_estimate.result) same
    (estimates-right factors c.requires.ground.form ground.inputs.book.now.sheet c.requires.ground.valid ground.places.now c.requires.ground.numbered
    c.args.k c.at-liability.result.now at (rows_of ground.inputs.rates.now.curves) (rows-are ground c.requires.ground)
    c.liability_estimate.result (c.liability_estimate.ensures.rate_up factors) (c.liability_estimate.ensures.rate_down factors)
    (c.liability_estimate.ensures.present factors))

pub returns-clause-kept : goal.returns-clause-kept
returns-clause-kept g c = λ l there.
    let ground = c.args.ground in
    let at = subst (λ (s : BalanceSheet). slice_get s.liabilities c.args.k ≡ Some c.at-liability.result.now) c.sheet.ensures.sheet c.at-liability.ensures in
    let same = one-row ground.inputs.book.now.sheet.liabilities c.args.k c.at-liability.result.now l at there in
    subst (λ m. IsEstimateOf ground.inputs.book.now.sheet m c.liability_estimate.result) same c.liability_estimate.ensures.kept
