use Rattle.std.proofs.Common.{sym, ap, subst, ◌∙◌}
use Rattle.std.specs.Prelude.{is_some}
use Rattle.scr_nodes.specs.OwnOf.{own_of}
use Rattle.scr_rules.specs.Fits.{Fits}
use Rattle.scr_rules.proofs.Ranges.{node-fits}
use Rattle.scr_discounts.specs.Kept.{AreDiscountsOf}
use Rattle.scr_discounts.specs.KeptRates.{KnownRates}
use Rattle.scr_discounts.proofs.CurveRows.{all-are}
use Rattle.scr_discounts.proofs.FallRows.{worked-rates}
use Rattle.scr_tree.proofs.SumWorth.{plain-below}
use Rattle.scr_tree.proofs.Upright.{rolls-are}
use Rattle.scr_tree.proofs.sums.plain_of.Goals as goal

pub evaluate_by-requires-clause-rows : goal.evaluate_by-requires-clause-rows
evaluate_by-requires-clause-rows g c =
    subst (AreDiscountsOf c.args.inputs.book.now.sheet.curves) (sym (ap (λ (k : KnownRates). k.rows) c.requires.inputs))
    (all-are c.args.inputs.book.now.sheet c.known.ensures.valid)

pub evaluate_by-requires-clause-rates : goal.evaluate_by-requires-clause-rates
evaluate_by-requires-clause-rates g c = worked-rates c.args.inputs.book.now.sheet c.args.inputs.rates.now c.requires.inputs

pub evaluate_by-requires-clause-fits : goal.evaluate_by-requires-clause-fits
evaluate_by-requires-clause-fits g c =
    let factors = c.args.inputs.factors.now in
    let book = c.args.inputs.book.now in
    let node = c.args.node.now in
    subst (Fits (own_of factors book.sheet node))
    (sym (c.requires.below ∙ plain-below factors book c.known.ensures.valid (rolls-are book c.known.ensures.rolls) node
    (ap is_some c.requires.plain)))
    (node-fits factors c.known.ensures.form book.sheet c.known.ensures.valid node c.requires.live)

pub returns-clause-span : goal.returns-clause-span
returns-clause-span g c =
    let factors = c.args.inputs.factors.now in
    let book = c.args.inputs.book.now in
    let node = c.args.node.now in
    c.evaluate_by.ensures.worked (ap (λ (k : KnownRates). k.rows) c.requires.inputs)
    (c.requires.below ∙ plain-below factors book c.known.ensures.valid (rolls-are book c.known.ensures.rolls) node
    (ap is_some c.requires.plain))
