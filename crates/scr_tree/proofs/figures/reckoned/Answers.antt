use Rattle.std.proofs.Common.{◌≡◌, ◌||◌, Bool, map, sym, ap, ap₂, subst, ◌∙◌}
use Rattle.scr_num.specs.Rounding.{Ends, ends}
use Rattle.scr_nodes.specs.OwnOf.{own_of}
use Rattle.scr_rules.specs.Fits.{Fits}
use Rattle.scr_discounts.specs.Kept.{AreDiscountsOf}
use Rattle.scr_discounts.specs.KeptRates.{KnownRates}
use Rattle.scr_rules.specs.Worked.{worked}
use Rattle.scr_rules.proofs.Equations.{close-equation}
use Rattle.scr_discounts.proofs.FallRows.{worked-rates}
use Rattle.scr_discounts.proofs.CurveRows.{all-are}
use Rattle.scr_rules.proofs.Ranges.{node-fits}
use Rattle.scr_tree.specs.Figures.{opens}
use Rattle.scr_tree.proofs.Known.{opens-is}
use Rattle.scr_tree.proofs.figures.reckoned.Goals as goal

pub evaluate_by-span-requires-clause-rows : goal.evaluate_by-span-requires-clause-rows
evaluate_by-span-requires-clause-rows g c =
    subst (AreDiscountsOf c.args.inputs.book.now.sheet.curves) (sym (ap (λ (k : KnownRates). k.rows) c.requires.inputs))
    (all-are c.args.inputs.book.now.sheet c.sheet.ensures.valid)

pub evaluate_by-span-requires-clause-rates : goal.evaluate_by-span-requires-clause-rates
evaluate_by-span-requires-clause-rates g c = worked-rates c.args.inputs.book.now.sheet c.args.inputs.rates.now c.requires.inputs

pub evaluate_by-span-requires-clause-fits : goal.evaluate_by-span-requires-clause-fits
evaluate_by-span-requires-clause-fits g c =
    let factors = c.args.inputs.factors.now in
    let sheet = c.args.inputs.book.now.sheet in
    let node = c.args.node.now in
    subst (Fits (own_of factors sheet node)) (sym (ap (map ends) c.as_slice.ensures.value ∙ c.requires.below.spans))
    (node-fits factors c.known.ensures sheet c.sheet.ensures.valid node c.requires.live)

pub returns-clause-figure : goal.returns-clause-figure
returns-clause-figure g c =
    let factors = c.args.inputs.factors.now in
    let sheet = c.args.inputs.book.now.sheet in
    let node = c.args.node.now in
    let is : ends c.evaluate_by-span.result ≡ worked factors sheet node =
    c.evaluate_by-span.ensures.worked (ap (λ (k : KnownRates). k.rows) c.requires.inputs)
    (ap (map ends) c.as_slice.ensures.value ∙ c.requires.below.spans) in
    ap₂ (λ (e : Ends) (b : Bool). record { worked = e; close = b }) is
    (c.is_close.ensures
    ∙ ap₂ (λ (a : Bool) (b : Bool). a || b) (ap (opens node) is ∙ opens-is factors sheet node) c.requires.below.close
    ∙ sym (close-equation factors sheet c.sheet.ensures.valid node))
