use Rattle.std.proofs.Common.{sym, ap, subst, ◌∙◌}
use Rattle.scr_num.specs.Rounding.{ends}
use Rattle.scr_discounts.specs.Kept.{AreDiscountsOf, rows_of}
use Rattle.scr_discounts.specs.KeptRates.{KnownRates}
use Rattle.scr_discounts.proofs.CurveRows.{all-are}
use Rattle.scr_discounts.proofs.FallRows.{worked-rates}
use Rattle.scr_rules.specs.Discounts.{discounts_in}
use Rattle.scr_tree.proofs.SumWorth.{both-fit, both-right, foreign-right, held-amount, owed-within}
use Rattle.scr_tree.proofs.Upright.{rolls-are}
use Rattle.scr_tree.proofs.sums.by_sums.Goals as goal

pub foreign_by_sums-requires-clause-held : goal.foreign_by_sums-requires-clause-held
foreign_by_sums-requires-clause-held g c =
    held-amount c.args.inputs.factors.now c.args.inputs.book.now c.known.ensures.valid (rolls-are c.args.inputs.book.now c.known.ensures.rolls)
    c.known.ensures.form c.args.node.now (ends c.args.held) (ends c.args.owed) c.requires.held c.requires.owed
    c.in-Some.direction (sym c.foreign_of.ensures ∙ c.in-Some.is) c.requires.live

pub foreign_by_sums-requires-clause-owed : goal.foreign_by_sums-requires-clause-owed
foreign_by_sums-requires-clause-owed g c =
    owed-within c.args.inputs.factors.now c.args.inputs.book.now c.known.ensures.valid (rolls-are c.args.inputs.book.now c.known.ensures.rolls)
    c.known.ensures.form c.args.node.now (ends c.args.held) (ends c.args.owed) c.requires.held c.requires.owed
    c.in-Some.direction (sym c.foreign_of.ensures ∙ c.in-Some.is) c.requires.live

pub returns-in-Some-clause-span : goal.returns-in-Some-clause-span
returns-in-Some-clause-span g c =
    c.foreign_by_sums.ensures
    ∙ foreign-right c.args.inputs.factors.now c.args.inputs.book.now c.known.ensures.valid (rolls-are c.args.inputs.book.now c.known.ensures.rolls)
    c.known.ensures.form c.args.node.now (ends c.args.held) (ends c.args.owed) c.requires.held c.requires.owed
    c.in-Some.direction (sym c.foreign_of.ensures ∙ c.in-Some.is)

pub evaluate_by-requires-clause-rows : goal.evaluate_by-requires-clause-rows
evaluate_by-requires-clause-rows g c =
    subst (AreDiscountsOf c.args.inputs.book.now.sheet.curves) (sym (ap (λ (k : KnownRates). k.rows) c.requires.inputs))
    (all-are c.args.inputs.book.now.sheet c.known.ensures.valid)

pub evaluate_by-requires-clause-rates : goal.evaluate_by-requires-clause-rates
evaluate_by-requires-clause-rates g c = worked-rates c.args.inputs.book.now.sheet c.args.inputs.rates.now c.requires.inputs

pub evaluate_by-requires-clause-fits : goal.evaluate_by-requires-clause-fits
evaluate_by-requires-clause-fits g c =
    both-fit c.args.inputs.factors.now c.args.inputs.book.now c.known.ensures.valid (rolls-are c.args.inputs.book.now c.known.ensures.rolls)
    c.known.ensures.form c.args.node.now (ends c.args.held) (ends c.args.owed) c.requires.held c.requires.owed
    c.requires.summed (sym c.foreign_of.ensures ∙ c.in-None.is) c.requires.live

pub returns-in-None-clause-span : goal.returns-in-None-clause-span
returns-in-None-clause-span g c =
    c.evaluate_by.ensures.rule
    ∙ both-right c.args.inputs.factors.now c.args.inputs.book.now c.known.ensures.valid (rolls-are c.args.inputs.book.now c.known.ensures.rolls)
    c.known.ensures.form c.args.node.now (ends c.args.held) (ends c.args.owed) c.requires.held c.requires.owed
    c.requires.summed (sym c.foreign_of.ensures ∙ c.in-None.is)
    (discounts_in c.args.inputs.book.now.sheet (rows_of c.args.inputs.rates.now.curves) c.args.node.now)
