use Rattle.std.proofs.Common.{map, ap, sym, ◌∙◌}
use Rattle.scr_num.specs.Rounding.{ends}
use Rattle.scr_nodes.specs.OwnOf.{own_of}
use Rattle.scr_rules.specs.Discounts.{own_discounts, discounts_in}
use Rattle.scr_rules.specs.Rules.{rule}
use Rattle.scr_rules.proofs.Equations.{worked-equation}
use Rattle.scr_rules.proofs.KeptRows.{own-row}
use Rattle.scr_rules.proofs.evaluation.evaluate_with.Goals as goal

pub returns-clause-worked : goal.returns-clause-worked
returns-clause-worked g c = λ kept sources.
    let own = own_of c.args.factors.now c.args.book.now.sheet c.args.node in
    let figures = map ends c.args.spans.now in
    (rw c.sheet.ensures.sheet at c.figure_with.ensures)
    ∙ ap (λ row. rule own row figures) (ap (λ rows. discounts_in c.args.book.now.sheet rows c.args.node) kept ∙ own-row c.args.factors.now c.args.book.now.sheet c.args.node figures c.requires.fits)
    ∙ ap (rule own (own_discounts own)) sources ∙ sym (worked-equation c.args.factors.now c.args.book.now.sheet c.sheet.ensures.valid c.args.node)
