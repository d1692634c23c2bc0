use Rattle.std.proofs.Common.{◌^◌, length, sym, subst, ap, ap₂, ◌∙◌}
use Rattle.scr_sum_tree.specs.Blocks.{top_count}
use Rattle.scr_num.specs.Amounts.{IsAmount}
use Rattle.scr_num.specs.Sizes.{AreTogether}
use Rattle.scr_num.specs.Sums.{sum_ends}
use Rattle.scr_profile.specs.declared.limits.TheConstants.{MAX_HELD}
use Rattle.scr_rules.specs.MarketRules.{foreign_ends}
use Rattle.scr_rules.specs.Rules.{amount_of}
use Rattle.scr_rules.proofs.MarketCode.{first-spans, other-spans}
use Rattle.scr_plan.proofs.Plain.{wider}
use Rattle.scr_plan.proofs.evaluation.foreign.Goals as goal

pub total-held-requires : goal.total-held-requires
total-held-requires c =
    let count = c.top_count-count.ensures ∙ ap (λ names. top_count (length names)) c.roll.ensures.names in
    record { together = wider _ (subst (AreTogether (10 ^ 33)) (first-spans c.args.spans.now c.top_count-count.result _ count) c.requires.held) }

pub total-owed-requires : goal.total-owed-requires
total-owed-requires c =
    let count = c.top_count-count.ensures ∙ ap (λ names. top_count (length names)) c.roll.ensures.names in
    record { together = wider _ (subst (AreTogether (10 ^ 33)) (other-spans c.args.spans.now c.top_count-count.result _ count) c.requires.owed) }

pub foreign_by_sums-requires-clause-held : goal.foreign_by_sums-requires-clause-held
foreign_by_sums-requires-clause-held c =
    let count = c.top_count-count.ensures ∙ ap (λ names. top_count (length names)) c.roll.ensures.names in
    subst (IsAmount MAX_HELD) (sym (c.total-held.ensures.ends ∙ ap sum_ends (sym (first-spans c.args.spans.now c.top_count-count.result _ count)))) c.requires.assets

pub returns : goal.returns
returns c =
    let count = c.top_count-count.ensures ∙ ap (λ names. top_count (length names)) c.roll.ensures.names in
    let held = c.total-held.ensures.ends ∙ ap sum_ends (sym (first-spans c.args.spans.now c.top_count-count.result _ count)) in
    let owed = c.total-owed.ensures.ends ∙ ap sum_ends (sym (other-spans c.args.spans.now c.top_count-count.result _ count)) in
    c.foreign_by_sums.ensures ∙ ap₂ (foreign_ends c.args.direction) (ap amount_of held) owed

pub foreign_by_sums-requires-clause-owed : goal.foreign_by_sums-requires-clause-owed
foreign_by_sums-requires-clause-owed c =
    let count = c.top_count-count.ensures ∙ ap (λ names. top_count (length names)) c.roll.ensures.names in
    c.total-owed.ensures.size (10 ^ 33) (subst (AreTogether (10 ^ 33)) (other-spans c.args.spans.now c.top_count-count.result _ count) c.requires.owed)
