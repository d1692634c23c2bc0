use Rattle.std.proofs.Common.{◌^◌, sym, subst, ap, ap₂, ◌∙◌}
use Rattle.scr_num.specs.Amounts.{IsAmount}
use Rattle.scr_num.specs.Sizes.{AreTogether}
use Rattle.scr_num.specs.Sums.{sum_ends}
use Rattle.scr_profile.specs.declared.limits.TheConstants.{MAX_HELD}
use Rattle.scr_rules.specs.MarketRules.{foreign_ends}
use Rattle.scr_rules.specs.Rules.{amount_of}
use Rattle.scr_rules.proofs.MarketCode.{first-spans, other-spans}
use Rattle.scr_rules.proofs.market_rules.foreign.Goals as goal

pub total-held-requires : goal.total-held-requires
total-held-requires c = record {
  together = subst (AreTogether (10 ^ 33)) (first-spans c.args.spans.now c.held_count-securities.result _ c.held_count-securities.ensures) c.requires.held;
}

pub total-owed-requires : goal.total-owed-requires
total-owed-requires c = record {
  together = subst (AreTogether (10 ^ 33)) (other-spans c.args.spans.now c.held_count-securities.result _ c.held_count-securities.ensures) c.requires.owed;
}

pub foreign_by_sums-requires-clause-held : goal.foreign_by_sums-requires-clause-held
foreign_by_sums-requires-clause-held c =
    subst (IsAmount MAX_HELD) (sym (c.total-held.ensures.value ∙ ap sum_ends (sym (first-spans c.args.spans.now c.held_count-securities.result _ c.held_count-securities.ensures)))) c.requires.assets

pub returns : goal.returns
returns c =
    let count = c.held_count-securities.ensures in
    let held = c.total-held.ensures.value ∙ ap sum_ends (sym (first-spans c.args.spans.now c.held_count-securities.result _ count)) in
    let owed = c.total-owed.ensures.value ∙ ap sum_ends (sym (other-spans c.args.spans.now c.held_count-securities.result _ count)) in
    c.foreign_by_sums.ensures ∙ ap₂ (foreign_ends c.args.direction) (ap amount_of held) owed
