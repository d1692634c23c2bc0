use Rattle.std.proofs.Common.{ℕ, false, Some, subst, sym, ap, ◌∙◌, arith, take}
use Rattle.std.proofs.lemmas.List.{take_all}
use Rattle.scr_profile.specs.DefaultClasses.{default_classes, first_step}
use Rattle.scr_nodes.specs.Rows.{is_of_default_class}
use Rattle.scr_figure_ids.specs.Places.{IsOnly, places_by}
use Rattle.scr_figure_ids.proofs.GatheredRows.{default-only, key-entered, long, only-within}
use Rattle.scr_figure_ids.proofs.gathered.group_lists.Goals as goal

pub enter-requires : goal.enter-requires
enter-requires c =
    only-within (λ class. false) (λ class. is_of_default_class class c.at.result.now) (Some c.first_step.result)
    default_classes c.loop-k.entries
    (long is_of_default_class default_classes (take c.loop-k.k c.args.sheet.now.groups) c.loop-k.entries c.loop-k.invariant)
    (subst (λ (n : ℕ). IsOnly (λ class. is_of_default_class class c.at.result.now) (Some n) default_classes)
    (sym (c.first_step.ensures.value ∙ ap first_step c.of_step-class.ensures)) (default-only c.at.result.now))

pub loop-k-preserved : goal.loop-k-preserved
loop-k-preserved c =
    key-entered is_of_default_class default_classes c.args.sheet.now.groups c.loop-k.k c.at.result.now
    (Some c.first_step.result) c.loop-k.entries c.enter.new.self c.at.ensures
    (subst (λ (n : ℕ). IsOnly (λ class. is_of_default_class class c.at.result.now) (Some n) default_classes)
    (sym (c.first_step.ensures.value ∙ ap first_step c.of_step-class.ensures)) (default-only c.at.result.now)) c.loop-k.invariant c.in_ok-enter.ensures

pub returns : goal.returns
returns c =
    c.in_ok-lists.ensures ∙ c.loop-k.invariant
    ∙ ap (places_by is_of_default_class default_classes)
    (take_all c.loop-k.k c.args.sheet.now.groups (omega (arith, c.loop-k-test.false, c.len-k-end.ensures.count)))
