use Rattle.std.proofs.Common.{◌≡◌, ℕ, Some, slice_get, ap, subst, sym, ◌∙◌}
use Rattle.scr_profile.specs.DefaultClasses.{default_classes}
use Rattle.scr_profile.proofs.Words.{class-listed}
use Rattle.scr_nodes.specs.Rows.{is_of_default_class}
use Rattle.scr_nodes.specs.Selections.{is_counterparty}
use Rattle.scr_figure_ids.specs.Places.{places_where}
use Rattle.scr_figure_ids.proofs.SourceRows.{key-found, key-within}
use Rattle.scr_figure_ids.proofs.sources.group_rows.Goals as goal

pub at-requires : goal.at-requires
at-requires c =
    let sheet = c.args.from.sheet.now in
    key-within is_of_default_class default_classes sheet.groups c.args.from.members.now.groups c.requires.groups
    c.first_step.result c.in-OfClass.class
    (subst (λ (n : ℕ). slice_get default_classes n ≡ Some c.in-OfClass.class) (sym c.first_step.ensures.value) (class-listed c.in-OfClass.class))

pub returns-in-OfClass : goal.returns-in-OfClass
returns-in-OfClass c =
    let sheet = c.args.from.sheet.now in
    key-found is_of_default_class default_classes sheet.groups c.args.from.members.now.groups c.requires.groups
    c.first_step.result c.in-OfClass.class
    (subst (λ (n : ℕ). slice_get default_classes n ≡ Some c.in-OfClass.class) (sym c.first_step.ensures.value) (class-listed c.in-OfClass.class))
    c.at.result.now c.at.ensures ∙ ap (λ h. places_where (is_counterparty h) 0 sheet.groups) (sym c.in-OfClass.is)
