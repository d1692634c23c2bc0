use Rattle.std.proofs.Common.{◌≡◌, take}
use Rattle.scr_profile.specs.DefaultClasses.{default_classes}
use Rattle.scr_nodes.specs.Rows.{is_of_default_class}
use Rattle.scr_figure_ids.specs.Places.{places_by}
use Rattle.scr_figure_ids.proofs.gathered.group_lists.Given as goal

-- the groups so far are entered
abbrev pub invariant-loop-k : goal.invariant-loop-k
invariant-loop-k l = l.entries ≡ places_by is_of_default_class default_classes (take l.k l.sheet.groups)
