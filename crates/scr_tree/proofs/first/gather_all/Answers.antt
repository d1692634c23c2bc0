use Rattle.std.proofs.Common.{ap, subst, ◌∙◌}
use Rattle.scr_figure_ids.specs.Gathered.{AreMembersOf}
use Rattle.scr_tree.specs.First.{totals_of}
use Rattle.scr_tree.proofs.first.gather_all.Goals as goal

pub returns : goal.returns
returns c = record {
  members = subst (λ s. AreMembersOf s c.in_ok-members.members) c.sheet-2.ensures.sheet c.in_ok-members.ensures;
  totals = c.in_ok-totals.ensures ∙ ap totals_of c.sheet.ensures.sheet;
}
