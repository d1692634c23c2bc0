use Rattle.scr_figure_ids.proofs.gathered.members_of.Goals as goal

pub returns : goal.returns
returns c = record {
  funds = c.in_ok-fund_lists.ensures;
  groups = c.in_ok-group_lists.ensures;
}
