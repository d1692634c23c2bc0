use Rattle.scr_tree.proofs.Linking.{rows-linked}
use Rattle.scr_tree.proofs.first_links.all_links.Goals as goal

pub link_currencies-requires-clause-linked : goal.link_currencies-requires-clause-linked
link_currencies-requires-clause-linked c = rows-linked c.args.ground c.requires c.in_ok-links.links c.in_ok-links.ensures
