use Rattle.scr_tree.proofs.Linking.{unlinked}
use Rattle.scr_tree.proofs.first_links.links_of_totals.Goals as goal

pub link_funds-requires-clause-linked : goal.link_funds-requires-clause-linked
link_funds-requires-clause-linked c =
    unlinked c.args.ground c.requires c.in_ok-links.links c.in_ok-links.ensures.size c.in_ok-links.ensures.links
