use Rattle.scr_reachability.proofs.Joining.{free-cut, linkable-cut, relinked, relinked-spare}
use Rattle.scr_reachability.proofs.relinking.relink.Goals as goal

pub link_all-requires-clause-linkable : goal.link_all-requires-clause-linkable
link_all-requires-clause-linkable c =
    linkable-cut c.args.dues.now c.args.links.now c.unlink_all.new.links c.unlink_all.ensures c.requires

pub link_all-requires-clause-free : goal.link_all-requires-clause-free
link_all-requires-clause-free c = free-cut c.args.dues.now c.args.links.now c.unlink_all.new.links c.unlink_all.ensures

pub returns-clause-links : goal.returns-clause-links
returns-clause-links c =
    relinked c.args.dues.now c.args.links.now c.unlink_all.new.links c.link_all.new.links c.unlink_all.ensures
    c.link_all.ensures

pub returns-clause-spare : goal.returns-clause-spare
returns-clause-spare c =
    relinked-spare c.args.dues.now c.args.links.now c.unlink_all.new.links c.link_all.new.links c.unlink_all.ensures
    c.link_all.ensures
