use Rattle.scr_figure_ids.specs.Numbers.{StandsAt}
use Rattle.scr_nodes.specs.Sources.{sources_of}
use Rattle.scr_reachability.specs.Linked.{AreAt}
use Rattle.scr_figure_ids.specs.SourceNumbers.{ArePushed}
use Rattle.scr_tree.proofs.FirstRows.{on-ok}
use Rattle.scr_tree.proofs.Grounds.{pushed-at}
use Rattle.scr_tree.proofs.making.gather_linked.Goals as goal

pub returns : goal.returns
returns c =
    on-ok (ArePushed c.sheet.result.now c.args.ground.places.now c.args.node.now c.clear.new.self.items c.push_gathered.new.list.items)
    (AreAt (StandsAt c.args.ground.book.now.sheet c.args.ground.places.now) c.push_gathered.new.list.items
    (sources_of c.args.ground.book.now.sheet c.args.node.now)) c.push_gathered.result
    (pushed-at c.sheet.result.now c.args.ground.book.now.sheet c.args.ground.places.now c.args.node.now c.clear.new.self.items
    c.push_gathered.new.list.items c.sheet.ensures.sheet c.clear.ensures.items) c.push_gathered.ensures
