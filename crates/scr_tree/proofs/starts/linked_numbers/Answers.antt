use Rattle.std.proofs.Common.{[], nat_eq, subst, sym}
use Rattle.std.specs.List.{IsDistinct}
use Rattle.scr_figure_ids.specs.Numbers.{StandsAt}
use Rattle.scr_reachability.specs.LinkedDues.{AreStarts}
use Rattle.scr_reachability.proofs.Starting.{starts-none}
use Rattle.scr_tree.specs.Graphs.{graph_of}
use Rattle.scr_tree.proofs.StartRows.{point-next}
use Rattle.scr_tree.proofs.starts.linked_numbers.Goals as goal

pub loop-point-init : goal.loop-point-init
unfolding IsDistinct
loop-point-init c = record {
  starts = subst (AreStarts (StandsAt c.args.view.sheet.now c.args.view.places.now) []) (sym c.new-numbers.ensures.items)
      (starts-none (StandsAt c.args.view.sheet.now c.args.view.places.now));
  once = subst (IsDistinct nat_eq) (sym c.new-numbers.ensures.items) tt;
}

pub loop-point-preserved : goal.loop-point-preserved
loop-point-preserved c =
    let next = point-next (graph_of c.args.view.sheet.now) (StandsAt c.args.view.sheet.now c.args.view.places.now) c.args.view.places.now.size
    c.requires.numbers c.args.edit.now c.args.touched.now c.loop-point.point-index c.point-item.result c.requires.once c.loop-point-test.true
    c.point-item.is c.loop-point.numbers.items c.push_of_point.new.numbers.items (c.loop-point.invariant.starts, c.loop-point.invariant.once)
    c.in_ok-push_of_point.ensures in
    record { starts = next.0; once = next.1 }
