-- What is due at the numbers so far.
use Rattle.std.proofs.Common.{take}
use Rattle.std.specs.List.{AllByRecursion}
use Rattle.scr_figure_ids.specs.Numbers.{StandsAt}
use Rattle.scr_reachability.specs.LinkedDues.{AreDuesFor}
use Rattle.scr_tree.specs.Graphs.{graph_of}
use Rattle.scr_tree.specs.Starts.{IsLiveOrEmpty}
use Rattle.scr_tree.proofs.starts.dues_at.Given as goal

abbrev pub invariant-loop-number : goal.invariant-loop-number
invariant-loop-number l = record {
  dues : AreDuesFor (graph_of l.view.sheet.now) (StandsAt l.view.sheet.now l.view.places.now) (take l.number-index l.numbers) l.dues.items;
  empty : AllByRecursion (IsLiveOrEmpty (graph_of l.view.sheet.now) (StandsAt l.view.sheet.now l.view.places.now)) l.dues.items;
}
