use Rattle.std.proofs.Common.{take}
use Rattle.scr_nodes.specs.Sources.{words_of}
use Rattle.scr_figure_ids.specs.SourceNumbers.{AreAllPushed}
use Rattle.scr_figure_ids.proofs.sources.push_words.Given as goal

-- the numbers of the words so far stand behind what stood there
abbrev pub invariant-loop-place : goal.invariant-loop-place
invariant-loop-place l = AreAllPushed l.view.sheet.now l.view.places.now (take l.place (words_of l.node)) l.initial.list.items l.list.items
