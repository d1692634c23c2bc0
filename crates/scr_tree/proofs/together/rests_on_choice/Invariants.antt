-- None of the sources so far rests on one.
use Rattle.std.proofs.Common.{◌≡◌, drop}
use Rattle.scr_tree.specs.Together.{any_close}
use Rattle.scr_tree.proofs.together.rests_on_choice.Given as goal

abbrev pub invariant-loop-source : goal.invariant-loop-source
invariant-loop-source l = any_close l.figures (drop l.source-index l.sources) ≡ any_close l.figures l.sources
