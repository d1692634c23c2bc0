use Rattle.std.proofs.Common.{◌≡◌, ◌++◌, take}
use Rattle.scr_nodes.specs.Sources.{words_of}
use Rattle.scr_nodes.proofs.lists.push_words.Given as goal

-- the words so far stand behind what stood there
abbrev pub invariant-loop-place : goal.invariant-loop-place
invariant-loop-place l = l.list.items ≡ l.initial.list.items ++ take l.place (words_of l.node)
