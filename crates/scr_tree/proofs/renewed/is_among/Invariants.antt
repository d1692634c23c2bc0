-- Whether one of those so far is the number.
use Rattle.std.proofs.Common.{◌≡◌, nat_eq, take}
use Rattle.std.specs.List.{list_any}
use Rattle.scr_tree.proofs.renewed.is_among.Given as goal

abbrev pub invariant-loop-first : goal.invariant-loop-first
invariant-loop-first l = l.found ≡ list_any (λ first. nat_eq first l.own) (take l.first-index l.firsts)
