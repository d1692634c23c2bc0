use Rattle.std.proofs.Common.{◌≡◌, map, take}
use Rattle.scr_look_through.specs.ByNumber.{component_by_number}
use Rattle.scr_look_through.proofs.amounts.row.Given as goal

-- the components so far
abbrev pub invariant-loop-name : goal.invariant-loop-name
invariant-loop-name l = l.row.items ≡ map (component_by_number l.sheet) (take l.name-index l.name-items)
