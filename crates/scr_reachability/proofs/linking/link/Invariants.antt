use Rattle.std.proofs.Common.{take}
use Rattle.scr_reachability.specs.Relinking.{IsJoined}
use Rattle.scr_reachability.proofs.linking.link.Given as goal

-- the sources so far
abbrev pub invariant-loop-source : goal.invariant-loop-source
invariant-loop-source l = IsJoined l.number (take l.source-index l.sources) l.fn.links l.links
