use Rattle.scr_funds.proofs.Members.{IsMember-from_Contains, at_member}
use Rattle.scr_nodes.specs.Sources.{sources_of}
use Rattle.scr_nodes.proofs.LiveSources.{IsLive, sources-live}
use Rattle.scr_nodes.proofs.SingleSources.{sources-once}
use Rattle.scr_nodes.proofs.laws.sources.Goals as goal

pub returns-clause-live : goal.returns-clause-live
returns-clause-live c = λ sheet node source valid live has.
    at_member (IsLive sheet) (sources_of sheet node) source (sources-live sheet valid node live)
    (IsMember-from_Contains (sources_of sheet node) source has)

pub returns-clause-once : goal.returns-clause-once
returns-clause-once c = λ sheet node valid. sources-once sheet valid node
