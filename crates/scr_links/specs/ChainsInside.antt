-- The view of stored lists and their invariant (own).
use Rattle.scr_links.specs.Chains.{Chained, AreChains}
use Rattle.scr_links.specs.declared.chains.Chains.TheInside.{Inside}

-- What contracts see of the stored lists (own).
abbrev pub chained : Inside → Chained
chained chains = record { links = chains.links.items; ends = chains.ends; room = chains.ends.room }

-- The invariant of stored lists: they are linked both ways and disjoint (own).
abbrev pub AreKept : Inside → Type 0
AreKept chains = AreChains (chained chains)
