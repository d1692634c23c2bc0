-- The rest of a walk over edges (own).
use Rattle.std.specs.Prelude.{◌≡◌, ℕ, ◌<◌, true, List, map, length}
use Rattle.scr_links.specs.Places.{has}
use Rattle.scr_links.specs.Chains.{places_from, Leads}
use Rattle.scr_links.specs.Ends.{pair_at, other_end}
use Rattle.scr_links.specs.declared.walk.Walk.TheInside.{Inside}

-- The slots that the walk has still to give (own).
abbrev pub places_left : Inside → List ℕ
places_left walk = places_from walk.chains.now.links (length walk.chains.now.links) walk.at

-- The nodes and edge ids that the walk has still to give (own).
abbrev pub left : Inside → List (ℕ × ℕ)
left walk = map (λ place. (other_end walk.towards (pair_at walk.pairs.now place), place)) (places_left walk)

-- The invariant of a walk (own): the links lead over the rest to the end of the list, and each slot has an edge.
pub record IsOnTheWay (walk : Inside) : Type 0 where
  pub leads : Leads walk.chains.now.links walk.at (places_left walk)
  pub paired : (place : ℕ) → has place (places_left walk) ≡ true → place < length walk.pairs.now
