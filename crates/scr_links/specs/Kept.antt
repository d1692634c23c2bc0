-- The stored form of edges (own). Each edge has a slot, which is in three lists: of all edges, of its source, and of its
-- dependant. A slot without an edge is in the free list.
use Rattle.std.specs.Prelude.{◌≡◌, ℕ, ◌==◌, ◌<◌, ◌≤◌, true, List, map, filter, length}
use Rattle.scr_links.specs.Edges.{Edge, Linked, edge, linked}
use Rattle.scr_links.specs.Places.{has, AreApart}
use Rattle.scr_links.specs.Chains.{list_of, none}
use Rattle.scr_links.specs.Ends.{pair_at}
use Rattle.scr_links.specs.declared.links.Pair.{Pair}
use Rattle.scr_links.specs.declared.links.Links.TheInside.{Inside}

-- The edge in a slot, whose index is its id (own).
abbrev pub edge_at : List Pair → ℕ → Edge
edge_at pairs place = edge (pair_at pairs place).source (pair_at pairs place).dependant place

-- The slots of all edges, in the order of joining (own).
abbrev pub standing : Inside → List ℕ
standing links = list_of links.tables.order 0

-- The free slots (own).
abbrev pub free : Inside → List ℕ
free links = list_of links.tables.order 1

-- The slots among `places` whose edges have this source (own).
abbrev pub with_source : List Pair → ℕ → List ℕ → List ℕ
with_source pairs number places = filter (λ place. (pair_at pairs place).source == number) places

-- The slots among `places` whose edges have this dependant (own).
abbrev pub with_dependant : List Pair → ℕ → List ℕ → List ℕ
with_dependant pairs number places = filter (λ place. (pair_at pairs place).dependant == number) places

-- What contracts see of the stored edges (own).
abbrev pub linked_of : Inside → Linked
linked_of links = linked (map (edge_at links.tables.pairs.items) (standing links)) links.spare links.size

-- The invariant of stored edges (own). The lists by source and by dependant hold exactly the slots of their edges. All nodes are
-- below the bound, and every table has room for all slots and nodes.
pub record AreKept (links : Inside) : Type 0 where
  pub distinct : AreApart (standing links)
  pub placed : (number place : ℕ) → has place (list_of links.tables.order number) ≡ true → place < links.places
  pub counted : links.spare ≡ length (free links)
  pub sources : (number : ℕ) → list_of links.tables.by_source number ≡ with_source links.tables.pairs.items number
      (standing links)
  pub dependants : (number : ℕ)
      → list_of links.tables.by_dependant number ≡ with_dependant links.tables.pairs.items number (standing links)
  pub low_source : (place : ℕ) → has place (standing links) ≡ true
      → (pair_at links.tables.pairs.items place).source < links.size
  pub low_dependant : (place : ℕ) → has place (standing links) ≡ true
      → (pair_at links.tables.pairs.items place).dependant < links.size
  pub few : links.places < none
  pub in_order : links.places ≤ length links.tables.order.links
  pub in_sources : links.places ≤ length links.tables.by_source.links
  pub in_dependants : links.places ≤ length links.tables.by_dependant.links
  pub in_pairs : links.places ≤ length links.tables.pairs.items
  pub two_lists : 2 ≤ links.tables.order.room
  pub source_lists : links.size ≤ links.tables.by_source.room
  pub dependant_lists : links.size ≤ links.tables.by_dependant.room
