-- The two nodes of an edge (own).
use Rattle.std.specs.Prelude.{ℕ, List, slice_index_or}
use Rattle.scr_links.specs.declared.links.Pair.{Pair}
use Rattle.scr_links.specs.declared.walk.Towards.{Towards}
use Rattle.scr_links.specs.declared.walk.Towards.TheVariants.{Source, Dependant}

-- The two nodes of the edge in a slot; 0 and 0 past the end (own).
abbrev pub pair_at : List Pair → ℕ → Pair
pair_at pairs place = slice_index_or pairs place (record { source = 0; dependant = 0 })

-- The node of an edge that a walk in this direction gives (own).
abbrev pub other_end : Towards → Pair → ℕ
other_end Source pair = pair.source
other_end Dependant pair = pair.dependant
