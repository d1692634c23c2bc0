-- Dues (figures to work out anew) that several workers can share, and their round (own).
use Rattle.std.specs.Prelude.{◌≡◌, ℕ, ◌<◌, ◌^◌, List, Contains, Some, length, map, nat_eq, slice_get}
use Rattle.std.specs.List.{AllByRecursion, IsDistinct}
use Rattle.scr_num.specs.Rounding.{Ends}
use Rattle.scr_reachability.specs.declared.ranks.Due.{Due}
use Rattle.scr_reachability.specs.Levels.{numbers_of}
use Rattle.scr_subgraph.specs.declared.round.Slot.{Slot}
use Rattle.scr_subgraph.specs.declared.round.Slot.TheVariants as slots
use Rattle.scr_subgraph.specs.Slots.{IsRoundOf, Lists}
use Rattle.scr_board.specs.BoardRounds.{BoardRound, Spot, Fixed, Node}

-- Dues that several workers can work out (own). No number is due twice, and none has a source twice. A due stands after each due
-- that is its source; the figures of all other sources are known.
pub record AreWorkable (is_known : ℕ → Type 0) (is_due : Due → Type 0) (dues : List Due) : Type 0 where
  pub once : IsDistinct nat_eq (numbers_of dues)
  pub single : AllByRecursion (λ (due : Due). IsDistinct nat_eq due.sources.items) dues
  pub before : (i j : ℕ) (due from : Due) → slice_get dues i ≡ Some due → slice_get dues j ≡ Some from
      → Contains due.sources.items from.number → j < i
  pub due : AllByRecursion is_due dues
  pub known : (due : Due) (source : ℕ) → Contains dues due → Contains due.sources.items source
      → (Contains (numbers_of dues) source → ⊥) → is_known source

-- The figures of all dues, in their order from position 0 (own).
abbrev pub figures_of : (ℕ → Ends) → List Due → List Ends
figures_of worked dues = map (λ (due : Due). worked due.number) dues

-- Content of one slot of a round: a known figure, or the position of another due (own).
abbrev pub spot_for : (ℕ → Ends) → Slot → Spot
spot_for worked (slots.Kept number) = Fixed (worked number)
spot_for worked (slots.Due place) = Node place

-- The round in which the dues are nodes, by position from 0, with the figures that are worked out for them (own).
abbrev pub round_for : (ℕ → Ends) → List Due → Lists → BoardRound
round_for worked dues lists = record {
  places = map (map (spot_for worked)) lists.slots;
  dependants = lists.dependants;
  starts = lists.starts;
  worked = figures_of worked dues;
}

-- `lists` is the round of `dues`, which are workable; dues, and sources of each due, number fewer than 2^32 (own).
pub record IsGraphOf (is_known : ℕ → Type 0) (is_due : Due → Type 0) (dues : List Due) (lists : Lists) : Type 0 where
  pub workable : AreWorkable is_known is_due dues
  pub of : IsRoundOf dues lists
  pub few : length dues < 2 ^ 32
  pub few_sources : AllByRecursion (λ (due : Due). length due.sources.items < 2 ^ 32) dues
