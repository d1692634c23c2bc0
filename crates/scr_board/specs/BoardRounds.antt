-- A round of figures: the places of its nodes, and the figure of each.
use Rattle.std.specs.Prelude.{◌≡◌, ℕ, ◌<◌, ◌^◌, List, [], ◌∷◌, Option, Some, length, map, slice_get, slice_index_or}
use Rattle.std.specs.List.{AllByRecursion}
use Rattle.scr_num.specs.Rounding.{Ends}
use Rattle.scr_board.specs.declared.lists.Round.{Round}
use Rattle.scr_board.specs.Rounds.{IsFormed}
use Rattle.scr_board.specs.Words.{words_of}

-- a known figure, or a node
pub data Spot : Type 0 where
  Fixed : Ends → Spot
  Node : ℕ → Spot

-- each node's places in the order of its rule, its dependants, the nodes without a source, and the figure of each node
pub record BoardRound : Type 0 where
  pub places : List (List Spot)
  pub dependants : List (List ℕ)
  pub starts : List ℕ
  pub worked : List Ends

-- Positions of the nodes in a row of places, in their order; fixed figures are left out (own).
abbrev pub nodes_in : List Spot → List ℕ
nodes_in [] = []
nodes_in (Node m ∷ row) = m ∷ nodes_in row
nodes_in (Fixed e ∷ row) = nodes_in row

-- The row of places of node `n`, from 0; none past the last node (own).
abbrev pub places_at : BoardRound → ℕ → List Spot
places_at round n = slice_index_or round.places n []

-- the round as plain lists of numbers
abbrev pub lists_of : BoardRound → Round
lists_of round = record {
  sources = map nodes_in round.places;
  dependants = round.dependants;
  starts = round.starts;
  words = map words_of round.worked;
}

-- what a place gives
abbrev pub given : List Ends → Spot → Option Ends
given worked (Fixed e) = Some e
given worked (Node m) = slice_get worked m

-- one figure for each place of the node: the known one, or that of the node that the place names
abbrev pub AreGiven : BoardRound → ℕ → List Ends → Type 0
AreGiven round n got = map Some got ≡ map (given round.worked) (places_at round n)

-- The figure of each node is the rule on what its places give.
abbrev pub IsRoundWorked : (ℕ → List Ends → Ends) → BoardRound → Type 0
IsRoundWorked rule round = (n : ℕ) (got : List Ends) → n < length round.places → AreGiven round n got
    → slice_get round.worked n ≡ Some (rule n got)

-- The nodes form a round, each has a figure, and all is few enough to be counted in 32 bits.
pub record IsBoardRound (round : BoardRound) : Type 0 where
  pub form : IsFormed (lists_of round)
  pub long : length round.worked ≡ length round.places
  pub known : length round.dependants ≡ length round.places
  pub few : length round.places < 2 ^ 32
  pub few_places : AllByRecursion (λ row. length row < 2 ^ 32) round.places
  pub few_dependants : AllByRecursion (λ row. length row < 2 ^ 32) round.dependants
