-- The components of all funds (how they are listed is this project's own): for each fund, named by its place in this
-- list, the list of its components in the order of its record. A fund past the end of the list has none.
use Rattle.std.specs.Prelude.{ℕ, ◌+◌, ◌-◌, ◌<◌, max, All, List, [], ◌++◌, if◌then◌else◌, nat_eq, length, fold, replicate, slice_index_or, slice_set}
use Rattle.scr_funds.specs.Chains.{IsAcyclic}

abbrev pub Components : Type 0
Components = List (List ℕ)

-- the components of one fund
abbrev pub components_of : Components → ℕ → List ℕ
components_of all fund = slice_index_or all fund []

-- the number above all funds and components that were ever named
abbrev pub size_of : Components → ℕ
size_of all = length all

-- the components of one fund replaced
abbrev pub with_components : ℕ → List ℕ → Components → Components
with_components fund members all = slice_set all fund members

-- at least that many places: those that are new have no components
abbrev pub grown : ℕ → Components → Components
grown size all = all ++ replicate (size - length all) []

-- the least number above a fund and its components
abbrev pub number_above : ℕ → List ℕ → ℕ
number_above fund members = fold max fund members + 1

-- the edges of one fund added, with places for the fund and for all its components
abbrev pub with_edges : ℕ → List ℕ → Components → Components
with_edges fund members all = with_components fund members (grown (number_above fund members) all)

-- the components of each fund, where one fund has these and every other its own
abbrev pub components_with : ℕ → List ℕ → Components → ℕ → List ℕ
components_with from members all fund = if nat_eq fund from then members else components_of all fund

-- both ends of each edge of a fund are below the number
abbrev pub AreBelow : ℕ → ℕ → List ℕ → Type 0
AreBelow size fund members = All (λ member. (fund < size) × (member < size)) members

-- nothing leads to itself, and all ends of edges are below the size
pub record IsOrder (all : Components) : Type 0 where
  pub acyclic : IsAcyclic (components_of all)
  pub below : (fund : ℕ) → AreBelow (size_of all) fund (components_of all fund)
