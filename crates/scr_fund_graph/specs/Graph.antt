-- Which funds hold which, by name (Article 84 of Delegated Regulation (EU) 2015/35). A name is entered with the first
-- fund that holds it or that it is. It has a number then, its place among those that were entered, and keeps it for good.
use Rattle.std.specs.Prelude.{◌≡◌, ℕ, zero, suc, ℤ, ◌||◌, Bool, List, [], ◌∷◌, ◌++◌, filter, if◌then◌else◌, map, slice_index_or}
use Rattle.std.specs.List.{list_any}
use Rattle.indexmap.specs.IndexSet.{insert_key}
use Rattle.scr_funds.specs.Components.{Components, components_of}
use Rattle.scr_tables.specs.Names.{same_name}

-- the names that were entered, in their order, and for each number the numbers of its components
pub record Graph : Type 0 where
  pub names : List (List ℕ)
  pub components : Components

-- the place of a name in a list of names; what is not in the list has the place after the last
abbrev pub number_in : List (List ℕ) → List ℕ → ℕ
number_in [] name = zero
number_in (first ∷ names) name = if same_name name first then zero else suc (number_in names name)

-- the name was entered
abbrev pub entered_in : Graph → List ℕ → Bool
entered_in graph name = list_any (same_name name) graph.names

-- the names of the components under a name, in the order of its record; none under what was not entered
abbrev pub components_under : Graph → List ℕ → List (List ℕ)
components_under graph name =
    map (λ k. slice_index_or graph.names k []) (components_of graph.components (number_in graph.names name))

-- the same, where the fund has these components in the place of its own
abbrev pub components_after : List ℕ → List (List ℕ × ℤ) → Graph → List ℕ → List (List ℕ)
components_after fund components graph name =
    if same_name name fund then map (λ c. c.0) components else components_under graph name

-- the name was entered or is that of the fund
abbrev pub is_known : List ℕ → Graph → List ℕ → Bool
is_known fund graph name = same_name name fund || entered_in graph name

-- those of the components that are known, in their order
abbrev pub known_among : List ℕ → List (List ℕ × ℤ) → Graph → List (List ℕ × ℤ)
known_among fund components graph = filter (λ c. is_known fund graph c.0) components

-- the name is that of one of the components
abbrev pub is_component : List ℕ → List (List ℕ × ℤ) → Bool
is_component name components = list_any (λ c. same_name name c.0) components

-- the names once these are entered in turn: one that is not there goes last
abbrev pub with_names : List (List ℕ) → List (List ℕ) → List (List ℕ)
with_names [] names = names
with_names (new ∷ more) names = with_names more (insert_key same_name names new)

-- the first names are those of before
abbrev pub BeginsWith : List (List ℕ) → List (List ℕ) → Type 0
BeginsWith before names = (more : List (List ℕ)) × (names ≡ before ++ more)
