-- How the order of funds is kept (this project's own): a row and a rank for each fund, and a mark for whatever was ever a
-- component.
use Rattle.std.specs.Prelude.{◌≡◌, ℕ, ◌≤◌, Bool, true, Contains, List, length}
use Rattle.scr_funds.specs.Components.{Components, IsOrder, components_of, size_of}
use Rattle.scr_funds.specs.Marks.{IsMarked}
use Rattle.scr_funds.specs.Ranks.{AreRanked, rank_of}
use Rattle.scr_funds.specs.Search.{rows_of}
use Rattle.scr_funds.specs.declared.order.FundOrder.TheInside.{Inside}

abbrev pub components_in : Inside → Components
components_in inside = rows_of inside.rows.items

-- Nothing leads to itself, and each component has its mark, for which there is a place.
pub record IsMarkedOrder (all : Components) (marks : List Bool) : Type 0 where
  pub order : IsOrder all
  pub marked : (fund component : ℕ) → Contains (components_of all fund) component → IsMarked marks component
  pub long : size_of all ≤ length marks

-- The same, and where the ranks are in order one falls along each edge. Each fund has a place for its rank.
pub record IsRankedOrder (all : Components) (marks : List Bool) (ranks : List ℕ) (are_ranked : Bool) : Type 0 where
  pub order : IsOrder all
  pub marked : (fund component : ℕ) → Contains (components_of all fund) component → IsMarked marks component
  pub long : size_of all ≤ length marks
  pub ranked : are_ranked ≡ true → AreRanked (components_of all) (rank_of ranks)
  pub places : size_of all ≤ length ranks

abbrev pub IsInOrder : Inside → Type 0
IsInOrder inside = IsRankedOrder (components_in inside) inside.marks.items inside.ranks.items inside.are_ranked
