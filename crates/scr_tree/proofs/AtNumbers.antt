-- What stands at a number, by the table of the row that has it.
use Rattle.std.proofs.Common.{◌≡◌, ◌⊎◌, inl, inr, ℕ, zero, suc, ◌<◌, true, List, length, map, Some, slice_get, refl, subst, ◌∙◌, arith}
use Rattle.scr_figure_ids.specs.Families.{family_of, table_of}
use Rattle.scr_figure_ids.specs.Numbers.{StandsAt}
use Rattle.scr_figure_ids.proofs.Standing.{figure-or-part}
use Rattle.scr_member_index.specs.declared.lists.Lists.{Lists}
use Rattle.scr_ids.specs.Ranges.{IsApart, IsAt, Numbered, count}
use Rattle.scr_ids.specs.declared.table.Table.{Table}
use Rattle.scr_ids.specs.declared.table.Table.TheVariants as ranged
use Rattle.scr_book.specs.RolledSheets.{RolledSheet}
use Rattle.scr_sheet.specs.BalanceSheet.{group_name}
use Rattle.scr_nodes.specs.declared.node.Node.{Node}
use Rattle.scr_nodes.specs.declared.node.Node.TheVariants as nodes
use Rattle.scr_nodes.specs.declared.node.OfGroup.{OfGroup}
use Rattle.scr_nodes.specs.declared.node.OfGroup.TheVariants as of_groups
use Rattle.scr_nodes.specs.declared.node.Whole.{Whole}
use Rattle.scr_nodes.specs.declared.node.Whole.TheVariants as wholes
use Rattle.scr_reachability.specs.LinkedDues.{IsLiveAt}
use Rattle.scr_block_graph.specs.BlockNumbers.{place_of}
use Rattle.scr_block_graph.specs.Books.{rolled_of}
use Rattle.scr_block_graph.specs.Graph.{is_live_in}
use Rattle.scr_block_graph.specs.declared.point.Block.{Block}
use Rattle.scr_block_graph.specs.declared.point.Point.{Point}
use Rattle.scr_block_graph.specs.declared.point.Point.TheVariants as points
use Rattle.scr_tree.specs.Marking.{AreMarkedMore, IsPlainDependantAt, assets}
use Rattle.scr_tree.specs.Points.{AreNumbersOf, StandsIn, book_graph}
use Rattle.scr_tree.proofs.Dependants.{ByMember, ByRow, plain-cases}
use Rattle.scr_tree.proofs.FirstRows.{got-row}
use Rattle.scr_tree.proofs.MarkedMore.{marked-none}
use Rattle.scr_tree.proofs.OfRows.{group-stands}
use Rattle.scr_tree.proofs.PlainReaders.{RowReads}

-- of the whole sheet the assets alone are read by rows
whole-reads : (what : Whole) (node : Node) → RowReads (nodes.Whole what) node → what ≡ wholes.Assets
whole-reads wholes.Assets node r = refl
whole-reads what node r = absurd r

module _ (book : RolledSheet) (places : Numbered) (lists : Lists) (numbers : AreNumbersOf book places lists) (number : ℕ) where
  -- no figure of a row, and no Block, has the number of the assets
  pub no-assets : IsApart places → (table : Table) (k j : ℕ) → IsAt places table k j number → (table ≡ ranged.Whole → ⊥) → StandsIn book places lists assets number → ⊥
  no-assets apart table k j at other here = other (apart number table k j ranged.Whole here.k 153 at here.at).tables

  abbrev Live : Type 0
  Live = IsLiveAt (book_graph (rolled_of book)) (StandsIn book places lists) number

  -- each live point has the number of a place
  pub no-place : ((table : Table) (k j : ℕ) → IsAt places table k j number → ⊥) → Live → ⊥
  no-place none (points.Figure node, s, live) = none (table_of node) s.k (family_of node) s.at
  no-place none (points.Block block, s, live) = none ranged.Part s.slot (place_of block.sum) s.at

  -- a Block has the number of a part
  pub block-at : IsApart places → (k j : ℕ) → IsAt places ranged.Part k j number → Live
      → (block : Block) × StandsIn book places lists (points.Block block) number × (is_live_in (rolled_of book) (points.Block block) ≡ true)
  block-at apart k j at (point, s, live) = by point s live
    where
      by : (point : Point) → StandsIn book places lists point number → is_live_in (rolled_of book) point ≡ true
          → (block : Block) × StandsIn book places lists (points.Block block) number × (is_live_in (rolled_of book) (points.Block block) ≡ true)
      by (points.Block block) s live = (block, s, live)
      by (points.Figure node) s live = absurd (figure-or-part book.sheet places apart node number s k j at)

  -- nothing but what is linked is reckoned from a figure of a currency, nor from one of the whole sheet but the assets
  pub none-plain : IsApart places → (table : Table) (k j : ℕ) → IsAt places table k j number → (table ≡ ranged.Whole) ⊎ (table ≡ ranged.Currency)
      → (StandsIn book places lists assets number → ⊥) → Live → (list : List ℕ) → AreMarkedMore (IsPlainDependantAt book places lists number) list list
  none-plain apart table k j at which others (point, s, live) list = by point s
    where
      from : (source : Node) → StandsAt book.sheet places source number → ((other : ℕ) → ByRow book places lists numbers source other → ⊥)
          → ((other : ℕ) → ByMember book places lists numbers source other → ⊥) → AreMarkedMore (IsPlainDependantAt book places lists number) list list
      from source s rows members =
          marked-none (IsPlainDependantAt book places lists number) list (λ other p. of-both other (plain-cases book places lists numbers source number s other p))
        where
          of-both : (other : ℕ) → ByMember book places lists numbers source other ⊎ ByRow book places lists numbers source other → ⊥
          of-both other (inl m) = members other m
          of-both other (inr r) = rows other r

      never : (one : Table) → (one ≡ table) → (one ≡ ranged.Whole → ⊥) → (one ≡ ranged.Currency → ⊥) → ⊥
      never one same whole currency = of which
        where
          of : (table ≡ ranged.Whole) ⊎ (table ≡ ranged.Currency) → ⊥
          of (inl e) = whole (same ∙ e)
          of (inr e) = currency (same ∙ e)

      same-table : (node : Node) → StandsAt book.sheet places node number → table_of node ≡ table
      same-table node s = (apart number (table_of node) s.k (family_of node) table k j s.at at).tables

      by : (point : Point) → StandsIn book places lists point number → AreMarkedMore (IsPlainDependantAt book places lists number) list list
      by (points.Block block) s =
          absurd (never ranged.Part (apart number ranged.Part s.slot (place_of block.sum) table k j s.at at).tables (λ e. absurd (cc)) (λ e. absurd (cc)))
      by (points.Figure (nodes.Currency currency what)) s = from (nodes.Currency currency what) s (λ other r. r.reads) (λ other m. m.adds)
      by (points.Figure (nodes.Whole what)) s =
          from (nodes.Whole what) s
          (λ other r. others (subst (λ w. StandsAt book.sheet places (nodes.Whole w) number) (whole-reads what r.node r.reads) s)) (λ other m. m.adds)
      by (points.Figure (nodes.Fund name what)) s = absurd (never ranged.Fund (same-table (nodes.Fund name what) s) (λ e. absurd (cc)) (λ e. absurd (cc)))
      by (points.Figure (nodes.Security name what)) s = absurd (never ranged.Security (same-table (nodes.Security name what) s) (λ e. absurd (cc)) (λ e. absurd (cc)))
      by (points.Figure (nodes.Liability name what)) s = absurd (never ranged.Liability (same-table (nodes.Liability name what) s) (λ e. absurd (cc)) (λ e. absurd (cc)))
      by (points.Figure (nodes.Group name what)) s = absurd (never ranged.Group (same-table (nodes.Group name what) s) (λ e. absurd (cc)) (λ e. absurd (cc)))

  -- a fund has one number
  pub fund-first : (k j : ℕ) → IsAt places ranged.Fund k j number → IsAt places ranged.Fund k 0 number
  fund-first k j at =
      let few : j < 1 = at.family in
      subst (λ i. IsAt places ranged.Fund k i number) (let none : j ≡ 0 = omega (arith, few) in none) at

  -- a figure of a group has the number of one of its row's
  pub record GroupAt : Type 0 where
    pub name : List ℕ
    pub what : OfGroup
    pub at : StandsAt book.sheet places (nodes.Group name what) number

  -- the name of the row of a group
  pub group-named : (row j : ℕ) → IsAt places ranged.Group row j number → (name : List ℕ) × (slice_get (map group_name book.sheet.groups) row ≡ Some name)
  group-named row j at =
      let low : row < count places ranged.Group = at.row in
      let rows : count places ranged.Group ≡ length (map group_name book.sheet.groups) = numbers.numbered.rows ranged.Group refl in
      got-row (map group_name book.sheet.groups) row (omega (arith, low, rows))

  pub group-at : (row j : ℕ) → IsAt places ranged.Group row j number → GroupAt
  group-at row zero at = let own = group-named row 0 at in record { name = own.0; what = of_groups.Total; at = group-stands book places lists numbers row own.0 own.1 of_groups.Total number at }
  group-at row (suc zero) at =
      let own = group-named row 1 at in
      record { name = own.0; what = of_groups.ConcentrationSquare; at = group-stands book places lists numbers row own.0 own.1 of_groups.ConcentrationSquare number at }
  group-at row (suc (suc zero)) at =
      let own = group-named row 2 at in record { name = own.0; what = of_groups.Loss; at = group-stands book places lists numbers row own.0 own.1 of_groups.Loss number at }
  group-at row (suc (suc (suc j))) at = let few : suc (suc (suc j)) < 3 = at.family in absurd (omega (arith, few))
