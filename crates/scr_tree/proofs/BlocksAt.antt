-- The point that has a number, by its part or by its row.
use Rattle.std.proofs.Common.{◌≡◌, ◌≢◌, ℕ, ◌*◌, Bool, true, false, List, [], Some, None, length, refl, sym, ap, subst, ◌∙◌, arith}
use Rattle.std.specs.Prelude.{nat_lt}
use Rattle.std.proofs.lemmas.Bool.{and_parts, ltb-true}
use Rattle.scr_sum_tree.specs.Blocks.{is_block}
use Rattle.scr_sum_tree.specs.declared.blocks.Level.{Level}
use Rattle.scr_sum_tree.specs.declared.blocks.Level.TheVariants as levels
use Rattle.scr_ids.specs.Ranges.{IsApart, IsAt, IsOne, Numbered}
use Rattle.scr_ids.specs.declared.table.Table.{Table as Ranged}
use Rattle.scr_ids.specs.declared.table.Table.TheVariants as ranged
use Rattle.scr_sum_slots.specs.PartNumbers.{PartAt}
use Rattle.scr_sum_slots.specs.Parts.{AreOwn, part_at, slot_of}
use Rattle.scr_sum_slots.specs.declared.parts.Part.{Part}
use Rattle.scr_sum_slots.proofs.Views.{no-some, one-some}
use Rattle.scr_sheet.specs.Members.{table_of}
use Rattle.scr_sheet.specs.declared.roll.Roll.{Roll}
use Rattle.scr_sheet.specs.declared.roll.Roll.TheVariants as rolls
use Rattle.scr_book.specs.RolledSheets.{RolledSheet}
use Rattle.scr_book.specs.Rolls.{number_of_roll, roll_of}
use Rattle.scr_book.proofs.RollSettled.{own-table}
use Rattle.scr_nodes.specs.Levels.{level}
use Rattle.scr_nodes.specs.declared.node.Node.{Node}
use Rattle.scr_figure_ids.specs.Families.{family_of, table_of as table_of_figure}
use Rattle.scr_figure_ids.specs.Numbers.{is_of_sheet}
use Rattle.scr_figure_ids.proofs.Standing.{of-sheet}
use Rattle.scr_member_index.specs.declared.lists.Lists.{Lists}
use Rattle.scr_block_graph.specs.BlockNumbers.{list_number, part_of, place_of, sole, sum_at}
use Rattle.scr_block_graph.specs.Books.{rolled_of}
use Rattle.scr_block_graph.specs.Graph.{is_live_in, reads, roll_in}
use Rattle.scr_block_graph.specs.Levels.{level_in}
use Rattle.scr_block_graph.specs.Sums.{roll_of as sum_roll}
use Rattle.scr_block_graph.specs.declared.point.Block.{Block}
use Rattle.scr_block_graph.specs.declared.point.Point.{Point}
use Rattle.scr_block_graph.specs.declared.point.Point.TheVariants as points
use Rattle.scr_block_graph.specs.declared.sum.Sum.{Sum}
use Rattle.scr_block_graph.proofs.ListNumbers.{lists-apart}
use Rattle.scr_block_graph.proofs.SumsAt.{at-own, only-own}
use Rattle.scr_tree.specs.Marking.{is_of_squares}
use Rattle.scr_tree.specs.Points.{AreNumbersOf, StandsIn}
use Rattle.scr_tree.specs.Reading.{IsRollOf}
use Rattle.scr_tree.proofs.FirstMembers.{IsListOf, list-same, one-list, sole-list}
use Rattle.scr_tree.proofs.RollSeats.{sole-number}

-- ---- the bonds have one list with their class

sole-sum : (roll : Roll) (place : ℕ) → sum_at (sole roll) place ≡ sum_at roll place
sole-sum (rolls.Class class) place = refl
sole-sum rolls.Closed place = refl
sole-sum rolls.Bonds place = refl
sole-sum rolls.Grouped place = refl
sole-sum (rolls.Group group) place = refl
sole-sum (rolls.Assets currency) place = refl
sole-sum (rolls.Flows currency) place = refl
sole-sum (rolls.Lines currency) place = refl
sole-sum (rolls.Losses kind projection) place = refl
sole-sum rolls.Groups place = refl

-- ---- a list without members has no Block

never-below : (i : ℕ) → nat_lt i 0 ≡ false
never-below i = by (nat_lt i 0) refl
  where
    by : (t : Bool) → nat_lt i 0 ≡ t → nat_lt i 0 ≡ false
    by true e = let low = ltb-true i 0 e in absurd (omega (arith, low))
    by false e = e

no-block : (level : Level) (i : ℕ) → is_block 0 level i ≡ false
no-block levels.First i = never-below i
no-block levels.Second i = never-below i

-- ---- Blocks

module _ (book : RolledSheet) (places : Numbered) (lists : Lists) (are : AreNumbersOf book places lists) (number : ℕ) where
  as-part : (block : Block) (at : StandsIn book places lists (points.Block block) number)
      → PartAt lists.parts places (part_of at.roll block) (place_of block.sum) number
  as-part block at = record { slot = at.slot; held = at.part; at = at.at }

  pub not-part : ((part : Part) (place : ℕ) → PartAt lists.parts places part place number → ⊥) → (block : Block)
      → StandsIn book places lists (points.Block block) number → ⊥
  not-part none block at = none (part_of at.roll block) (place_of block.sum) (as-part block at)

  module _ (part : Part) (place : ℕ) (found : PartAt lists.parts places part place number) where
    -- the Block of the sum over the list of a part
    pub block-stands : (roll : Roll) → IsRollOf book.rolls part.list roll → (sum : Sum) → sum_at roll place ≡ Some sum
        → StandsIn book places lists (points.Block (record { sum = sum; level = part.level; index = part.index })) number
    block-stands roll of sum is =
        let own = only-own roll place sum is in
        let list : list_number (sum_roll sum) of.number ≡ part.list =
        sym (sole-list (sum_roll sum) of.number) ∙ ap (λ r. list_number r of.number) own.0 ∙ sole-list roll of.number ∙ of.is in
        record {
          roll = of.number;
          numbered = sym (sole-number book.rolls (sum_roll sum)) ∙ ap (λ r. number_of_roll r book.rolls) own.0 ∙ sole-number book.rolls roll ∙ of.numbered;
          slot = found.slot;
          part = ap (λ l. slot_of (record { list = l; level = part.level; index = part.index }) lists.parts) list ∙ found.held;
          at = subst (λ k. IsAt places ranged.Part found.slot k number) (sym own.1) found.at;
        }

    module _ (apart : IsApart places) (own : AreOwn lists.parts) (block : Block) (at : StandsIn book places lists (points.Block block) number) where
      one : IsOne ranged.Part at.slot (place_of block.sum) ranged.Part found.slot place
      one = apart number ranged.Part at.slot (place_of block.sum) ranged.Part found.slot place at.at found.at

      part-is : part_of at.roll block ≡ part
      part-is =
          one-some (sym (own.own (part_of at.roll block) at.slot at.part) ∙ ap (λ s. part_at s lists.parts) one.rows ∙ own.own part found.slot found.held)

      -- the list of the Block is that of the part
      block-roll : IsRollOf book.rolls part.list (sum_roll block.sum)
      block-roll = record { number = at.roll; numbered = at.numbered; is = ap (λ (p : Part). p.list) part-is }

      pub not-roll : ((roll : Roll) → IsRollOf book.rolls part.list roll → roll_of roll book.rolls ≡ []) → is_live_in (rolled_of book) (points.Block block) ≡ true → ⊥
      not-roll none live =
          let is = (and_parts (reads book.sheet block.sum) (is_block (length (roll_in (rolled_of book) block.sum)) block.level block.index) live).1 in
          let empty = none (sum_roll block.sum) block-roll in
          let never : true ≡ false =
          sym is ∙ ap (λ (ms : List (List ℕ)). is_block (length ms) block.level block.index) empty ∙ no-block block.level block.index in
          absurd (cc)

      pub not-sum : (roll : Roll) → IsRollOf book.rolls part.list roll → sum_at roll place ≡ None → ⊥
      unfolding block-roll
      not-sum roll of none =
          let same : IsListOf (sum_roll block.sum) at.roll (table_of roll) of.number =
          one-list (sum_roll block.sum) (table_of roll) (own-table roll) at.roll of.number
          (block-roll.is ∙ sym of.is ∙ list-same roll of.number) in
          let list : sole (sum_roll block.sum) ≡ sole roll =
          (lists-apart book.rolls are.rolls.numbered).apart (sum_roll block.sum) roll of.number (at.numbered ∙ ap Some same.number_is) of.numbered same.table_is in
          no-some
          (sym none ∙ sym (sole-sum roll place) ∙ ap (λ r. sum_at r place) (sym list) ∙ sole-sum (sum_roll block.sum) place
          ∙ ap (sum_at (sum_roll block.sum)) (sym one.families) ∙ at-own block.sum)

  -- ---- figures and Blocks

  pub unplaced : ((table : Ranged) (k j : ℕ) → IsAt places table k j number → ⊥) → (point : Point) → StandsIn book places lists point number → ⊥
  unplaced none (points.Figure node) at = none (table_of_figure node) at.k (family_of node) at.at
  unplaced none (points.Block block) at = none ranged.Part at.slot (place_of block.sum) at.at

  module _ (apart : IsApart places) (table : Ranged) (row family : ℕ) (is : IsAt places table row family number) where
    block-off : table ≢ ranged.Part → (block : Block) → StandsIn book places lists (points.Block block) number → ⊥
    block-off ne block at = ne (apart number table row family ranged.Part at.slot (place_of block.sum) is at.at).tables

    figure-off : table ≡ ranged.Part → (node : Node) → StandsIn book places lists (points.Figure node) number → ⊥
    figure-off part node at =
        let same : table_of_figure node ≡ ranged.Part =
        (apart number (table_of_figure node) at.k (family_of node) table row family at.at is).tables ∙ part in
        let never : true ≡ false = sym (of-sheet node) ∙ ap is_of_sheet same in
        absurd (cc)

    -- a number of a part is a Block's, and any other a figure's
    pub not-block : table ≡ ranged.Part
        → ((block : Block) → StandsIn book places lists (points.Block block) number → is_live_in (rolled_of book) (points.Block block) ≡ true → ⊥)
        → (point : Point) → StandsIn book places lists point number → is_live_in (rolled_of book) point ≡ true → ⊥
    not-block part none (points.Figure node) at live = figure-off part node at
    not-block part none (points.Block block) at live = none block at live

    pub not-figure : table ≢ ranged.Part → ((node : Node) → StandsIn book places lists (points.Figure node) number → ⊥)
        → (point : Point) → StandsIn book places lists point number → ⊥
    not-figure ne none (points.Figure node) at = none node at
    not-figure ne none (points.Block block) at = block-off ne block at

    pub level-told : table ≢ ranged.Part → (low : ℕ) → ((node : Node) → table_of_figure node ≡ table → family_of node ≡ family → level node ≡ low)
        → (point : Point) → StandsIn book places lists point number → 3 * low ≡ level_in point
    level-told ne low told (points.Figure node) at =
        let one = apart number (table_of_figure node) at.k (family_of node) table row family at.at is in
        ap (λ n. 3 * n) (sym (told node one.tables one.families))
    level-told ne low told (points.Block block) at = absurd (block-off ne block at)

    pub squares-told : table ≢ ranged.Part → (own : Bool)
        → ((node : Node) → table_of_figure node ≡ table → family_of node ≡ family → own ≡ is_of_squares (points.Figure node))
        → (point : Point) → StandsIn book places lists point number → own ≡ is_of_squares point
    squares-told ne own told (points.Figure node) at =
        let one = apart number (table_of_figure node) at.k (family_of node) table row family at.at is in
        told node one.tables one.families
    squares-told ne own told (points.Block block) at = absurd (block-off ne block at)
