-- Each source of a figure or a Block stands at a lower level.
use Rattle.std.proofs.Common.{◌≡◌, ◌⊎◌, inl, inr, ℕ, ◌+◌, ◌*◌, ◌-◌, ◌<◌, Bool, true, false, cond, Contains, List, [], ◌++◌, Option, Some, None, map, refl, sym, subst, arith}
use Rattle.std.specs.Prelude.{is_some}
use Rattle.std.specs.Option.{option_map_or}
use Rattle.std.proofs.lemmas.List.Elements.{Contains-append_cases}
use Rattle.scr_funds.proofs.Members.{IsMember-from_Contains, Contains-from_IsMember, IsMember-map}
use Rattle.scr_sum_tree.specs.Readers.{added_by}
use Rattle.scr_sum_tree.specs.declared.blocks.Level.{Level}
use Rattle.scr_sum_tree.specs.declared.blocks.Level.TheVariants as levels
use Rattle.scr_sum_tree.specs.declared.readers.Reader.TheVariants as readers
use Rattle.scr_sum_tree.proofs.Read.{IsOwn, added-only, firsts-only, members-only}
use Rattle.scr_nodes.specs.declared.node.Measure.TheVariants as measures
use Rattle.scr_nodes.specs.declared.node.Node.{Node}
use Rattle.scr_nodes.specs.declared.node.Node.TheVariants as nodes
use Rattle.scr_nodes.specs.declared.node.OfCurrency.TheVariants as of_currencies
use Rattle.scr_nodes.specs.declared.node.OfGroup.TheVariants as of_groups
use Rattle.scr_nodes.specs.declared.node.Whole.TheVariants as wholes
use Rattle.scr_sheet.specs.declared.rows.Class.TheVariants as classes
use Rattle.scr_nodes.specs.Levels.{level}
use Rattle.scr_nodes.specs.Sources.{sources_of}
use Rattle.scr_block_graph.specs.Graph.{Rolled, block_point, member_point, roll_in, sources_in, tops_of}
use Rattle.scr_block_graph.specs.Levels.{block_level, level_in}
use Rattle.scr_block_graph.specs.Sums.{first_sum, member_of, reader_of, second_sum}
use Rattle.scr_block_graph.specs.declared.point.Point.{Point}
use Rattle.scr_block_graph.specs.declared.point.Point.TheVariants as points
use Rattle.scr_block_graph.specs.declared.sum.Sum.{Sum}
use Rattle.scr_block_graph.specs.declared.sum.Sum.TheVariants as sums

-- the figure of a member stands lower than the reader of the sum
member-lower : (sum : Sum) (name : List ℕ) → level (member_of sum name) < level (reader_of sum)
member-lower (sums.Class class) name = omega arith
member-lower sums.Closed name = omega arith
member-lower sums.Spreads name = omega arith
member-lower sums.Grouped name = omega arith
member-lower (sums.Group group) name = omega arith
member-lower (sums.Assets currency) name = omega arith
member-lower (sums.Rates currency direction) name = omega arith
member-lower (sums.Costs currency direction) name = omega arith
member-lower (sums.Presents currency) name = omega arith
member-lower (sums.Losses biometric projection) name = omega arith
member-lower sums.Squares name = omega arith

-- whatever is reckoned from a sum stands at one level
first-level : (node : Node) → option_map_or (λ s. level (reader_of s)) (first_sum node) (level node) ≡ level node
first-level (nodes.Group name of_groups.Total) = refl
first-level (nodes.Currency currency (of_currencies.Loss direction)) = refl
first-level (nodes.Currency currency (of_currencies.Scenario direction measures.Gross)) = refl
first-level (nodes.Whole (wholes.ClassSum class)) = refl
first-level (nodes.Whole wholes.Spread) = refl
first-level (nodes.Whole wholes.Assets) = refl
first-level (nodes.Whole wholes.Concentration) = refl
first-level (nodes.Whole (wholes.BioScenario biometric projection measures.Gross)) = refl
first-level node = refl

second-level : (node : Node) → option_map_or (λ s. level (reader_of s)) (second_sum node) (level node) ≡ level node
second-level (nodes.Currency currency (of_currencies.Loss direction)) = refl
second-level (nodes.Currency currency (of_currencies.Scenario direction measures.Gross)) = refl
second-level (nodes.Whole (wholes.ClassSum classes.Type2Equity)) = refl
second-level node = refl

module _ (book : Rolled) where
  tops-lower : (sum : Option Sum) (at : ℕ) → option_map_or (λ s. level (reader_of s)) sum at ≡ at → (source : Point)
      → Contains (tops_of book sum) source → level_in source < 3 * at
  tops-lower None at is source h = absurd (IsMember-from_Contains [] source h)
  tops-lower (Some sum) at is source h = by (added-only (member_point sum) (block_point sum) (roll_in book sum) readers.Whole tt source h)
    where
      top : (level : Level) → block_level sum level < 3 * at
      top levels.First = omega (arith, is, member-lower sum [])
      top levels.Second = omega (arith, is, member-lower sum [])

      by : IsOwn (member_point sum) (block_point sum) (roll_in book sum) source → level_in source < 3 * at
      by (inl m) = subst (λ p. level_in p < 3 * at) m.2 (omega (arith, is, member-lower sum m.0))
      by (inr b) = subst (λ p. level_in p < 3 * at) b.3 (top b.0)

  pub sources-lower : ((node source : Node) → 0 < level node → Contains (sources_of book.sheet node) source → level source < level node)
      → (point source : Point) → 0 < level_in point → Contains (sources_in book point) source → level_in source < level_in point
  sources-lower falls (points.Figure node) source some h = by (is_some (first_sum node)) h
    where
      by : (t : Bool) → Contains (cond t (tops_of book (first_sum node) ++ tops_of book (second_sum node)) (map points.Figure (sources_of book.sheet node))) source
          → level_in source < 3 * level node
      by true h = either (Contains-append_cases (tops_of book (first_sum node)) (tops_of book (second_sum node)) source h)
        where
          either : Contains (tops_of book (first_sum node)) source ⊎ Contains (tops_of book (second_sum node)) source → level_in source < 3 * level node
          either (inl one) = tops-lower (first_sum node) (level node) (first-level node) source one
          either (inr two) = tops-lower (second_sum node) (level node) (second-level node) source two
      by false h =
          let s = IsMember-map points.Figure (sources_of book.sheet node) source
          (IsMember-from_Contains (map points.Figure (sources_of book.sheet node)) source h) in
          let lower = falls node s.0 (omega (arith, some)) (Contains-from_IsMember (sources_of book.sheet node) s.0 s.1) in
          subst (λ p. level_in p < 3 * level node) s.2 (omega (arith, lower))
  sources-lower falls (points.Block block) source some h = by block.level refl h
    where
      by : (level : Level) → block.level ≡ level → Contains (added_by (member_point block.sum) (block_point block.sum) (roll_in book block.sum) (readers.Block level block.index)) source
          → level_in source < block_level block.sum block.level
      by levels.First e h =
          let m = members-only (member_point block.sum) (block_point block.sum) (roll_in book block.sum) block.index source h in
          subst (λ p. level_in p < block_level block.sum block.level) m.2
          (subst (λ l. 3 * level (member_of block.sum m.0) < block_level block.sum l) (sym e) (omega (arith, member-lower block.sum m.0)))
      by levels.Second e h =
          let k = firsts-only (member_point block.sum) (block_point block.sum) (roll_in book block.sum) block.index source h in
          subst (λ p. level_in p < block_level block.sum block.level) k.2
          (subst (λ l. block_level block.sum levels.First < block_level block.sum l) (sym e) (omega (arith, member-lower block.sum [])))
