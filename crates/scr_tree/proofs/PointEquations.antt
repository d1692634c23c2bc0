-- The equation of a point of a book: its rule on what its sources are worth.
use Rattle.std.proofs.Common.{◌≡◌, ℕ, ◌++◌, ◌||◌, Bool, true, false, cond, List, Some, length, map, refl, sym, ap, ap₂, ◌∙◌}
use Rattle.std.specs.Prelude.{is_some}
use Rattle.std.specs.List.{list_any}
use Rattle.std.proofs.lemmas.List.{length-map, map-append}
use Rattle.scr_num.specs.Rounding.{Ends}
use Rattle.scr_num.specs.Sums.{sum_ends}
use Rattle.scr_sum_tree.specs.Blocks.{top_count}
use Rattle.scr_sum_tree.proofs.Regrouped.{map-map}
use Rattle.scr_sum_tree.proofs.TopChanges.{length-tops}
use Rattle.scr_factors.specs.Values.{FactorValues}
use Rattle.scr_sheet.specs.Validity.{Valid}
use Rattle.scr_nodes.specs.Own.Own.{Foreign}
use Rattle.scr_nodes.specs.OwnOf.{held_in, own_of}
use Rattle.scr_nodes.specs.Sources.{sources_of}
use Rattle.scr_nodes.specs.declared.node.Direction.{Direction}
use Rattle.scr_nodes.specs.declared.node.Measure.TheVariants as measures
use Rattle.scr_nodes.specs.declared.node.Node.{Node}
use Rattle.scr_nodes.specs.declared.node.Node.TheVariants as nodes
use Rattle.scr_nodes.specs.declared.node.OfCurrency.TheVariants as of_currencies
use Rattle.scr_nodes.specs.declared.node.OfGroup.TheVariants as of_groups
use Rattle.scr_nodes.specs.declared.node.Whole.TheVariants as wholes
use Rattle.scr_rules.specs.BySums.{is_of_sum}
use Rattle.scr_rules.specs.Close.{close_under, is_open_choice}
use Rattle.scr_rules.specs.Discounts.{own_discounts}
use Rattle.scr_rules.specs.MarketRules.{foreign_ends}
use Rattle.scr_rules.specs.Rules.{amount_of, rule}
use Rattle.scr_rules.specs.Worked.{worked}
use Rattle.scr_rules.proofs.BySums.{rule-by-sum, rule-by-two-sums}
use Rattle.scr_rules.proofs.Equations.{close-equation, worked-equation}
use Rattle.scr_block_graph.specs.Changed.{own_in}
use Rattle.scr_block_graph.specs.Graph.{AreRolls, Rolled, block_point, listed, member_point, roll_in, sources_in, tops_of, worth_in}
use Rattle.scr_block_graph.specs.Sums.{first_sum, second_sum}
use Rattle.scr_block_graph.specs.declared.point.Point.{Point}
use Rattle.scr_block_graph.specs.declared.point.Point.TheVariants as points
use Rattle.scr_block_graph.specs.declared.sum.Sum.TheVariants as sums
use Rattle.scr_block_graph.proofs.Listed.{sources-listed}
use Rattle.scr_block_graph.proofs.Worth.{any-summed, block-sources, ends-summed, ends-tops}
use Rattle.scr_tree.specs.Opening.{opens_at}

module _ (factors : FactorValues) (book : Rolled) (valid : Valid book.sheet) (rolls : AreRolls book) where
  abbrev worth : Point → Ends
  worth point = worth_in sum_ends (worked factors book.sheet) book point

  abbrev pub Obeys : Point → Type 0
  Obeys point = worth point ≡ rule (own_in factors book point) (own_discounts (own_in factors book point)) (map worth (sources_in book point))

  -- a figure that sees its sources by their sum alone
  summed : (node : Node) → is_some (first_sum node) ≡ true → is_of_sum (own_of factors book.sheet node) ≡ true
      → worked factors book.sheet node
      ≡ rule (own_of factors book.sheet node) (own_discounts (own_of factors book.sheet node)) (map worth (sources_in book (points.Figure node)))
  summed node some of =
      worked-equation factors book.sheet valid node
      ∙ rule-by-sum (own_of factors book.sheet node) (own_discounts (own_of factors book.sheet node))
      (map (worked factors book.sheet) (sources_of book.sheet node)) (map worth (sources_in book (points.Figure node))) of
      (sym (ends-summed (worked factors book.sheet) book valid rolls node some))

  -- one of which the sources are those in the balance sheet
  plain : (node : Node) → worked factors book.sheet node
      ≡ rule (own_of factors book.sheet node) (own_discounts (own_of factors book.sheet node)) (map worth (map points.Figure (sources_of book.sheet node)))
  plain node =
      worked-equation factors book.sheet valid node
      ∙ ap (rule (own_of factors book.sheet node) (own_discounts (own_of factors book.sheet node))) (sym (map-map worth points.Figure (sources_of book.sheet node)))

  -- a scenario of a foreign currency sees two sums
  module _ (currency : List ℕ) (direction : Direction) where
    abbrev scenario : Node
    scenario = nodes.Currency currency (of_currencies.Scenario direction measures.Gross)

    abbrev held : List Ends
    held = map (worked factors book.sheet) (listed book.sheet (Some (sums.Assets currency)))

    abbrev owed : List Ends
    owed = map (worked factors book.sheet) (listed book.sheet (Some (sums.Presents currency)))

    abbrev held_tops : List Ends
    held_tops = map worth (tops_of book (Some (sums.Assets currency)))

    abbrev owed_tops : List Ends
    owed_tops = map worth (tops_of book (Some (sums.Presents currency)))

    count : held_in currency book.sheet ≡ length held
    count = sym (length-map (listed book.sheet (Some (sums.Assets currency))) (worked factors book.sheet)
        ∙ length-map _ _ ∙ length-map _ _)

    tops_counted : length held_tops ≡ top_count (length (roll_in book (sums.Assets currency)))
    tops_counted = length-map (tops_of book (Some (sums.Assets currency))) worth
        ∙ length-tops (member_point (sums.Assets currency)) (block_point (sums.Assets currency)) (roll_in book (sums.Assets currency))

    by-rows : worked factors book.sheet scenario ≡ foreign_ends direction (amount_of (sum_ends held)) (sum_ends owed)
    by-rows =
        worked-equation factors book.sheet valid scenario
        ∙ ap₂ (λ n figures. rule (Foreign direction n) (own_discounts (own_of factors book.sheet scenario)) figures) count
        (ap (map (worked factors book.sheet)) (sources-listed book.sheet scenario refl)
        ∙ map-append (worked factors book.sheet) (listed book.sheet (Some (sums.Assets currency))) (listed book.sheet (Some (sums.Presents currency))))
        ∙ rule-by-two-sums direction (own_discounts (own_of factors book.sheet scenario)) held owed

    by-tops : rule (own_in factors book (points.Figure scenario)) (own_discounts (own_in factors book (points.Figure scenario))) (map worth (sources_in book (points.Figure scenario)))
        ≡ foreign_ends direction (amount_of (sum_ends held_tops)) (sum_ends owed_tops)
    by-tops =
        ap₂ (λ n figures. rule (Foreign direction n) (own_discounts (own_in factors book (points.Figure scenario))) figures) (sym tops_counted)
        (map-append worth (tops_of book (Some (sums.Assets currency))) (tops_of book (Some (sums.Presents currency))))
        ∙ rule-by-two-sums direction (own_discounts (own_in factors book (points.Figure scenario))) held_tops owed_tops

    pub foreign : Obeys (points.Figure scenario)
    foreign =
        by-rows
        ∙ ap₂ (λ one two. foreign_ends direction (amount_of one) two)
        (sym (ends-tops (worked factors book.sheet) book valid rolls (Some (sums.Assets currency))))
        (sym (ends-tops (worked factors book.sheet) book valid rolls (Some (sums.Presents currency))))
        ∙ sym by-tops

  of-figure : (node : Node) → Obeys (points.Figure node)
  of-figure (nodes.Group name of_groups.Total) = summed (nodes.Group name of_groups.Total) refl refl
  of-figure (nodes.Currency currency (of_currencies.Loss direction)) = summed (nodes.Currency currency (of_currencies.Loss direction)) refl refl
  of-figure (nodes.Currency currency (of_currencies.Scenario direction measures.Gross)) = foreign currency direction
  of-figure (nodes.Whole (wholes.ClassSum class)) = summed (nodes.Whole (wholes.ClassSum class)) refl refl
  of-figure (nodes.Whole wholes.Spread) = summed (nodes.Whole wholes.Spread) refl refl
  of-figure (nodes.Whole wholes.Assets) = summed (nodes.Whole wholes.Assets) refl refl
  of-figure (nodes.Whole wholes.Concentration) = summed (nodes.Whole wholes.Concentration) refl refl
  of-figure (nodes.Whole (wholes.BioScenario biometric projection measures.Gross)) =
      summed (nodes.Whole (wholes.BioScenario biometric projection measures.Gross)) refl refl
  of-figure node = plain node

  pub obeys : (point : Point) → Obeys point
  obeys (points.Figure node) = of-figure node
  obeys (points.Block block) = block-sources sum_ends (worked factors book.sheet) book block.sum block.level block.index

-- ---- open choices

module _ (factors : FactorValues) (book : Rolled) (valid : Valid book.sheet) (rolls : AreRolls book) where
  abbrev closes : Point → Bool
  closes point = worth_in (list_any (λ b. b)) (close_under factors book.sheet) book point

  abbrev listed_by : Node → Bool → List Point
  listed_by node t = cond t (tops_of book (first_sum node) ++ tops_of book (second_sum node)) (map points.Figure (sources_of book.sheet node))

  -- one of the sources, in whichever graph
  any-source : (node : Node) → list_any (λ b. b) (map (close_under factors book.sheet) (sources_of book.sheet node))
      ≡ list_any (λ b. b) (map closes (sources_in book (points.Figure node)))
  any-source node = by (is_some (first_sum node)) refl
    where
      by : (t : Bool) → is_some (first_sum node) ≡ t → list_any (λ b. b) (map (close_under factors book.sheet) (sources_of book.sheet node))
          ≡ list_any (λ b. b) (map closes (sources_in book (points.Figure node)))
      by true e = sym (any-summed (close_under factors book.sheet) book valid rolls node e)
      by false e =
          ap (list_any (λ b. b)) (sym (map-map closes points.Figure (sources_of book.sheet node)))
          ∙ ap (λ t. list_any (λ b. b) (map closes (listed_by node t))) (sym e)

  pub opens : (point : Point) → closes point ≡ (opens_at factors book.sheet point || list_any (λ b. b) (map closes (sources_in book point)))
  opens (points.Figure node) = close-equation factors book.sheet valid node ∙ ap (λ b. is_open_choice factors book.sheet node || b) (any-source node)
  opens (points.Block block) = block-sources (list_any (λ b. b)) (close_under factors book.sheet) book block.sum block.level block.index
