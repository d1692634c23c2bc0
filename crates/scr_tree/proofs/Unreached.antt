-- The figures and Blocks that a record does not reach come to the same before and after it.
use Rattle.std.proofs.Common.{◌≡◌, ◌⊎◌, inl, inr, ◌||◌, ℕ, zero, suc, ◌+◌, ◌<◌, Bool, Contains, List, length, map, refl, sym, ap, ap₂, subst, ◌∙◌, arith}
use Rattle.std.specs.List.{list_any}
use Rattle.scr_funds.proofs.Members.{IsMember, IsMember-map, Contains-from_IsMember, at_member, each-from_members}
use Rattle.scr_num.specs.Rounding.{Ends}
use Rattle.scr_num.specs.Sums.{sum_ends}
use Rattle.scr_factors.specs.Values.{FactorValues}
use Rattle.scr_ids.specs.declared.table.Table.TheVariants as tables
use Rattle.scr_sheet.specs.Validity.{Valid}
use Rattle.scr_nodes.specs.declared.node.Node.{Node}
use Rattle.scr_nodes.specs.declared.node.Node.TheVariants as nodes
use Rattle.scr_nodes.specs.declared.node.OfFund.{OfFund}
use Rattle.scr_nodes.specs.Sources.{sources_of}
use Rattle.scr_nodes.proofs.Depth.{EndsIn, sources-end}
use Rattle.scr_nodes.proofs.Reckoning.{map-same}
use Rattle.scr_figure_ids.specs.Families.{table_of}
use Rattle.scr_rules.specs.Close.{close_under}
use Rattle.scr_rules.specs.Discounts.{own_discounts}
use Rattle.scr_rules.specs.Rules.{rule}
use Rattle.scr_rules.specs.Worked.{worked}
use Rattle.scr_block_graph.specs.Changed.{IsSameIn}
use Rattle.scr_block_graph.specs.Graph.{AreRolls, Rolled, sources_in, worth_in}
use Rattle.scr_block_graph.specs.Levels.{level_in}
use Rattle.scr_block_graph.specs.declared.point.Point.{Point}
use Rattle.scr_block_graph.specs.declared.point.Point.TheVariants as points
use Rattle.scr_tree.specs.Figures.{opens}
use Rattle.scr_tree.specs.Opening.{opens_at}
use Rattle.scr_tree.specs.Points.{IsFundPoint, point_worth}
use Rattle.scr_tree.proofs.Known.{opens-is}
use Rattle.scr_tree.proofs.Leveled.{book-leveled}
use Rattle.scr_tree.proofs.PointEquations.{obeys, opens as closes-by}

module _ (factors : FactorValues) (before after : Rolled) (valid_before : Valid before.sheet) (valid_after : Valid after.sheet)
    (rolls_before : AreRolls before) (rolls_after : AreRolls after) (In : Point → Type 0)
    (closed : (point source : Point) → In point → Contains (sources_in after point) source → In source)
    (same : (point : Point) → In point → IsSameIn factors before after point) where
  abbrev worth : Rolled → Point → Ends
  worth book point = worth_in sum_ends (worked factors book.sheet) book point

  abbrev closes : Rolled → Point → Bool
  closes book point = worth_in (list_any (λ b. b)) (close_under factors book.sheet) book point

  record IsAlike (point : Point) : Type 0 where
    worked_same : worth before point ≡ worth after point
    close_same : closes before point ≡ closes after point

  opens-same : (point : Point) → worth before point ≡ worth after point → opens_at factors before.sheet point ≡ opens_at factors after.sheet point
  opens-same (points.Figure node) e = sym (opens-is factors before.sheet node) ∙ ap (opens node) e ∙ opens-is factors after.sheet node
  opens-same (points.Block block) e = refl

  -- one whose sources come to the same
  step : (point : Point) → In point → ((source : Point) → IsMember source (sources_in after point) → IsAlike source) → IsAlike point
  step point within below = record { worked_same = first; close_same = second }
    where
      spans : map (worth before) (sources_in before point) ≡ map (worth after) (sources_in after point)
      spans =
          ap (map (worth before)) (same point within).sources
          ∙ map-same (worth before) (worth after) (sources_in after point)
          (each-from_members (λ source. worth before source ≡ worth after source) (sources_in after point) (λ source h. (below source h).worked_same))

      flags : map (closes before) (sources_in before point) ≡ map (closes after) (sources_in after point)
      flags =
          ap (map (closes before)) (same point within).sources
          ∙ map-same (closes before) (closes after) (sources_in after point)
          (each-from_members (λ source. closes before source ≡ closes after source) (sources_in after point) (λ source h. (below source h).close_same))

      first : worth before point ≡ worth after point
      first =
          obeys factors before valid_before rolls_before point
          ∙ ap₂ (λ own list. rule own (own_discounts own) list) (same point within).own spans
          ∙ sym (obeys factors after valid_after rolls_after point)

      second : closes before point ≡ closes after point
      second =
          closes-by factors before valid_before rolls_before point
          ∙ ap₂ (λ b list. b || list_any (λ b. b) list) (opens-same point first) flags
          ∙ sym (closes-by factors after valid_after rolls_after point)

  -- ---- totals of funds

  fund-source : (levels : ℕ) → ((name : List ℕ) (what : OfFund) → In (points.Figure (nodes.Fund name what)) → EndsIn after.sheet levels (nodes.Fund name what)
      → IsAlike (points.Figure (nodes.Fund name what))) → (node : Node) → table_of node ≡ tables.Fund → In (points.Figure node)
      → EndsIn after.sheet levels node → IsAlike (points.Figure node)
  fund-source levels rest (nodes.Fund name what) e within ends = rest name what within ends
  fund-source levels rest node e within ends = absurd (cc)

  fund-alike : (levels : ℕ) (name : List ℕ) (what : OfFund) → In (points.Figure (nodes.Fund name what))
      → EndsIn after.sheet levels (nodes.Fund name what) → IsAlike (points.Figure (nodes.Fund name what))
  fund-alike zero name what within ends = absurd ends
  fund-alike (suc levels) name what within ends =
      step (points.Figure (nodes.Fund name what)) within (λ source h.
      let m = IsMember-map points.Figure (sources_of after.sheet (nodes.Fund name what)) source h in
      let has : Contains (sources_in after (points.Figure (nodes.Fund name what))) source =
      Contains-from_IsMember (sources_in after (points.Figure (nodes.Fund name what))) source h in
      subst IsAlike m.2
      (fund-source levels (λ n w i e. fund-alike levels n w i e) m.0
      (subst IsFundPoint (sym m.2) ((book-leveled after).funds (points.Figure (nodes.Fund name what)) source refl has))
      (subst In (sym m.2) (closed (points.Figure (nodes.Fund name what)) source within has))
      (at_member (EndsIn after.sheet levels) (sources_of after.sheet (nodes.Fund name what)) m.0 ends m.1)))

  any-fund : (point : Point) → IsFundPoint point → In point → IsAlike point
  any-fund (points.Figure node) fund within =
      fund-source (length after.sheet.funds + 200) (λ n w i e. fund-alike (length after.sheet.funds + 200) n w i e) node fund within
      (sources-end after.sheet valid_after node)
  any-fund (points.Block block) fund within = absurd fund

  -- ---- all others, from the lowest level

  next : (height : ℕ) → ((point : Point) → level_in point < height → In point → IsAlike point) → (point source : Point)
      → level_in point < height + 1 → In source → Contains (sources_in after point) source
      → IsFundPoint source ⊎ (IsFundPoint source → ⊥) → IsAlike source
  next height rest point source l within has (inl fund) = any-fund source fund within
  next height rest point source l within has (inr other) =
      rest source (let less = (book-leveled after).lower point source has other in omega (arith, l, less)) within

  level-alike : (height : ℕ) (point : Point) → level_in point < height → In point → IsAlike point
  level-alike zero point l within = absurd (omega (arith, l))
  level-alike (suc height) point l within =
      step point within (λ source h.
      let has : Contains (sources_in after point) source = Contains-from_IsMember (sources_in after point) source h in
      next height (λ p q i. level-alike height p q i) point source (omega (arith, l)) (closed point source within has) has
      ((book-leveled after).either source))

  -- what the point comes to, and whether it rests on an open choice
  pub worth-kept : (point : Point) → In point → point_worth factors before point ≡ point_worth factors after point
  worth-kept point within =
      let alike = level-alike (level_in point + 1) point (omega arith) within in
      ap₂ (λ (e : Ends) (b : Bool). record { worked = e; close = b }) alike.worked_same alike.close_same
