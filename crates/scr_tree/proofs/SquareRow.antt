-- The square of the group in a row, from the figures of the assets and of the group's total.
use Rattle.std.proofs.Common.{◌≡◌, ◌||◌, ℕ, ◌-◌, ◌<◌, Bool, true, false, All, List, [], ◌∷◌, length, map, Some, slice_get, refl, sym, ap, ap₂, subst, ◌∙◌, arith}
use Rattle.std.specs.Option.{option_map}
use Rattle.scr_num.specs.Amounts.{IsAmount}
use Rattle.scr_num.specs.Rounding.{ends}
use Rattle.scr_num.specs.declared.span.Span.{Span}
use Rattle.scr_factors.specs.Values.{IsInForm}
use Rattle.scr_profile.specs.declared.limits.TheConstants.{MAX_HELD}
use Rattle.scr_sheet.specs.BalanceSheet.{group_name}
use Rattle.scr_sheet.specs.declared.rows.Group.{Group}
use Rattle.scr_ids.specs.Ranges.{count}
use Rattle.scr_ids.specs.declared.table.Table.TheVariants as ranged
use Rattle.scr_nodes.specs.Live.{is_live}
use Rattle.scr_nodes.specs.OwnOf.{own_of}
use Rattle.scr_nodes.specs.Rows.{group_of}
use Rattle.scr_nodes.specs.Sources.{concentration_square, group_total, sources_of}
use Rattle.scr_nodes.specs.declared.node.Node.{Node}
use Rattle.scr_nodes.specs.declared.node.Node.TheVariants as nodes
use Rattle.scr_nodes.specs.declared.node.Whole.TheVariants as wholes
use Rattle.scr_nodes.proofs.OwnRows.{own-groups}
use Rattle.scr_discounts.specs.Kept.{all_discounts}
use Rattle.scr_rules.specs.ByRow.{by_rule}
use Rattle.scr_rules.specs.Fits.{Fits}
use Rattle.scr_rules.specs.Rules.{amount_of}
use Rattle.scr_rules.specs.Worked.{worked}
use Rattle.scr_rules.proofs.GroupRows.{square-fits as group-fits}
use Rattle.scr_rules.proofs.Ranges.{node-fits}
use Rattle.scr_reachability.specs.Linked.{AreAt}
use Rattle.scr_partial_sums.specs.declared.figure.Figure.{Figure}
use Rattle.scr_block_graph.specs.Books.{rolled_of}
use Rattle.scr_block_graph.specs.Graph.{sources_in}
use Rattle.scr_block_graph.specs.declared.point.Point.TheVariants as points
use Rattle.scr_tree.specs.Figures.{HaveFigures, Worth, worth_of}
use Rattle.scr_tree.specs.AssetScales.{IsScaleOn}
use Rattle.scr_tree.specs.Ready.{IsBasis, IsReadyOn, IsRightOn, IsSquareOn, StandsOn, reckoning_on}
use Rattle.scr_tree.specs.declared.basis.Basis.{Basis}
use Rattle.scr_tree.proofs.ByRow.{by-rule-worked}
use Rattle.scr_tree.proofs.FirstRows.{each-get, got-map, group-live}
use Rattle.scr_tree.proofs.Here.{have-here, within-here}
use Rattle.scr_tree.proofs.PointSources.{square-sources}
use Rattle.scr_tree.proofs.Spanned.{point-right}
use Rattle.scr_tree.proofs.SquaresEntered.{rows}

or-false : (t : Bool) → (t || false) ≡ t
or-false true = refl
or-false false = refl

-- the figure that is read is that of the point
read-is : (worth : Worth) (figures : List Figure) (number : ℕ) (figure : Figure) → option_map worth_of (slice_get figures number) ≡ Some worth
    → slice_get figures number ≡ Some figure → worth_of figure ≡ worth
read-is worth figures number figure has here =
    let both : Some (worth_of figure) ≡ Some worth = sym (ap (option_map worth_of) here) ∙ has in cc

module _ (b : Basis) (is : IsBasis b) (row : ℕ) (group : Group) (got : slice_get b.inputs.book.now.sheet.groups row ≡ Some group)
    (number : ℕ) (one : IsSquareOn b row number) where
  abbrev Square : Node
  Square = concentration_square group

  pub square-row : group_of group.name b.inputs.book.now.sheet.groups ≡ Some group
  square-row = each-get (λ g. group_of (group_name g) b.inputs.book.now.sheet.groups ≡ Some g) b.inputs.book.now.sheet.groups row group
      (own-groups b.inputs.book.now.sheet is.valid) got

  pub square-stands : StandsOn b (points.Figure (concentration_square group)) number
  square-stands =
      let there = rows b.inputs.book.now b.places.now b.lists.now is.graph.numbers_of in
      let low : row < count b.places.now ranged.Group = omega (arith, one.0, there) in
      record {
        k = row;
        row = got-map group_name b.inputs.book.now.sheet.groups row group got;
        at = record { row = low; family = omega arith; is = one.1 };
      }

  pub square-lives : is_live b.inputs.book.now.sheet (concentration_square group) ≡ true
  square-lives = group-live b.inputs.book.now.sheet is.valid row group got

  below-at : AreAt (StandsOn b) (153 ∷ (number - 1) ∷ []) (sources_in (rolled_of b.inputs.book.now) (points.Figure Square))
  below-at = square-sources b.inputs.book.now b.places.now b.lists.now is.graph.numbers_of Square number refl square-stands

  module _ (figures : List Figure) (ready : IsReadyOn b figures number) where
    have : HaveFigures (reckoning_on b) figures (153 ∷ (number - 1) ∷ []) (sources_in (rolled_of b.inputs.book.now) (points.Figure Square))
    have = have-here b is figures number ready (points.Figure Square) square-stands (153 ∷ (number - 1) ∷ []) below-at

    pub square-within : All (λ source. source < length figures) (153 ∷ (number - 1) ∷ [])
    square-within = within-here b is figures number ready (points.Figure Square) square-stands (153 ∷ (number - 1) ∷ []) below-at

    pub assets-worth : (assets : Figure) → slice_get figures 153 ≡ Some assets
        → worth_of assets ≡ (reckoning_on b).worth (points.Figure (nodes.Whole wholes.Assets))
    assets-worth assets here = read-is _ figures 153 assets have.0 here

    -- that of the group's total stands before it
    pub total-right : (total : Figure) → slice_get figures (number - 1) ≡ Some total → IsRightOn b (number - 1) total
    total-right total here = λ point at.
        read-is _ figures (number - 1) total have.1.0 here
        ∙ ap (reckoning_on b).worth (is.graph.numbers_of.numbers.exact (number - 1) (points.Figure (group_total group)) point below-at.1.0 at)

    pub assets-amount : IsInForm b.inputs.factors.now → (assets : Figure) → slice_get figures 153 ≡ Some assets → IsAmount MAX_HELD (ends assets.span)
    assets-amount form assets here =
        subst (IsAmount MAX_HELD) (sym (ap (λ (w : Worth). w.worked) (assets-worth assets here)))
        (group-fits b.inputs.book.now.sheet group square-row b.inputs.factors.now (map (worked b.inputs.factors.now b.inputs.book.now.sheet) (sources_of b.inputs.book.now.sheet Square))
        (node-fits b.inputs.factors.now form b.inputs.book.now.sheet is.valid Square square-lives)).assets

    module _ (assets total : Figure) (first_is : worth_of assets ≡ (reckoning_on b).worth (points.Figure (nodes.Whole wholes.Assets)))
        (second_is : slice_get figures (number - 1) ≡ Some total) where
      below-worked : ends assets.span ∷ ends total.span ∷ [] ≡ map (worked b.inputs.factors.now b.inputs.book.now.sheet) (sources_of b.inputs.book.now.sheet Square)
      below-worked = ap₂ (λ (x : Worth) (y : Worth). x.worked ∷ y.worked ∷ [])
          first_is (read-is _ figures (number - 1) total have.1.0 second_is)

      pub square-fits : IsInForm b.inputs.factors.now
          → Fits (own_of b.inputs.factors.now b.inputs.book.now.sheet (concentration_square group)) (ends assets.span ∷ ends total.span ∷ [])
      square-fits form =
          subst (Fits (own_of b.inputs.factors.now b.inputs.book.now.sheet Square)) (sym below-worked)
          (node-fits b.inputs.factors.now form b.inputs.book.now.sheet is.valid Square square-lives)

      pub square-right : IsInForm b.inputs.factors.now → (span : Span) (close : Bool)
          → ends span ≡ by_rule b.inputs.factors.now b.inputs.book.now.sheet [] (concentration_square group) (ends assets.span ∷ ends total.span ∷ [])
          → close ≡ (assets.close || total.close)
          → worth_of (record { span = span; close = close }) ≡ (reckoning_on b).worth (points.Figure (concentration_square group))
      square-right form span close worked_is rests =
          point-right b is (points.Figure Square) span close (assets.close || (total.close || false))
          (worked_is
          ∙ by-rule-worked b.inputs.factors.now b.inputs.book.now.sheet is.valid form Square square-lives (all_discounts b.inputs.book.now.sheet) refl
          (ends assets.span ∷ ends total.span ∷ []) below-worked)
          (ap₂ (λ (x : Worth) (y : Worth). x.close || (y.close || false))
          first_is (read-is _ figures (number - 1) total have.1.0 second_is))
          (rests ∙ ap (λ t. assets.close || t) (sym (or-false total.close)))

-- ---- what all squares are measured by, known where that of the first can be reckoned

first-group : (groups : List Group) → 0 < length groups → (group : Group) × (slice_get groups 0 ≡ Some group)
first-group [] some = absurd (omega (arith, some))
first-group (group ∷ rest) some = (group, refl)

module _ (b : Basis) (is : IsBasis b) (number : ℕ) (one : IsSquareOn b 0 number) (figures : List Figure) (ready : IsReadyOn b figures number) where
  first : (group : Group) × (slice_get b.inputs.book.now.sheet.groups 0 ≡ Some group)
  first = first-group b.inputs.book.now.sheet.groups one.0

  pub scale-within : 153 < length figures
  scale-within = square-within b is 0 first.0 first.1 number one figures ready 0 0 (omega arith)

  pub scale-amount : IsInForm b.inputs.factors.now → (assets : Figure) → slice_get figures 153 ≡ Some assets → IsAmount MAX_HELD (ends assets.span)
  scale-amount = assets-amount b is 0 first.0 first.1 number one figures ready

  pub scale-right : (assets : Figure) (scale : ℕ) → slice_get figures 153 ≡ Some assets → scale ≡ amount_of (ends assets.span)
      → IsScaleOn b (record { scale = scale; close = assets.close })
  scale-right assets scale here cents = record {
    assets = assets;
    worth = assets-worth b is 0 first.0 first.1 number one figures ready assets here;
    cents = sym cents;
    close = refl;
  }
