-- The figures of a row, each right by itself, are those of the row.
use Rattle.std.proofs.Common.{◌≡◌, ◌++◌, append_assoc, is_some, ℕ, zero, suc, ◌+◌, ◌<◌, true, false, List, [], ◌∷◌, Some, slice_get, refl, sym, ap, ap₂, subst, ◌∙◌, arith}
use Rattle.std.specs.Option.{option_map, option_map_or}
use Rattle.std.proofs.lemmas.Bool.{and_parts}
use Rattle.scr_num.specs.Amounts.{IsAmount}
use Rattle.scr_num.specs.Rounding.{Ends, ends}
use Rattle.scr_num.specs.declared.span.Span.{Span}
use Rattle.scr_factors.specs.Values.{FactorValues, IsInForm}
use Rattle.scr_profile.specs.declared.limits.TheConstants.{MAX_HELD}
use Rattle.scr_ids.specs.Ranges.{Numbered, stride}
use Rattle.scr_figure_ids.specs.Families.{family_of, name_of, table_of}
use Rattle.scr_figure_ids.specs.Numbers.{IsNumbered, names_in}
use Rattle.scr_figure_ids.proofs.Told.{told}
use Rattle.scr_sheet.specs.BalanceSheet.{position_of}
use Rattle.scr_sheet.specs.declared.{keys.Projection.Projection, rows.Group.Group, rows.Liability.Liability, rows.Position.Position, sheet.BalanceSheet.BalanceSheet}
use Rattle.scr_sheet.specs.declared.keys.Projection.TheVariants as projections
use Rattle.scr_sheet.specs.declared.rows.Class.TheVariants as classes
use Rattle.scr_sheet.specs.Validity.{Valid}
use Rattle.scr_nodes.specs.Live.{is_live}
use Rattle.scr_nodes.specs.OwnOf.{own_of}
use Rattle.scr_nodes.specs.Rows.{has_class, has_flows, is_paying, is_stress, liability_of}
use Rattle.scr_nodes.specs.Sources.{concentration_square, group_loss, group_total, liability_loss, liability_present, liability_rate, security_rate, security_spread, security_total, unit_loss}
use Rattle.scr_nodes.proofs.LiveSources.{passes-own}
use Rattle.scr_nodes.specs.declared.node.Node.{Node}
use Rattle.scr_nodes.specs.declared.node.Direction.{Direction}
use Rattle.scr_nodes.specs.declared.node.Direction.TheVariants.{Up, Down}
use Rattle.scr_parallel.specs.declared.rows.Sort.{Sort}
use Rattle.scr_parallel.specs.declared.rows.Sort.TheVariants as sorts
use Rattle.scr_discounts.specs.Discounts.{CurrencyDiscounts}
use Rattle.scr_discounts.specs.Kept.{all_discounts}
use Rattle.scr_rules.specs.ByRow.{by_rule}
use Rattle.scr_rules.specs.Fits.{Fits}
use Rattle.scr_rules.specs.Worked.{worked}
use Rattle.scr_rules.specs.declared.liability_rows.Estimate.{Estimate}
use Rattle.scr_rules.specs.declared.security_rows.SecurityLosses.{SecurityLosses}
use Rattle.scr_rules.proofs.Ranges.{node-fits}
use Rattle.scr_tree.specs.RowSpans.{AreEstimates, AreLosses, IsOfRow, IsRowOf, IsRowPart, sort_table}
use Rattle.scr_tree.proofs.ByRow.{by-rule-worked}
use Rattle.scr_tree.proofs.FirstRows.{group-named, liability-named, liability-own, security-named, security-own, stress-live}

-- ---- span by span

module _ (factors : FactorValues) (sheet : BalanceSheet) (sort : Sort) (k : ℕ) where
  pub part-none : (from : ℕ) → IsRowPart factors sheet sort k from 0 []
  part-none from = record { count = refl; right = λ node j of family low. absurd (omega (arith, low)) }

  pub part-cons : (node : Node) (from many : ℕ) (span : Span) (rest : List Span) → table_of node ≡ sort_table sort
      → slice_get (names_in sheet (sort_table sort)) k ≡ Some (name_of node) → family_of node ≡ from → from < stride (sort_table sort)
      → (is_live sheet node ≡ true → ends span ≡ worked factors sheet node)
      → IsRowPart factors sheet sort k (from + 1) many rest → IsRowPart factors sheet sort k from (many + 1) (span ∷ rest)
  part-cons node from many span rest table named own few right more = record {
    count = let count = more.count in omega (arith, count);
    right = each;
  }
    where
      one : (n : Node) → IsOfRow sheet sort k n → family_of n ≡ from → n ≡ node
      one n of family =
          let both : Some (name_of n) ≡ Some (name_of node) = sym of.named ∙ named in
          let name : name_of n ≡ name_of node = cc in
          told n node (of.table ∙ sym table) (family ∙ sym own) name
          (subst (λ f. f < stride (table_of n)) (sym family) (subst (λ t. from < stride t) (sym of.table) few))

      each : (n : Node) (j : ℕ) → IsOfRow sheet sort k n → family_of n ≡ from + j → j < many + 1
          → option_map ends (slice_get (span ∷ rest) j) ≡ Some (worked factors sheet n)
      each n zero of family low =
          let same = one n of (omega (arith, family)) in
          ap Some (right (subst (λ m. is_live sheet m ≡ true) same of.live)) ∙ ap (λ m. Some (worked factors sheet m)) (sym same)
      each n (suc j) of family low = more.right n j of (omega (arith, family)) (omega (arith, low))

-- one span more
pub push-on : (before now next own : List Span) (span : Span) → now ≡ before ++ own → next ≡ now ++ span ∷ []
    → next ≡ before ++ (own ++ span ∷ [])
push-on before now next own span so_far more = more ∙ ap (λ xs. xs ++ span ∷ []) so_far ∙ append_assoc before own (span ∷ [])

-- ---- rows

module _ (factors : FactorValues) (sheet : BalanceSheet) (valid : Valid sheet) (places : Numbered) (numbered : IsNumbered sheet places) where
  -- a security
  module _ (k : ℕ) (p : Position) (at : slice_get sheet.securities k ≡ Some p) where
    named : slice_get (names_in sheet (sort_table sorts.Security)) k ≡ Some p.security.name
    named = security-named sheet valid places numbered k p at

    pays : (direction : Direction) → is_live sheet (unit_loss direction p) ≡ true → is_paying p ≡ true
    pays direction live = sym (ap (λ o. option_map_or is_paying o false) (security-own sheet valid places numbered k p at)) ∙ live

    bond : is_live sheet (security_spread p) ≡ true → has_class classes.Bond p ≡ true
    bond live = sym (ap (λ o. option_map_or (has_class classes.Bond) o false) (security-own sheet valid places numbered k p at)) ∙ live

    pub security-row : (total spread : Span) (losses : SecurityLosses) → ends total ≡ worked factors sheet (security_total p)
        → (is_paying p ≡ true → AreLosses factors sheet p losses)
        → (has_class classes.Bond p ≡ true → ends spread ≡ worked factors sheet (security_spread p))
        → IsRowOf factors sheet sorts.Security k
        (total ∷ losses.unit_up ∷ losses.unit_down ∷ losses.rate_up ∷ losses.rate_down ∷ spread ∷ [])
    security-row total spread losses total_right losses_right spread_right =
        part-cons factors sheet sorts.Security k (security_total p) 0 5 total
        (losses.unit_up ∷ losses.unit_down ∷ losses.rate_up ∷ losses.rate_down ∷ spread ∷ []) refl named refl (omega arith)
        (λ live. total_right)
        (part-cons factors sheet sorts.Security k (unit_loss Up p) 1 4 losses.unit_up
        (losses.unit_down ∷ losses.rate_up ∷ losses.rate_down ∷ spread ∷ []) refl named refl (omega arith)
        (λ live. (losses_right (pays Up live)).unit_up)
        (part-cons factors sheet sorts.Security k (unit_loss Down p) 2 3 losses.unit_down
        (losses.rate_up ∷ losses.rate_down ∷ spread ∷ []) refl named refl (omega arith)
        (λ live. (losses_right (pays Down live)).unit_down)
        (part-cons factors sheet sorts.Security k (security_rate Up p) 3 2 losses.rate_up
        (losses.rate_down ∷ spread ∷ []) refl named refl (omega arith)
        (λ live. (losses_right (pays Up live)).rate_up)
        (part-cons factors sheet sorts.Security k (security_rate Down p) 4 1 losses.rate_down
        (spread ∷ []) refl named refl (omega arith)
        (λ live. (losses_right (pays Down live)).rate_down)
        (part-cons factors sheet sorts.Security k (security_spread p) 5 0 spread [] refl named refl (omega arith)
        (λ live. spread_right (bond live)) (part-none factors sheet sorts.Security k 6))))))

  -- a liability
  module _ (k : ℕ) (l : Liability) (at : slice_get sheet.liabilities k ≡ Some l) where
    its : slice_get (names_in sheet (sort_table sorts.Liability)) k ≡ Some l.name
    its = liability-named sheet valid places numbered k l at

    flows : (projection : Projection) → is_live sheet (liability_loss projection l) ≡ true → has_flows projection l ≡ true
    flows projection live =
        let has = (and_parts (is_stress projection) (option_map_or (has_flows projection) (liability_of l.name sheet.liabilities) false) live).1 in
        sym (ap (λ o. option_map_or (has_flows projection) o false) (liability-own sheet valid places numbered k l at)) ∙ has

    stress-cons : (projection : Projection) (many : ℕ) (span : Span) (rest : List Span) (from : ℕ) → family_of (liability_loss projection l) ≡ from → from < 12
        → (has_flows projection l ≡ true → ends span ≡ worked factors sheet (liability_loss projection l))
        → IsRowPart factors sheet sorts.Liability k (from + 1) many rest
        → IsRowPart factors sheet sorts.Liability k from (many + 1) (span ∷ rest)
    stress-cons projection many span rest from family few right more =
        part-cons factors sheet sorts.Liability k (liability_loss projection l) from many span rest refl its family few
        (λ live. right (flows projection live)) more

    pub liability-row : (estimate : Estimate) (a b c d e f g h i : Span) → AreEstimates factors sheet l estimate
        → (has_flows projections.Mortality l ≡ true → ends a ≡ worked factors sheet (liability_loss projections.Mortality l))
        → (has_flows projections.Longevity l ≡ true → ends b ≡ worked factors sheet (liability_loss projections.Longevity l))
        → (has_flows projections.Disability l ≡ true → ends c ≡ worked factors sheet (liability_loss projections.Disability l))
        → (has_flows projections.Expense l ≡ true → ends d ≡ worked factors sheet (liability_loss projections.Expense l))
        → (has_flows projections.Revision l ≡ true → ends e ≡ worked factors sheet (liability_loss projections.Revision l))
        → (has_flows projections.LapseUp l ≡ true → ends f ≡ worked factors sheet (liability_loss projections.LapseUp l))
        → (has_flows projections.LapseDown l ≡ true → ends g ≡ worked factors sheet (liability_loss projections.LapseDown l))
        → (has_flows projections.LapseMass l ≡ true → ends h ≡ worked factors sheet (liability_loss projections.LapseMass l))
        → (has_flows projections.Catastrophe l ≡ true → ends i ≡ worked factors sheet (liability_loss projections.Catastrophe l))
        → IsRowOf factors sheet sorts.Liability k
        (estimate.rate_up ∷ estimate.rate_down ∷ estimate.present ∷ a ∷ b ∷ c ∷ d ∷ e ∷ f ∷ g ∷ h ∷ i ∷ [])
    liability-row estimate a b c d e f g h i right ra rb rc rd re rf rg rh ri =
        part-cons factors sheet sorts.Liability k (liability_rate Up l) 0 11 estimate.rate_up
        (estimate.rate_down ∷ estimate.present ∷ a ∷ b ∷ c ∷ d ∷ e ∷ f ∷ g ∷ h ∷ i ∷ []) refl its refl (omega arith)
        (λ live. right.rate_up)
        (part-cons factors sheet sorts.Liability k (liability_rate Down l) 1 10 estimate.rate_down
        (estimate.present ∷ a ∷ b ∷ c ∷ d ∷ e ∷ f ∷ g ∷ h ∷ i ∷ []) refl its refl (omega arith)
        (λ live. right.rate_down)
        (part-cons factors sheet sorts.Liability k (liability_present l) 2 9 estimate.present
        (a ∷ b ∷ c ∷ d ∷ e ∷ f ∷ g ∷ h ∷ i ∷ []) refl its refl (omega arith)
        (λ live. right.present)
        (stress-cons projections.Mortality 8 a (b ∷ c ∷ d ∷ e ∷ f ∷ g ∷ h ∷ i ∷ []) 3 refl (omega arith) ra
        (stress-cons projections.Longevity 7 b (c ∷ d ∷ e ∷ f ∷ g ∷ h ∷ i ∷ []) 4 refl (omega arith) rb
        (stress-cons projections.Disability 6 c (d ∷ e ∷ f ∷ g ∷ h ∷ i ∷ []) 5 refl (omega arith) rc
        (stress-cons projections.Expense 5 d (e ∷ f ∷ g ∷ h ∷ i ∷ []) 6 refl (omega arith) rd
        (stress-cons projections.Revision 4 e (f ∷ g ∷ h ∷ i ∷ []) 7 refl (omega arith) re
        (stress-cons projections.LapseUp 3 f (g ∷ h ∷ i ∷ []) 8 refl (omega arith) rf
        (stress-cons projections.LapseDown 2 g (h ∷ i ∷ []) 9 refl (omega arith) rg
        (stress-cons projections.LapseMass 1 h (i ∷ []) 10 refl (omega arith) rh
        (stress-cons projections.Catastrophe 0 i [] 11 refl (omega arith) ri
        (part-none factors sheet sorts.Liability k 12))))))))))))

  -- a group
  module _ (k : ℕ) (h : Group) (at : slice_get sheet.groups k ≡ Some h) where
    known : slice_get (names_in sheet (sort_table sorts.Group)) k ≡ Some h.name
    known = group-named sheet valid k h at

    pub group-row : (total square loss : Span) → ends total ≡ worked factors sheet (group_total h)
        → ends square ≡ worked factors sheet (concentration_square h) → ends loss ≡ worked factors sheet (group_loss h)
        → IsRowOf factors sheet sorts.Group k (total ∷ square ∷ loss ∷ [])
    group-row total square loss total_right square_right loss_right =
        part-cons factors sheet sorts.Group k (group_total h) 0 2 total (square ∷ loss ∷ []) refl known refl (omega arith)
        (λ live. total_right)
        (part-cons factors sheet sorts.Group k (concentration_square h) 1 1 square (loss ∷ []) refl known refl (omega arith)
        (λ live. square_right)
        (part-cons factors sheet sorts.Group k (group_loss h) 2 0 loss [] refl known refl (omega arith)
        (λ live. loss_right) (part-none factors sheet sorts.Group k 3)))

-- ---- figures by their rules

module _ (factors : FactorValues) (form : IsInForm factors) (sheet : BalanceSheet) (valid : Valid sheet) (p : Position)
    (own : position_of p.security.name sheet.securities ≡ Some p) where
  paid : is_paying p ≡ true → (direction : Direction) → is_live sheet (unit_loss direction p) ≡ true
  paid pays direction = passes-own is_paying (position_of p.security.name sheet.securities) p own pays

  spreads : has_class classes.Bond p ≡ true → is_live sheet (security_spread p) ≡ true
  spreads bond = passes-own (has_class classes.Bond) (position_of p.security.name sheet.securities) p own bond

  -- the payments of a security are worth something of its total
  pub total-small : is_paying p ≡ true → (total : Span) → ends total ≡ worked factors sheet (security_total p) → IsAmount MAX_HELD (ends total)
  total-small pays total is =
      subst (IsAmount MAX_HELD) (sym is) (node-fits factors form sheet valid (security_rate Up p) (paid pays Up)).cents

  pub spread-fits : has_class classes.Bond p ≡ true → (total : Span) → ends total ≡ worked factors sheet (security_total p)
      → Fits (own_of factors sheet (security_spread p)) (ends total ∷ [])
  spread-fits bond total is =
      subst (λ e. Fits (own_of factors sheet (security_spread p)) (e ∷ [])) (sym is)
      (node-fits factors form sheet valid (security_spread p) (spreads bond))

  pub losses-right : is_paying p ≡ true → (rows : List CurrencyDiscounts) → rows ≡ all_discounts sheet → (total : Span) (losses : SecurityLosses)
      → ends total ≡ worked factors sheet (security_total p)
      → ends losses.unit_up ≡ by_rule factors sheet rows (unit_loss Up p) []
      → ends losses.unit_down ≡ by_rule factors sheet rows (unit_loss Down p) []
      → ends losses.rate_up ≡ by_rule factors sheet rows (security_rate Up p) (ends total ∷ ends losses.unit_up ∷ [])
      → ends losses.rate_down ≡ by_rule factors sheet rows (security_rate Down p) (ends total ∷ ends losses.unit_down ∷ [])
      → AreLosses factors sheet p losses
  losses-right pays rows kept total losses total_is up_is down_is rate_up_is rate_down_is =
      let live = paid pays in
      let up : ends losses.unit_up ≡ worked factors sheet (unit_loss Up p) =
      up_is ∙ by-rule-worked factors sheet valid form (unit_loss Up p) (live Up) rows kept [] refl in
      let down : ends losses.unit_down ≡ worked factors sheet (unit_loss Down p) =
      down_is ∙ by-rule-worked factors sheet valid form (unit_loss Down p) (live Down) rows kept [] refl in
      record {
        unit_up = up;
        unit_down = down;
        rate_up = rate_up_is ∙ by-rule-worked factors sheet valid form (security_rate Up p) (live Up) rows kept
            (ends total ∷ ends losses.unit_up ∷ []) (ap₂ (λ (x : Ends) (y : Ends). x ∷ y ∷ []) total_is up);
        rate_down = rate_down_is ∙ by-rule-worked factors sheet valid form (security_rate Down p) (live Down) rows kept
            (ends total ∷ ends losses.unit_down ∷ []) (ap₂ (λ (x : Ends) (y : Ends). x ∷ y ∷ []) total_is down);
      }

  pub spread-right : has_class classes.Bond p ≡ true → (total spread : Span) → ends total ≡ worked factors sheet (security_total p)
      → ends spread ≡ by_rule factors sheet [] (security_spread p) (ends total ∷ [])
      → ends spread ≡ worked factors sheet (security_spread p)
  spread-right bond total spread total_is spread_is =
      spread_is ∙ by-rule-worked factors sheet valid form (security_spread p) (spreads bond)
      (all_discounts sheet) refl (ends total ∷ []) (ap (λ (x : Ends). x ∷ []) total_is)

module _ (factors : FactorValues) (form : IsInForm factors) (sheet : BalanceSheet) (valid : Valid sheet) (places : Numbered)
    (numbered : IsNumbered sheet places) (k : ℕ) (l : Liability) (at : slice_get sheet.liabilities k ≡ Some l) where
  lives : is_live sheet (liability_present l) ≡ true
  lives = ap is_some (liability-own sheet valid places numbered k l at)

  pub estimates-right : (rows : List CurrencyDiscounts) → rows ≡ all_discounts sheet → (estimate : Estimate)
      → ends estimate.rate_up ≡ by_rule factors sheet rows (liability_rate Up l) []
      → ends estimate.rate_down ≡ by_rule factors sheet rows (liability_rate Down l) []
      → ends estimate.present ≡ by_rule factors sheet rows (liability_present l) [] → AreEstimates factors sheet l estimate
  estimates-right rows kept estimate up_is down_is present_is = record {
    rate_up = up_is ∙ by-rule-worked factors sheet valid form (liability_rate Up l) lives rows kept [] refl;
    rate_down = down_is ∙ by-rule-worked factors sheet valid form (liability_rate Down l) lives rows kept [] refl;
    present = present_is ∙ by-rule-worked factors sheet valid form (liability_present l) lives rows kept [] refl;
  }

  pub stress-right : (projection : Projection) → is_stress projection ≡ true → has_flows projection l ≡ true
      → (rows : List CurrencyDiscounts) → rows ≡ all_discounts sheet → (loss : Span)
      → ends loss ≡ by_rule factors sheet rows (liability_loss projection l) []
      → ends loss ≡ worked factors sheet (liability_loss projection l)
  stress-right projection stress has rows kept loss loss_is =
      loss_is ∙ by-rule-worked factors sheet valid form (liability_loss projection l)
      (stress-live sheet valid places numbered k l at projection stress has) rows kept [] refl
