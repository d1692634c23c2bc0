-- When payments and what they are discounted by are the same, and where the figures of payments stand.
use Rattle.std.proofs.Common.{◌≡◌, ℕ, ℤ, ◌+◌, ◌&&◌, Bool, true, List, [], ◌∷◌, ◌++◌, take, flat_map, Some, slice_get, inl, inr, refl, sym, ap, subst, ◌∙◌, append_assoc}
use Rattle.std.specs.Bool.{Decides}
use Rattle.std.proofs.lemmas.Bool.Decides.{Decides-and, Decides-like}
use Rattle.std.proofs.lemmas.List.{append-nil, take_more}
use Rattle.std.proofs.lemmas.List.Concat.{flat_map-append}
use Rattle.std.proofs.lemmas.Option.{get_or_from_slice_get, slice_get_within}
use Rattle.scr_dates.specs.declared.day.Day.{Day}
use Rattle.scr_funds.proofs.Members.{IsMember, IsMember-left, IsMember-mapped, IsMember-right}
use Rattle.scr_sheet.specs.BalanceSheet.{liability_name, position_name, position_of}
use Rattle.scr_sheet.specs.declared.keys.Projection.{Projection}
use Rattle.scr_sheet.specs.declared.keys.Projection.TheVariants as projections
use Rattle.scr_sheet.specs.declared.rows.Liability.{Liability}
use Rattle.scr_sheet.specs.declared.rows.Position.{Position}
use Rattle.scr_sheet.specs.declared.sheet.BalanceSheet.{BalanceSheet}
use Rattle.scr_nodes.specs.Own.{Own, Paid, Valued}
use Rattle.scr_nodes.specs.Own.Own.{Cost, Excess, Loss, Worth}
use Rattle.scr_nodes.specs.Rows.{is_stress, liability_of}
use Rattle.scr_nodes.specs.declared.node.Direction.{Direction}
use Rattle.scr_nodes.specs.declared.node.Direction.TheVariants as directions
use Rattle.scr_nodes.specs.declared.node.Node.{Node}
use Rattle.scr_nodes.specs.declared.node.Node.TheVariants as nodes
use Rattle.scr_nodes.specs.declared.node.OfSecurity.TheVariants as of_securities
use Rattle.scr_nodes.specs.declared.node.OfLiability.TheVariants as of_liabilities
use Rattle.scr_row_change.specs.Comparisons.{same_payments, same_rates}
use Rattle.scr_touched.specs.Payments.{liability_figures, loss_figures, payment_figures, security_figures, stresses, value_figures}
use Rattle.scr_row_change.proofs.Compared.{Decides-payments, Decides-rates}
use Rattle.scr_row_change.proofs.LookedUp.{found-figure, found-name}

-- ---- own data of payments

abbrev paid_in : Paid → Own → Paid
paid_in none (Loss paid) = paid
paid_in none (Cost paid) = paid
paid_in none own = none

abbrev valued_in : Valued → Own → Valued
valued_in none (Worth valued) = valued
valued_in none (Excess valued stressed) = valued
valued_in none own = none

abbrev stressed_in : Own → List (Day × ℤ)
stressed_in (Excess valued stressed) = stressed
stressed_in own = []

pub loss-told : (same : Bool) (x y : Paid) → Decides same (x ≡ y) → Decides same (Loss x ≡ Loss y)
loss-told same x y told = Decides-like same (λ e. ap Loss e) (λ e. ap (paid_in x) e) told

pub cost-told : (same : Bool) (x y : Paid) → Decides same (x ≡ y) → Decides same (Cost x ≡ Cost y)
cost-told same x y told = Decides-like same (λ e. ap Cost e) (λ e. ap (paid_in x) e) told

pub worth-told : (same : Bool) (x y : Valued) → Decides same (x ≡ y) → Decides same (Worth x ≡ Worth y)
worth-told same x y told = Decides-like same (λ e. ap Worth e) (λ e. ap (valued_in x) e) told

pub excess-told : (same : Bool) (x y : Valued) (stressed : List (Day × ℤ)) → Decides same (x ≡ y)
    → Decides same (Excess x stressed ≡ Excess y stressed)
excess-told same x y stressed told =
    Decides-like same (λ e. ap (λ v. Excess v stressed) e) (λ e. ap (valued_in x) e) told

pub excess-both : (same : Bool) (x y : Valued) (p q : List (Day × ℤ)) → Decides same (x ≡ y)
    → Decides (same && same_payments p q) (Excess x p ≡ Excess y q)
excess-both same x y p q told =
    Decides-like (same && same_payments p q) (λ h. λ i. Excess (h.0 i) (h.1 i))
    (λ e. (ap (valued_in x) e, ap stressed_in e))
    (Decides-and same (same_payments p q) told (Decides-payments p q))

-- ---- payments from a day, with their rates

abbrev pub paid : Direction → ℤ → List (Day × ℤ) → List ℤ → Paid
paid direction asof payments rates =
    record { asof = asof; payments = payments; rates = rates; direction = direction }

abbrev pub worth : ℤ → List (Day × ℤ) → List ℤ → Valued
worth asof payments rates = record { asof = asof; payments = payments; rates = rates }

-- payments and rates are compared
pub paid-compared : (direction : Direction) (asof : ℤ) (p q : List (Day × ℤ)) (r s : List ℤ)
    → Decides (same_payments p q && same_rates r s) (paid direction asof p r ≡ paid direction asof q s)
paid-compared direction asof p q r s =
    Decides-like (same_payments p q && same_rates r s) (λ h. λ i. paid direction asof (h.0 i) (h.1 i))
    (λ e. (ap (λ (x : Paid). x.payments) e, ap (λ (x : Paid). x.rates) e))
    (Decides-and (same_payments p q) (same_rates r s) (Decides-payments p q) (Decides-rates r s))

pub worth-compared : (asof : ℤ) (p q : List (Day × ℤ)) (r s : List ℤ)
    → Decides (same_payments p q && same_rates r s) (worth asof p r ≡ worth asof q s)
worth-compared asof p q r s =
    Decides-like (same_payments p q && same_rates r s) (λ h. λ i. worth asof (h.0 i) (h.1 i))
    (λ e. (ap (λ (x : Valued). x.payments) e, ap (λ (x : Valued). x.rates) e))
    (Decides-and (same_payments p q) (same_rates r s) (Decides-payments p q) (Decides-rates r s))

-- other rates for the same payments
pub paid-rates : (direction : Direction) (asof : ℤ) (p : List (Day × ℤ)) (same : Bool) (r s : List ℤ)
    → Decides same (r ≡ s) → Decides same (paid direction asof p r ≡ paid direction asof p s)
paid-rates direction asof p same r s told =
    Decides-like same (λ e. ap (paid direction asof p) e) (λ e. ap (λ (x : Paid). x.rates) e) told

pub worth-rates : (asof : ℤ) (p : List (Day × ℤ)) (same : Bool) (r s : List ℤ) → Decides same (r ≡ s)
    → Decides same (worth asof p r ≡ worth asof p s)
worth-rates asof p same r s told =
    Decides-like same (λ e. ap (worth asof p) e) (λ e. ap (λ (x : Valued). x.rates) e) told

-- another day
pub paid-dated : (direction : Direction) (a b : ℤ) (p : List (Day × ℤ)) (r : List ℤ) (same : Bool)
    → Decides same (a ≡ b) → Decides same (paid direction a p r ≡ paid direction b p r)
paid-dated direction a b p r same told =
    Decides-like same (λ e. ap (λ n. paid direction n p r) e) (λ e. ap (λ (x : Paid). x.asof) e) told

pub worth-dated : (a b : ℤ) (p : List (Day × ℤ)) (r : List ℤ) (same : Bool) → Decides same (a ≡ b)
    → Decides same (worth a p r ≡ worth b p r)
worth-dated a b p r same told =
    Decides-like same (λ e. ap (λ n. worth n p r) e) (λ e. ap (λ (x : Valued). x.asof) e) told

-- ---- where the figures of payments stand

pub stress-in : (projection : Projection) → is_stress projection ≡ true → IsMember projection stresses
stress-in projections.Base e = absurd (cc)
stress-in projections.Mortality e = inl refl
stress-in projections.Longevity e = inr (inl refl)
stress-in projections.Disability e = inr (inr (inl refl))
stress-in projections.Expense e = inr (inr (inr (inl refl)))
stress-in projections.Revision e = inr (inr (inr (inr (inl refl))))
stress-in projections.LapseUp e = inr (inr (inr (inr (inr (inl refl)))))
stress-in projections.LapseDown e = inr (inr (inr (inr (inr (inr (inl refl))))))
stress-in projections.LapseMass e = inr (inr (inr (inr (inr (inr (inr (inl refl)))))))
stress-in projections.Catastrophe e = inr (inr (inr (inr (inr (inr (inr (inr (inl refl))))))))

pub rate-in : (name : List ℕ) (direction : Direction)
    → IsMember (nodes.Liability name (of_liabilities.Rate direction)) (value_figures name)
rate-in name directions.Up = inl refl
rate-in name directions.Down = inr (inl refl)

pub present-in : (name : List ℕ) → IsMember (nodes.Liability name of_liabilities.Present) (value_figures name)
present-in name = inr (inr (inl refl))

pub loss-in : (name : List ℕ) (projection : Projection) → is_stress projection ≡ true
    → IsMember (nodes.Liability name (of_liabilities.Loss projection)) (loss_figures name)
loss-in name projection e =
    IsMember-mapped (λ p. nodes.Liability name (of_liabilities.Loss p)) stresses projection (stress-in projection e)

module _ (sheet : BalanceSheet) (name : List ℕ) where
  pub unit-listed : (position : Position) → position_of name sheet.securities ≡ Some position
      → (direction : Direction) → IsMember (nodes.Security name (of_securities.UnitLoss direction)) (payment_figures sheet)
  unit-listed position found direction =
      IsMember-left (flat_map security_figures sheet.securities) _ _
      (found-figure position_name name sheet.securities position found security_figures (nodes.Security name (of_securities.UnitLoss direction))
      (subst (λ n. IsMember (nodes.Security n (of_securities.UnitLoss direction)) (security_figures position))
      (sym (found-name position_name name sheet.securities position found)) (of direction)))
    where
      of : (d : Direction) → IsMember (nodes.Security position.security.name (of_securities.UnitLoss d)) (security_figures position)
      of directions.Up = inl refl
      of directions.Down = inr (inl refl)

  module _ (liability : Liability) (found : liability_of name sheet.liabilities ≡ Some liability) where
    listed-one : (node : Node) → IsMember node (value_figures name ++ loss_figures name)
        → IsMember node (payment_figures sheet)
    listed-one node m =
        IsMember-right (flat_map security_figures sheet.securities) _ _
        (found-figure liability_name name sheet.liabilities liability found liability_figures node
        (subst (λ n. IsMember node (value_figures n ++ loss_figures n))
        (found-name liability_name name sheet.liabilities liability found) m))

    pub value-listed : (node : Node) → IsMember node (value_figures name) → IsMember node (payment_figures sheet)
    value-listed node m = listed-one node (IsMember-left (value_figures name) (loss_figures name) node m)

    pub loss-listed : (projection : Projection) → is_stress projection ≡ true
        → IsMember (nodes.Liability name (of_liabilities.Loss projection)) (payment_figures sheet)
    loss-listed projection e =
        listed-one (nodes.Liability name (of_liabilities.Loss projection))
        (IsMember-right (value_figures name) (loss_figures name) _ (loss-in name projection e))

-- ---- a loop that pushes the figures of each row

pub pushed_figures : {Row A : Type 0} (figures : Row → List A) (items start after : List A) (rows : List Row) (k : ℕ)
    (row : Row) → slice_get rows k ≡ Some row → items ≡ start ++ flat_map figures (take k rows)
    → after ≡ items ++ figures row → after ≡ start ++ flat_map figures (take (k + 1) rows)
pushed_figures figures items start after rows k row is so_far next =
    next ∙ ap (λ xs. xs ++ figures row) so_far ∙ append_assoc start (flat_map figures (take k rows)) (figures row)
    ∙ ap (λ xs. start ++ xs) (sym (
    ap (flat_map figures) (take_more rows k row (slice_get_within rows k row is)
    ∙ ap (λ r. take k rows ++ r ∷ []) (get_or_from_slice_get rows k row row is))
    ∙ flat_map-append figures (take k rows) (row ∷ [])
    ∙ ap (λ xs. flat_map figures (take k rows) ++ xs) (append-nil (figures row))))
