-- The flows of a liability under each projection.
use Rattle.std.proofs.Common.{◌≡◌, ℤ, ◌⊎◌, inl, inr, Bool, true, ◌||◌, ◌&&◌, List, [], ◌∷◌, refl, sym, ap, subst, ◌∙◌}
use Rattle.std.proofs.lemmas.Bool.{and_parts}
pub use Rattle.std.proofs.lemmas.Bool.{or_parts as or_false}
use Rattle.std.specs.List.{AllByRecursion, list_all}
use Rattle.scr_dates.specs.declared.day.Day.{Day}
use Rattle.scr_sheet.specs.CashFlows.{flows_under, with_flows, no_flows, all_projections, has_projection, is_empty, suits}
use Rattle.scr_sheet.specs.declared.{keys.Projection.Projection, rows.LiabilityKind.LiabilityKind, rows.LiabilityFlows.LiabilityFlows}
use Rattle.scr_sheet.specs.declared.keys.Projection.TheVariants as projections
use Rattle.scr_sheet.specs.declared.rows.LiabilityKind.TheVariants as kinds

all_from_list_all : {X : Type 0} (test : X → Bool) (xs : List X) → list_all test xs ≡ true → AllByRecursion (λ x. test x ≡ true) xs
all_from_list_all test [] h = tt
all_from_list_all test (x ∷ xs) h = let both = and_parts (test x) (list_all test xs) h in (both.0, all_from_list_all test xs both.1)

list_all_from_all : {X : Type 0} (test : X → Bool) (xs : List X) → AllByRecursion (λ x. test x ≡ true) xs → list_all test xs ≡ true
list_all_from_all test [] all = refl
list_all_from_all test (x ∷ xs) all = ap (λ t. t && list_all test xs) all.0 ∙ list_all_from_all test xs all.1

-- what is true of every projection, one by one
pub each_projection : (P : Projection → Type 0) → AllByRecursion P all_projections → (projection : Projection) → P projection
each_projection P all projections.Base = all.0
each_projection P all projections.Mortality = all.1.0
each_projection P all projections.Longevity = all.1.1.0
each_projection P all projections.Disability = all.1.1.1.0
each_projection P all projections.Expense = all.1.1.1.1.0
each_projection P all projections.Revision = all.1.1.1.1.1.0
each_projection P all projections.LapseUp = all.1.1.1.1.1.1.0
each_projection P all projections.LapseDown = all.1.1.1.1.1.1.1.0
each_projection P all projections.LapseMass = all.1.1.1.1.1.1.1.1.0
each_projection P all projections.Catastrophe = all.1.1.1.1.1.1.1.1.1.0

pub every_projection : (P : Projection → Type 0) → ((projection : Projection) → P projection) → AllByRecursion P all_projections
every_projection P each = (each _, (each _, (each _, (each _, (each _, (each _, (each _, (each _, (each _, (each _, tt))))))))))

-- flows written under one projection leave the others
pub one_or_other : (p q : Projection) → (p ≡ q) ⊎ ((new : List (Day × ℤ)) (flows : LiabilityFlows) → flows_under q (with_flows p new flows) ≡ flows_under q flows)
one_or_other projections.Base projections.Base = inl refl
one_or_other projections.Mortality projections.Mortality = inl refl
one_or_other projections.Longevity projections.Longevity = inl refl
one_or_other projections.Disability projections.Disability = inl refl
one_or_other projections.Expense projections.Expense = inl refl
one_or_other projections.Revision projections.Revision = inl refl
one_or_other projections.LapseUp projections.LapseUp = inl refl
one_or_other projections.LapseDown projections.LapseDown = inl refl
one_or_other projections.LapseMass projections.LapseMass = inl refl
one_or_other projections.Catastrophe projections.Catastrophe = inl refl
one_or_other p q = inr (λ new flows. refl)

-- and that one has them
pub under-with : (new : List (Day × ℤ)) (flows : LiabilityFlows) (p : Projection) → flows_under p (with_flows p new flows) ≡ new
under-with new flows projections.Base = refl
under-with new flows p = refl

-- what is true of the new flows and of the old ones is true under each projection then
pub each-with_flows : (P : List (Day × ℤ) → Type 0) (new : List (Day × ℤ)) (flows : LiabilityFlows) (p : Projection) → P new → ((q : Projection) → P (flows_under q flows)) → (q : Projection) → P (flows_under q (with_flows p new flows))
each-with_flows P new flows p own each q =
    elim (one_or_other p q) [
      | inl e ↦ subst (λ (other : Projection). P (flows_under other (with_flows p new flows))) e (subst P (sym (under-with new flows p)) own)
      | inr e ↦ subst P (sym (e new flows)) (each q)
    ]

-- ---- no flows stand under a projection that the kind lacks

pub suits-at : (kind : LiabilityKind) (flows : LiabilityFlows) → suits kind flows ≡ true → (projection : Projection) → (has_projection kind projection || is_empty (flows_under projection flows)) ≡ true
suits-at kind flows h = each_projection _ (all_from_list_all (λ p. has_projection kind p || is_empty (flows_under p flows)) all_projections h)

suits_from_each : (kind : LiabilityKind) (flows : LiabilityFlows) → ((projection : Projection) → (has_projection kind projection || is_empty (flows_under projection flows)) ≡ true) → suits kind flows ≡ true
suits_from_each kind flows each = list_all_from_all (λ p. has_projection kind p || is_empty (flows_under p flows)) all_projections (every_projection (λ p. (has_projection kind p || is_empty (flows_under p flows)) ≡ true) each)

pub suits-with_flows : (kind : LiabilityKind) (new : List (Day × ℤ)) (flows : LiabilityFlows) (p : Projection) → has_projection kind p ≡ true → suits kind flows ≡ true → suits kind (with_flows p new flows) ≡ true
suits-with_flows kind new flows p has suit =
    suits_from_each kind (with_flows p new flows) each
  where
    each : (q : Projection) → (has_projection kind q || is_empty (flows_under q (with_flows p new flows))) ≡ true
    each q =
        elim (one_or_other p q) [
          | inl e ↦ ap (λ t. t || is_empty (flows_under q (with_flows p new flows))) (ap (has_projection kind) (sym e) ∙ has)
          | inr e ↦ ap (λ fs. has_projection kind q || is_empty fs) (e new flows) ∙ suits-at kind flows suit q
        ]

pub suits-no_flows : (kind : LiabilityKind) → suits kind no_flows ≡ true
suits-no_flows kinds.Life = refl
suits-no_flows kind = refl

pub under-no_flows : (projection : Projection) → flows_under projection no_flows ≡ []
under-no_flows = each_projection (λ p. flows_under p no_flows ≡ []) (every_none)
  where
    every_none : AllByRecursion (λ p. flows_under p no_flows ≡ []) all_projections
    every_none = (refl, (refl, (refl, (refl, (refl, (refl, (refl, (refl, (refl, (refl, tt))))))))))
