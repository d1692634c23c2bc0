-- Components that lead nowhere, left out of the search for chains: no chain goes through one, so the same path is told.
use Rattle.std.proofs.Common.{◌≡◌, ◌⊎◌, ℕ, zero, suc, Bool, true, false, cond, ◌||◌, List, [], ◌∷◌, ◌++◌, filter, Contains, Option, Some, None, refl, sym, ap, subst, ◌∙◌, inl, inr}
use Rattle.std.specs.List.{list_any}
use Rattle.std.specs.Option.{option_or, option_map}
use Rattle.std.proofs.lemmas.Bool.{cases_Bool, true≢false}
use Rattle.scr_funds.specs.Chains.{IsChain, LeadsTo}
use Rattle.scr_funds.specs.Paths.{first_way, earliest_between, fewest_between, path_within}
use Rattle.scr_funds.proofs.Members.{IsMember, IsMember-from_Contains, Contains-from_IsMember}

-- what passes a test is a member of what passes
IsMember-filter : {A : Type 0} (p : A → Bool) (xs : List A) (x : A) → p x ≡ true → IsMember x xs → IsMember x (filter p xs)
IsMember-filter p [] x e m = absurd m
IsMember-filter p (y ∷ ys) x e (inl same) =
    subst (λ t. IsMember x (cond t (y ∷ filter p ys) (filter p ys))) (sym (ap p (sym same) ∙ e)) (inl same)
IsMember-filter p (y ∷ ys) x e (inr m) = by (cases_Bool (p y)) (IsMember-filter p ys x e m)
  where
    by : (p y ≡ true) ⊎ (p y ≡ false) → IsMember x (filter p ys) → IsMember x (filter p (y ∷ ys))
    by (inl e) rest = subst (λ t. IsMember x (cond t (y ∷ filter p ys) (filter p ys))) (sym e) (inr rest)
    by (inr e) rest = subst (λ t. IsMember x (cond t (y ∷ filter p ys) (filter p ys))) (sym e) rest

-- `left` has of each either all its components or the live ones. What is not live has no components, and what a chain is
-- searched to is live.
module _ {A : Type 0} (same : A → A → Bool) (is_same : (x y : A) → same x y ≡ true → x ≡ y) (all left : A → List A) (live : A → Bool)
    (each : (x : A) → (left x ≡ all x) ⊎ (left x ≡ filter live (all x))) (ends : (x : A) → live x ≡ false → all x ≡ []) (b : A) (own : live b ≡ true) where
  pub none_left : (x : A) → all x ≡ [] → left x ≡ []
  none_left x none = by (each x)
    where
      by : (left x ≡ all x) ⊎ (left x ≡ filter live (all x)) → left x ≡ []
      by (inl e) = e ∙ none
      by (inr e) = e ∙ ap (filter live) none

  -- ---- chains

  member_left : (a c : A) → live c ≡ true → Contains (all a) c → Contains (left a) c
  member_left a c e h = by (each a)
    where
      by : (left a ≡ all a) ⊎ (left a ≡ filter live (all a)) → Contains (left a) c
      by (inl is) = subst (λ row. Contains row c) (sym is) h
      by (inr is) =
          subst (λ row. Contains row c) (sym is)
          (Contains-from_IsMember (filter live (all a)) c (IsMember-filter live (all a) c e (IsMember-from_Contains (all a) c h)))

  goes_on : (a : A) (cs : List A) → IsChain all a cs b → live a ≡ true
  goes_on a cs chain = by (cases_Bool (live a))
    where
      first : (cs : List A) → IsChain all a cs b → (c : A) × Contains (all a) c
      first [] h = (b, h)
      first (c ∷ cs) h = (c, h.0)

      by : (live a ≡ true) ⊎ (live a ≡ false) → live a ≡ true
      by (inl e) = e
      by (inr e) = let c = first cs chain in absurd (subst (IsMember c.0) (ends a e) (IsMember-from_Contains (all a) c.0 c.1))

  chain_left : (a : A) (cs : List A) → IsChain all a cs b → IsChain left a cs b
  chain_left a [] h = member_left a b own h
  chain_left a (c ∷ cs) h = (member_left a c (goes_on c cs h.1) h.0, chain_left c cs h.1)

  pub leads_left : (a : A) → LeadsTo all a b → LeadsTo left a b
  leads_left a h = (h.0, chain_left a h.0 h.1)

  -- ---- the path that is told

  any_left : (cs : List A) → list_any (λ c. same c b) (filter live cs) ≡ list_any (λ c. same c b) cs
  any_left [] = refl
  any_left (c ∷ cs) = by (cases_Bool (live c)) (any_left cs)
    where
      other : live c ≡ false → same c b ≡ false
      other dead = elim (cases_Bool (same c b)) [
        | inl e ↦ absurd (true≢false (sym own ∙ ap live (sym (is_same c b e)) ∙ dead))
        | inr e ↦ e
      ]

      by : (live c ≡ true) ⊎ (live c ≡ false) → list_any (λ c. same c b) (filter live cs) ≡ list_any (λ c. same c b) cs
          → list_any (λ c. same c b) (filter live (c ∷ cs)) ≡ list_any (λ c. same c b) (c ∷ cs)
      by (inl e) rest = ap (λ t. list_any (λ c. same c b) (cond t (c ∷ filter live cs) (filter live cs))) e ∙ ap (λ r. same c b || r) rest
      by (inr e) rest =
          ap (λ t. list_any (λ c. same c b) (cond t (c ∷ filter live cs) (filter live cs))) e ∙ rest
          ∙ ap (λ t. t || list_any (λ c. same c b) cs) (sym (other e))

  way_left : (way : A → Option (List A)) → ((c : A) → live c ≡ false → way c ≡ None) → (cs : List A)
      → first_way way (filter live cs) ≡ first_way way cs
  way_left way none [] = refl
  way_left way none (c ∷ cs) = by (cases_Bool (live c)) (way_left way none cs)
    where
      by : (live c ≡ true) ⊎ (live c ≡ false) → first_way way (filter live cs) ≡ first_way way cs
          → first_way way (filter live (c ∷ cs)) ≡ first_way way (c ∷ cs)
      by (inl e) rest =
          ap (λ t. first_way way (cond t (c ∷ filter live cs) (filter live cs))) e
          ∙ ap (option_or (option_map (λ on. c ∷ on) (way c))) rest
      by (inr e) rest =
          ap (λ t. first_way way (cond t (c ∷ filter live cs) (filter live cs))) e ∙ rest
          ∙ ap (λ o. option_or (option_map (λ on. c ∷ on) o) (first_way way cs)) (sym (none c e))

  no_way : (n : ℕ) (c : A) → left c ≡ [] → earliest_between same left n c b ≡ None
  unfolding earliest_between
  no_way zero c e = ap (λ cs. cond (list_any (λ x. same x b) cs) (Some []) None) e
  no_way (suc n) c e = ap (first_way (λ x. earliest_between same left n x b)) e

  earliest_left : (n : ℕ) (a : A) → earliest_between same left n a b ≡ earliest_between same all n a b
  unfolding earliest_between
  earliest_left zero a = by (each a)
    where
      told : List A → Option (List A)
      told cs = cond (list_any (λ x. same x b) cs) (Some []) None

      by : (left a ≡ all a) ⊎ (left a ≡ filter live (all a)) → told (left a) ≡ told (all a)
      by (inl e) = ap told e
      by (inr e) = ap told e ∙ ap (λ t. cond t (Some []) None) (any_left (all a))
  earliest_left (suc n) a = by (each a) ∙ ap (λ way. first_way way (all a)) (λ i c. earliest_left n c i)
    where
      way : A → Option (List A)
      way c = earliest_between same left n c b

      by : (left a ≡ all a) ⊎ (left a ≡ filter live (all a)) → first_way way (left a) ≡ first_way way (all a)
      by (inl e) = ap (first_way way) e
      by (inr e) = ap (first_way way) e ∙ way_left way (λ c dead. no_way n c (none_left c (ends c dead))) (all a)

  fewest_left : (more n : ℕ) (a : A) → fewest_between same left n more a b ≡ fewest_between same all n more a b
  unfolding fewest_between
  fewest_left zero n a = refl
  fewest_left (suc more) n a = λ i. option_or (earliest_left n a i) (fewest_left more (suc n) a i)

  pub path_left : (most : ℕ) (a : A) → path_within same left most a b ≡ path_within same all most a b
  path_left most a = ap (option_map (λ between. a ∷ (between ++ b ∷ []))) (fewest_left most 0 a)
