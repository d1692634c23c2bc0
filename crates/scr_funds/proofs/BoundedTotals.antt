-- No total is above all that is held: what leads to a name has its value from what is held of it, and passes on to the
-- name no more than that.
use Rattle.std.proofs.Common.{◌≡◌, ◌⊎◌, ℕ, ◌+◌, ◌≤◌, Bool, true, false, IsTrue, List, [], ◌∷◌, Option, Some, None, map, length, sum, sum_by, is_some, if◌then◌else◌, All, Contains, refl, sym, ap, subst, ◌∙◌, inl, inr, arith}
use Rattle.std.specs.List.{IsDistinct}
use Rattle.std.proofs.lemmas.Bool.{true≢false, cond_both}
use Rattle.scr_funds.specs.Chains.{LeadsTo, IsAcyclic}
use Rattle.scr_funds.specs.LookThrough.{Shared, parts_of, part_in, names_in, total}
use Rattle.scr_funds.specs.Paths.{path_within}
use Rattle.scr_funds.proofs.Climbs.{same_or_other}
use Rattle.scr_funds.proofs.EarliestPaths.{path_within-told, path_within-none}
use Rattle.scr_funds.proofs.LookThroughLaws.{falling_to-none, falling_to-all, names_in-own, parts-so_far, total_is, component-listed, fund-listed, one_or_other, parts-counted}
use Rattle.scr_funds.proofs.Members.{IsMember, IsMember-from_Contains, Contains-from_IsMember}
use Rattle.scr_funds.proofs.Shares.{first_parts-within}
use Rattle.scr_funds.proofs.SplitSums.{sum_by-member, sum_by-some_le}
use Rattle.scr_funds.proofs.SumsBy.{sum_by-same, sum_by-none, sum_by-within, sum_by-add, sum_by-swap, sum_by-map}

-- the parts sum to no more than the value, whatever the weights
parts-within : (value : ℕ) (weights : List ℕ) → sum (parts_of value weights) ≤ value
parts-within value weights = subst (λ n. n ≤ value) (sym (parts-so_far value weights (length weights)))
    (first_parts-within value weights (length weights))

-- the terms that pass a test, and one more that does not, are within the sum
chosen-and-one : {A : Type 0} (chosen : A → Bool) (f : A → ℕ) (names : List A) (x : A) → IsMember x names
    → chosen x ≡ false
    → f x + sum_by (λ y. if chosen y then f y else 0) names ≤ sum_by f names
chosen-and-one chosen f names x m not_chosen =
    let split : sum_by f names ≡ sum_by (λ y. if chosen y then f y else 0) names + sum_by
    (λ y. if chosen y then 0 else f y) names =
    sum_by-same f (λ y. (if chosen y then f y else 0) + (if chosen y then 0 else f y)) names
    (λ y k. one_or_other (chosen y) (f y))
    ∙ sum_by-add (λ y. if chosen y then f y else 0) (λ y. if chosen y then 0 else f y) names in
    let one : (if chosen x then 0 else f x) ≤ sum_by (λ y. if chosen y then 0 else f y) names =
    sum_by-member (λ y. if chosen y then 0 else f y) names x m in
    let own : (if chosen x then 0 else f x) ≡ f x = ap (λ b. if b then 0 else f x) not_chosen in
    omega (arith, split, one, own)

module _ {A : Type 0} (same : A → A → Bool) (is_same : (x y : A) → IsTrue (same x y) → x ≡ y)
    (same_self : (x : A) → IsTrue (same x x))
    (held : A → ℕ) (funds : List (Shared A)) (apart : IsDistinct same (map (λ fund. fund.0) funds))
    (acyclic : IsAcyclic (names_in same funds))
    (names : List A) (once : IsDistinct same names) (listed : All (λ fund. Contains names fund.0) funds)
    (spread : All (λ fund. All (λ c. Contains names c.0) fund.1) funds) where
  abbrev worth : A → ℕ
  worth x = total same held funds x

  -- the part of a name in a fund
  abbrev part : Shared A → A → ℕ
  part fund y = part_in same (worth fund.0) fund.1 y

  -- a fund passes on no more than it has
  passed-within : (fund : Shared A) → IsMember fund funds → sum_by (part fund) names ≤ worth fund.0
  passed-within fund m =
      subst (λ n. n ≤ worth fund.0)
      (sym (falling_to-all same is_same same_self names once (map (λ c. c.0) fund.1)
      (parts_of (worth fund.0) (map (λ c. c.1) fund.1)) (parts-counted (worth fund.0) fund.1)
      (component-listed funds names spread fund m)))
      (parts-within (worth fund.0) (map (λ c. c.1) fund.1))

  -- `chosen` has whatever holds x or one of its own, and not x itself
  module _ (x : A) (there : IsMember x names) (chosen : A → Bool) (not_chosen : chosen x ≡ false)
      (upward : (fund : Shared A) (y : A) → IsMember fund funds → IsMember y (map (λ c. c.0) fund.1)
      → (y ≡ x) ⊎ (chosen y ≡ true) → chosen fund.0 ≡ true) where
    no_part : (fund : Shared A) (y : A) → IsMember fund funds → chosen fund.0 ≡ false → (y ≡ x) ⊎ (chosen y ≡ true)
        → part fund y ≡ 0
    no_part fund y m out way =
        falling_to-none same is_same same_self y (map (λ c. c.0) fund.1)
        (parts_of (worth fund.0) (map (λ c. c.1) fund.1))
        (λ k. true≢false (sym (upward fund y m k way) ∙ out))

    -- what a fund gives to x and to the chosen
    given-within : (fund : Shared A) → IsMember fund funds
        → part fund x + sum_by (λ y. if chosen y then part fund y else 0) names
        ≤ (if chosen fund.0 then worth fund.0 else 0)
    given-within fund m = by (chosen fund.0) refl
      where
        by : (b : Bool) → chosen fund.0 ≡ b → part fund x + sum_by (λ y. if chosen y then part fund y else 0) names
            ≤ (if b then worth fund.0 else 0)
        by true e =
            let all : part fund x + sum_by (λ y. if chosen y then part fund y else 0) names ≤ sum_by (part fund) names =
            chosen-and-one chosen (part fund) names x there not_chosen in
            let most : sum_by (part fund) names ≤ worth fund.0 = passed-within fund m in
            omega (arith, all, most)
        by false e =
            let own : part fund x ≡ 0 = no_part fund x m e (inl refl) in
            let others : sum_by (λ y. if chosen y then part fund y else 0) names ≡ 0 =
            sum_by-none (λ y. if chosen y then part fund y else 0) names
            (λ y k. cond_both (chosen y) (part fund y) 0 (λ n. n ≡ 0) (λ t. no_part fund y m e (inr t)) (λ f. refl)) in
            omega (arith, own, others)

    chosen-within : worth x ≤ sum_by held names
    chosen-within =
        let own : worth x ≡ held x + sum_by (λ fund. part fund x) funds =
        total_is same is_same same_self held funds apart acyclic x in
        let theirs : sum_by (λ y. if chosen y then worth y else 0) names
        ≡ sum_by (λ y. if chosen y then held y else 0) names + sum_by
        (λ fund. sum_by (λ y. if chosen y then part fund y else 0) names) funds =
        sum_by-same (λ y. if chosen y then worth y else 0)
        (λ y. (if chosen y then held y else 0) + sum_by (λ fund. if chosen y then part fund y else 0) funds) names
        (λ y m. each (chosen y) y)
        ∙ sum_by-add (λ y. if chosen y then held y else 0)
        (λ y. sum_by (λ fund. if chosen y then part fund y else 0) funds) names
        ∙ ap (λ n. sum_by (λ y. if chosen y then held y else 0) names + n)
        (sum_by-swap (λ y fund. if chosen y then part fund y else 0) names funds) in
        let given : sum_by (λ fund. part fund x) funds + sum_by
        (λ fund. sum_by (λ y. if chosen y then part fund y else 0) names) funds
        ≤ sum_by (λ fund. if chosen fund.0 then worth fund.0 else 0) funds =
        subst (λ n. n ≤ sum_by (λ fund. if chosen fund.0 then worth fund.0 else 0) funds)
        (sum_by-add (λ fund. part fund x) (λ fund. sum_by (λ y. if chosen y then part fund y else 0) names) funds)
        (sum_by-within (λ fund. part fund x + sum_by (λ y. if chosen y then part fund y else 0) names)
        (λ fund. if chosen fund.0 then worth fund.0 else 0) funds given-within) in
        let among : sum_by (λ fund. if chosen fund.0 then worth fund.0 else 0) funds
        ≤ sum_by (λ y. if chosen y then worth y else 0) names =
        subst (λ n. n ≤ sum_by (λ y. if chosen y then worth y else 0) names)
        (sum_by-map (λ y. if chosen y then worth y else 0) (λ fund. fund.0) funds)
        (sum_by-some_le same is_same same_self names (map (λ fund. fund.0) funds) once apart (fund-listed funds names listed)
        (λ y. if chosen y then worth y else 0)) in
        let least : held x + sum_by (λ y. if chosen y then held y else 0) names ≤ sum_by held names =
        chosen-and-one chosen held names x there not_chosen in
        omega (arith, own, theirs, given, among, least)
      where
        each : (b : Bool) (y : A) → (if b then worth y else 0)
            ≡ (if b then held y else 0) + sum_by (λ fund. if b then part fund y else 0) funds
        each true y = total_is same is_same same_self held funds apart acyclic y
        each false y = let none : sum_by (λ fund. 0) funds ≡ 0 = sum_by-none (λ fund. 0) funds (λ fund m. refl) in
            omega (arith, none)

  -- ---- what leads to a name

  names_in-funds : (y : A) → ¬ (names_in same funds y ≡ []) → Contains (map (λ fund. fund.0) funds) y
  names_in-funds y some = Contains-from_IsMember (map (λ fund. fund.0) funds) y (of funds some)
    where
      of : (fs : List (Shared A)) → ¬ (names_in same fs y ≡ []) → IsMember y (map (λ fund. fund.0) fs)
      of [] h = absurd (h refl)
      of (f ∷ fs) h = same_or_other same is_same same_self y f.0
          (λ t e. inl e)
          (λ t n. inr (of fs (λ none. h (ap (λ b. if b then map (λ c. c.0) f.1 else names_in same fs y) t ∙ none))))

  abbrev leads : A → A → Bool
  leads x y = is_some (path_within same (names_in same funds) (length (map (λ fund. fund.0) funds)) y x)

  leads-told : (x y : A) → leads x y ≡ true → LeadsTo (names_in same funds) y x
  leads-told x y t = by (path_within same (names_in same funds) (length (map (λ fund. fund.0) funds)) y x) refl
    where
      by : (o : Option (List A)) → path_within same (names_in same funds) (length (map (λ fund. fund.0) funds)) y x ≡ o
          → LeadsTo (names_in same funds) y x
      by None e = absurd (true≢false (sym t ∙ ap is_some e))
      by (Some path) e =
          let p = path_within-told same is_same same_self (names_in same funds)
          (length (map (λ fund. fund.0) funds)) y x path e in (p.between, p.chain)

  leads-is : (x y : A) → LeadsTo (names_in same funds) y x → leads x y ≡ true
  leads-is x y l = by (path_within same (names_in same funds) (length (map (λ fund. fund.0) funds)) y x) refl
    where
      by : (o : Option (List A)) → path_within same (names_in same funds) (length (map (λ fund. fund.0) funds)) y x ≡ o
          → leads x y ≡ true
      by None e =
          absurd (path_within-none same is_same same_self (names_in same funds) (length (map (λ fund. fund.0) funds))
          (map (λ fund. fund.0) funds) names_in-funds (omega arith) y x e l)
      by (Some path) e = ap is_some e

  pub total-within : (x : A) → Contains names x → total same held funds x ≤ sum_by held names
  total-within x there = chosen-within x (IsMember-from_Contains names x there) (leads x) not_itself upward
    where
      not_itself : leads x x ≡ false
      not_itself = by (leads x x) refl
        where
          by : (b : Bool) → leads x x ≡ b → leads x x ≡ false
          by true e = absurd (acyclic x (leads-told x x e))
          by false e = e

      upward : (fund : Shared A) (y : A) → IsMember fund funds → IsMember y (map (λ c. c.0) fund.1)
          → (y ≡ x) ⊎ (leads x y ≡ true) → leads x fund.0 ≡ true
      upward fund y m k way = leads-is x fund.0 (on way)
        where
          step : Contains (names_in same funds fund.0) y
          step = subst (λ row. Contains row y) (sym (names_in-own same is_same same_self funds apart fund m))
              (Contains-from_IsMember (map (λ c. c.0) fund.1) y k)

          on : (y ≡ x) ⊎ (leads x y ≡ true) → LeadsTo (names_in same funds) fund.0 x
          on (inl e) = ([], subst (Contains (names_in same funds fund.0)) e step)
          on (inr t) = let l = leads-told x y t in (y ∷ l.0, (step, l.1))
