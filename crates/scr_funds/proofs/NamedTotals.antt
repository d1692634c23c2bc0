-- Totals are the same whether holders go by names or by numbers.
use Rattle.std.proofs.Common.{◌≡◌, ℕ, zero, suc, ◌+◌, ◌<◌, Bool, IsTrue, List, [], ◌∷◌, map, length, sum_by, nat_eq, if◌then◌else◌, All, Contains, refl, sym, ap, subst, ◌∙◌, arith}
use Rattle.std.proofs.lemmas.List.{length-map}
use Rattle.std.proofs.lemmas.List.Elements.{All-contains, All-head, All-tail}
use Rattle.std.proofs.lemmas.Bool.{eq-eqb, eqb-true}
use Rattle.scr_funds.specs.ByNumber.{named, renamed}
use Rattle.scr_funds.specs.Chains.{IsChain, IsAcyclic}
use Rattle.scr_funds.specs.LookThrough.{Weighted, Shared, parts_of, falling_to, names_in, part_in, total_through, total}
use Rattle.scr_funds.proofs.Climbs.{same_or_other}
use Rattle.scr_funds.proofs.Members.{IsMember-from_Contains, IsMember-mapped, Contains-from_IsMember}
use Rattle.scr_funds.proofs.SumsBy.{sum_by-same, sum_by-map}

module _ {A : Type 0} (same : A → A → Bool) (is_same : (x y : A) → IsTrue (same x y) → x ≡ y)
    (same_self : (x : A) → IsTrue (same x x))
    (size : ℕ) (name : ℕ → A) (one_to_one : (j k : ℕ) → j < size → k < size → name j ≡ name k → j ≡ k) where
  same_as_number : (j k : ℕ) → j < size → k < size → same (name j) (name k) ≡ nat_eq j k
  same_as_number j k l m = same_or_other nat_eq (λ x y t. eqb-true x y t) (λ x. eq-eqb x x refl) j k
      (λ t e. ap (λ i. same (name j) (name i)) (sym e) ∙ same_self (name j) ∙ sym t)
      (λ f n. same_or_other same is_same same_self (name j) (name k) (λ t e. absurd (n (one_to_one j k l m e)))
      (λ g o. g) ∙ sym f)

  weights-named : (components : Weighted ℕ) → map (λ c. c.1) (renamed name components) ≡ map (λ c. c.1) components
  weights-named [] = refl
  weights-named (c ∷ cs) = ap (λ ws. c.1 ∷ ws) (weights-named cs)

  falling_to-named : (k : ℕ) → k < size → (components : Weighted ℕ) (parts : List ℕ) → All (λ c. c.0 < size) components
      → falling_to same (name k) (map (λ c. c.0) (renamed name components)) parts
      ≡ falling_to nat_eq k (map (λ c. c.0) components) parts
  falling_to-named k l [] parts below = refl
  falling_to-named k l (c ∷ cs) [] below = refl
  falling_to-named k l (c ∷ cs) (part ∷ parts) below =
      ap (λ b. (if b then part else 0) + falling_to same (name k) (map (λ d. d.0) (renamed name cs)) parts)
      (same_as_number k c.0 l (All-head (λ d. d.0 < size) c cs below))
      ∙ ap (λ n. (if nat_eq k c.0 then part else 0) + n)
      (falling_to-named k l cs parts (All-tail (λ d. d.0 < size) c cs below))

  part_in-named : (value k : ℕ) → k < size → (components : Weighted ℕ) → All (λ c. c.0 < size) components
      → part_in same value (renamed name components) (name k) ≡ part_in nat_eq value components k
  part_in-named value k l components below =
      ap (λ ws. falling_to same (name k) (map (λ c. c.0) (renamed name components)) (parts_of value ws))
      (weights-named components)
      ∙ falling_to-named k l components (parts_of value (map (λ c. c.1) components)) below

  module _ (held : ℕ → ℕ) (held_by_name : A → ℕ) (as_held : (k : ℕ) → k < size → held_by_name (name k) ≡ held k)
      (funds : List (Shared ℕ)) (fund_below : All (λ fund. fund.0 < size) funds)
      (components_below : All (λ fund. All (λ c. c.0 < size) fund.1) funds) where
    total_through-named : (levels k : ℕ) → k < size
        → total_through same held_by_name (named name funds) levels (name k) ≡ total_through nat_eq held funds levels k
    unfolding total_through
    total_through-named zero k l = refl
    total_through-named (suc levels) k l =
        ap (λ n. n + sum_by
        (λ fund. part_in same (total_through same held_by_name (named name funds) levels fund.0) fund.1 (name k))
        (named name funds)) (as_held k l)
        ∙ ap (λ n. held k + n) (
        sum_by-map
        (λ fund. part_in same (total_through same held_by_name (named name funds) levels fund.0) fund.1 (name k))
        (λ fund. (name fund.0, renamed name fund.1)) funds
        ∙ sum_by-same
        (λ fund. part_in same (total_through same held_by_name (named name funds) levels (name fund.0))
        (renamed name fund.1) (name k))
        (λ fund. part_in nat_eq (total_through nat_eq held funds levels fund.0) fund.1 k) funds
        (λ fund m. ap (λ value. part_in same value (renamed name fund.1) (name k))
        (total_through-named levels fund.0
        (All-contains (λ f. f.0 < size) funds fund fund_below (Contains-from_IsMember funds fund m)))
        ∙ part_in-named (total_through nat_eq held funds levels fund.0) k l fund.1
        (All-contains (λ f. All (λ c. c.0 < size) f.1) funds fund components_below
        (Contains-from_IsMember funds fund m))))

    pub total-named : (k : ℕ) → k < size → total same held_by_name (named name funds) (name k)
        ≡ total nat_eq held funds k
    total-named k l =
        ap (λ n. total_through same held_by_name (named name funds) (n + 1) (name k))
        (length-map {A = Shared ℕ} {B = Shared A} funds (λ fund. (name fund.0, renamed name fund.1)))
        ∙ total_through-named (length funds + 1) k l

  -- ---- chains

  names-named : (components : Weighted ℕ) → map (λ c. c.0) (renamed name components)
      ≡ map name (map (λ c. c.0) components)
  names-named [] = refl
  names-named (c ∷ cs) = ap (λ names. name c.0 ∷ names) (names-named cs)

  -- what has components is a fund
  is_fund : (funds : List (Shared ℕ)) → All (λ fund. fund.0 < size) funds → (a c : ℕ)
      → Contains (names_in nat_eq funds a) c → a < size
  is_fund [] below a c h = absurd (IsMember-from_Contains [] c h)
  is_fund (fund ∷ funds) below a c h = same_or_other nat_eq (λ x y t. eqb-true x y t) (λ x. eq-eqb x x refl) a fund.0
      (λ t e. let own : fund.0 < size = All-head (λ f. f.0 < size) fund funds below in omega arith)
      (λ f n. is_fund funds (All-tail (λ d. d.0 < size) fund funds below) a c
      (subst (λ b. Contains (if b then map (λ d. d.0) fund.1 else names_in nat_eq funds a) c) f h))

  names_in-named : (funds : List (Shared ℕ)) → All (λ fund. fund.0 < size) funds → (a : ℕ) → a < size
      → names_in same (named name funds) (name a) ≡ map name (names_in nat_eq funds a)
  names_in-named [] below a l = refl
  names_in-named (fund ∷ funds) below a l =
      let one = same_as_number a fund.0 l (All-head (λ f. f.0 < size) fund funds below) in
      let rest = names_in-named funds (All-tail (λ f. f.0 < size) fund funds below) a l in
      grind (arith, one, rest, names-named fund.1)

  step : (funds : List (Shared ℕ)) → All (λ fund. fund.0 < size) funds → (a c : ℕ)
      → Contains (names_in nat_eq funds a) c → Contains (names_in same (named name funds) (name a)) (name c)
  step funds below a c h =
      subst (λ row. Contains row (name c)) (sym (names_in-named funds below a (is_fund funds below a c h)))
      (Contains-from_IsMember (map name (names_in nat_eq funds a)) (name c)
      (IsMember-mapped name (names_in nat_eq funds a) c (IsMember-from_Contains (names_in nat_eq funds a) c h)))

  chain-named : (funds : List (Shared ℕ)) → All (λ fund. fund.0 < size) funds → (a : ℕ) (between : List ℕ) (b : ℕ)
      → IsChain (names_in nat_eq funds) a between b
      → IsChain (names_in same (named name funds)) (name a) (map name between) (name b)
  chain-named funds below a [] b h = step funds below a b h
  chain-named funds below a (c ∷ cs) b h = (step funds below a c h.0, chain-named funds below c cs b h.1)

  -- where no fund leads to itself by names, none does by numbers
  pub acyclic-by_number : (funds : List (Shared ℕ)) → All (λ fund. fund.0 < size) funds
      → IsAcyclic (names_in same (named name funds)) → IsAcyclic (names_in nat_eq funds)
  acyclic-by_number funds below acyclic a l = acyclic (name a) (map name l.0, chain-named funds below a l.0 a l.1)
