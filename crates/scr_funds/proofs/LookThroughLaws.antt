-- What is held of each name, directly and through funds: the one answer to its equation, and no cent is lost.
use Rattle.std.proofs.Common.{◌≡◌, ℕ, zero, suc, ◌+◌, ◌<◌, ◌≤◌, Bool, true, false, IsTrue, List, [], ◌∷◌, map, length, sum, sum_by, filter, nat_eq, if◌then◌else◌, All, Contains, refl, sym, ap, subst, ◌∙◌, inl, inr, arith, add-one, zero-add}
use Rattle.std.specs.List.{AllByRecursion, IsDistinct, range_with_len}
use Rattle.std.specs.Set.{is_member}
use Rattle.std.proofs.lemmas.Bool.{true≢false, ne_eqb}
use Rattle.std.proofs.lemmas.List.{length-map}
use Rattle.std.proofs.lemmas.List.Elements.{All-contains}
use Rattle.std.proofs.lemmas.List.FromFn.{sum_by-map-range_with_len_more, length-map-range_with_len}
use Rattle.std.proofs.lemmas.List.Sums.{sum_by-cons, sum-map}
use Rattle.scr_funds.specs.Chains.{IsAcyclic}
use Rattle.scr_funds.specs.LookThrough.{Weighted, Shared, parts_of, falling_to, part_in, names_in, is_last, total_through, total}
use Rattle.scr_funds.specs.Parts.{first_parts, part_of}
use Rattle.scr_funds.proofs.Climbs.{acyclic-by_rank, same_or_other, same-equivalence, is_member-from_IsMember, IsMember-from_is_member, IsClimb, climb_on, climb-short}
use Rattle.scr_funds.proofs.Members.{IsMember, IsMember-from_Contains, Contains-from_IsMember, IsMember-mapped, IsMember-map, at_member}
use Rattle.scr_funds.proofs.Shares.{first_parts-none, first_parts-step, first_parts-all}
use Rattle.scr_funds.proofs.SumsBy.{sum_by-same, sum_by-none, sum_by-add, sum_by-swap, sum_by-filter}

-- ---- the parts of a value

pub parts-so_far : (value : ℕ) (weights : List ℕ) (k : ℕ)
    → sum (map (part_of value weights) (range_with_len 0 k)) ≡ first_parts value weights k
parts-so_far value weights zero = sym (first_parts-none value weights)
parts-so_far value weights (suc k) =
    subst (λ n. sum (map (part_of value weights) (range_with_len 0 n)) ≡ first_parts value weights n) (add-one k)
    (sum_by-map-range_with_len_more (λ part. part) (part_of value weights) 0 k k (omega arith)
    ∙ ap (λ n. n + part_of value weights k) (parts-so_far value weights k) ∙ first_parts-step value weights k)

pub parts-whole : (value : ℕ) (weights : List ℕ) → 0 < sum weights → sum (parts_of value weights) ≡ value
parts-whole value weights positive = parts-so_far value weights (length weights)
    ∙ first_parts-all value weights positive

-- all that a fund with components has is passed on
pub passed-whole : {A : Type 0} (value : ℕ) (components : Weighted A)
    → (0 < length components → 0 < sum (map (λ c. c.1) components))
    → sum (parts_of value (map (λ c. c.1) components))
    ≡ (if nat_eq (length (map (λ c. c.0) components)) 0 then 0 else value)
passed-whole value [] weighted = refl
passed-whole {A} value (c ∷ cs) weighted =
    parts-whole value (map (λ c. c.1) (c ∷ cs)) (weighted (omega arith))
    ∙ ap (λ b. if b then 0 else value)
    (sym (ne_eqb (length (map {A = A × ℕ} {B = A} (λ c. c.0) (c ∷ cs))) 0 (omega arith)))

-- as many parts as components
pub parts-counted : {A : Type 0} (value : ℕ) (components : Weighted A)
    → length (parts_of value (map (λ c. c.1) components)) ≡ length (map {A = A × ℕ} {B = A} (λ c. c.0) components)
parts-counted {A} value components =
    length-map-range_with_len (part_of value (map (λ c. c.1) components)) 0
    (length (map {A = A × ℕ} {B = ℕ} (λ c. c.1) components))
    ∙ length-map {A = A × ℕ} {B = ℕ} components (λ c. c.1) ∙ sym (length-map {A = A × ℕ} {B = A} components (λ c. c.0))

-- where each fund is listed, and each component of each, so is what has the name of one
pub fund-listed : {A : Type 0} (funds : List (Shared A)) (names : List A) → All (λ fund. Contains names fund.0) funds
    → (x : A) → IsMember x (map (λ f. f.0) funds) → IsMember x names
fund-listed funds names listed x m =
    let fund = IsMember-map (λ f. f.0) funds x m in
    subst (λ y. IsMember y names) fund.2
    (IsMember-from_Contains names fund.0.0
    (All-contains (λ f. Contains names f.0) funds fund.0 listed (Contains-from_IsMember funds fund.0 fund.1)))

pub component-listed : {A : Type 0} (funds : List (Shared A)) (names : List A)
    → All (λ fund. All (λ c. Contains names c.0) fund.1) funds → (fund : Shared A) → IsMember fund funds
    → (x : A) → IsMember x (map (λ c. c.0) fund.1) → IsMember x names
component-listed funds names spread fund m x k =
    let c = IsMember-map (λ c. c.0) fund.1 x k in
    subst (λ y. IsMember y names) c.2
    (IsMember-from_Contains names c.0.0 (All-contains (λ d. Contains names d.0) fund.1 c.0
    (All-contains (λ f. All (λ d. Contains names d.0) f.1) funds fund spread
    (Contains-from_IsMember funds fund m)) (Contains-from_IsMember fund.1 c.0 c.1)))

-- a number is the one part or the other
pub one_or_other : (b : Bool) (n : ℕ) → n ≡ (if b then n else 0) + (if b then 0 else n)
one_or_other true n = omega arith
one_or_other false n = omega arith

module _ {A : Type 0} (same : A → A → Bool) (is_same : (x y : A) → IsTrue (same x y) → x ≡ y)
    (same_self : (x : A) → IsTrue (same x x)) where
  -- ---- what falls to a name

  pub falling_to-none : (x : A) (names : List A) (parts : List ℕ) → (IsMember x names → ⊥)
      → falling_to same x names parts ≡ 0
  falling_to-none x [] parts h = refl
  falling_to-none x (name ∷ names) [] h = refl
  falling_to-none x (name ∷ names) (part ∷ parts) h = let rest = falling_to-none x names parts in grind (arith, h, rest, is_same x name)

  -- one of a list without repeats
  one_of : (name : A) (part : ℕ) (names : List A) → IsDistinct same names → IsMember name names
      → sum_by (λ x. if same x name then part else 0) names ≡ part
  unfolding IsDistinct
  one_of name part [] apart m = absurd m
  one_of name part (x ∷ xs) apart (inl e) =
      sum_by-cons (λ y. if same y name then part else 0) x xs
      ∙ ap (λ b. (if b then part else 0) + sum_by (λ y. if same y name then part else 0) xs)
      (ap (same x) e ∙ same_self x)
      ∙ ap (λ n. part + n) (sum_by-none (λ y. if same y name then part else 0) xs none) ∙ (omega arith)
    where
      none : (y : A) → IsMember y xs → (if same y name then part else 0) ≡ 0
      none y m = ap (λ b. if b then part else 0)
          (ap (same y) e ∙ (same-equivalence same is_same same_self).symm y x
          ∙ at_member (λ z. same x z ≡ false) xs y apart.0 m)
  one_of name part (x ∷ xs) apart (inr m) =
      sum_by-cons (λ y. if same y name then part else 0) x xs
      ∙ ap (λ b. (if b then part else 0) + sum_by (λ y. if same y name then part else 0) xs)
      (at_member (λ z. same x z ≡ false) xs name apart.0 m)
      ∙ zero-add (sum_by (λ y. if same y name then part else 0) xs) ∙ one_of name part xs apart.1 m

  -- all parts fall to the names that have them
  pub falling_to-all : (all : List A) → IsDistinct same all → (names : List A) (parts : List ℕ)
      → length parts ≡ length names → ((x : A) → IsMember x names → IsMember x all)
      → sum_by (λ x. falling_to same x names parts) all ≡ sum parts
  falling_to-all all apart [] [] l within = sum_by-none (λ x. 0) all (λ x m. refl)
  falling_to-all all apart [] (part ∷ parts) l within = absurd (omega arith)
  falling_to-all all apart (name ∷ names) [] l within = absurd (omega arith)
  falling_to-all all apart (name ∷ names) (part ∷ parts) l within =
      sum_by-add (λ x. if same x name then part else 0) (λ x. falling_to same x names parts) all
      ∙ ap (λ n. n + sum_by (λ x. falling_to same x names parts) all)
      (one_of name part all apart (within name (inl refl)))
      ∙ ap (λ n. part + n) (falling_to-all all apart names parts (omega arith) (λ x m. within x (inr m)))
      ∙ sym (sum_by-cons (λ p. p) part parts)

  -- ---- the components of a fund, by its name

  pub names_in-own : (funds : List (Shared A)) → IsDistinct same (map (λ fund. fund.0) funds) → (fund : Shared A)
      → IsMember fund funds → names_in same funds fund.0 ≡ map (λ c. c.0) fund.1
  unfolding IsDistinct
  names_in-own [] apart fund m = absurd m
  names_in-own (g ∷ gs) apart fund (inl e) =
      ap (λ b. if b then map (λ c. c.0) g.1 else names_in same gs fund.0)
      (ap (λ f. same fund.0 f.0) (sym e) ∙ same_self fund.0) ∙ ap (λ f. map (λ c. c.0) f.1) (sym e)
  names_in-own (g ∷ gs) apart fund (inr m) =
      ap (λ b. if b then map (λ c. c.0) g.1 else names_in same gs fund.0)
      ((same-equivalence same is_same same_self).symm fund.0 g.0
      ∙ at_member (λ z. same g.0 z ≡ false) (map (λ f. f.0) gs) fund.0 apart.0 (IsMember-mapped (λ f. f.0) gs fund m))
      ∙ names_in-own gs apart.1 fund m

  -- what the funds with components have is what falls to their names
  open_value : (g : A → ℕ) (funds : List (Shared A)) → IsDistinct same (map (λ fund. fund.0) funds) → (x : A)
      → (if is_last same funds x then 0 else g x)
      ≡ falling_to same x (map (λ fund. fund.0) funds)
      (map (λ fund. if nat_eq (length (map (λ c. c.0) fund.1)) 0 then 0 else g fund.0) funds)
  unfolding IsDistinct
  open_value g [] apart x = refl
  open_value g (fund ∷ funds) apart x =
      let later = open_value g funds apart.1 x in
      let none : x ≡ fund.0 → falling_to same x (map (λ f. f.0) funds) rest ≡ 0 =
      λ e. falling_to-none x (map (λ f. f.0) funds) rest
      (λ m. true≢false (sym (ap (λ y. same y x) (sym e) ∙ same_self x)
      ∙ at_member (λ z. same fund.0 z ≡ false) (map (λ f. f.0) funds) x apart.0 m)) in
      grind (arith, later, none, is_same x fund.0)
    where
      rest : List ℕ
      rest = map (λ f. if nat_eq (length (map (λ c. c.0) f.1)) 0 then 0 else g f.0) funds

  -- ---- the equation

  pub member_or_not : {P : Type 0} (x : A) (names : List A) → (IsMember x names → P) → ((IsMember x names → ⊥) → P) → P
  member_or_not {P} x names one two = by (is_member same names x) refl
    where
      by : (t : Bool) → is_member same names x ≡ t → P
      by true e = one (IsMember-from_is_member same is_same same_self names x e)
      by false e = two (λ m. true≢false (sym (is_member-from_IsMember same is_same same_self names x m) ∙ e))

  -- the parts of x are the same where the funds that hold it have the same
  pub parts-same : (g h : A → ℕ) (funds : List (Shared A)) (x : A)
      → ((fund : Shared A) → IsMember fund funds → IsMember x (map (λ c. c.0) fund.1) → g fund.0 ≡ h fund.0)
      → sum_by (λ fund. part_in same (g fund.0) fund.1 x) funds
      ≡ sum_by (λ fund. part_in same (h fund.0) fund.1 x) funds
  parts-same g h funds x agree = sum_by-same (λ fund. part_in same (g fund.0) fund.1 x)
      (λ fund. part_in same (h fund.0) fund.1 x) funds
      (λ fund m. member_or_not x (map (λ c. c.0) fund.1)
      (λ k. ap (λ value. part_in same value fund.1 x) (agree fund m k))
      (λ n. falling_to-none x (map (λ c. c.0) fund.1) (parts_of (g fund.0) (map (λ c. c.1) fund.1)) n
      ∙ sym (falling_to-none x (map (λ c. c.0) fund.1) (parts_of (h fund.0) (map (λ c. c.1) fund.1)) n)))

  module _ (held : A → ℕ) (funds : List (Shared A)) where
    -- from x every way up, from holder to holder, ends before so many steps
    abbrev EndsIn : ℕ → A → Type 0
    EndsIn zero x = ⊥
    EndsIn (suc k) x = (fund : Shared A) → IsMember fund funds → IsMember x (map (λ c. c.0) fund.1) → EndsIn k fund.0

    -- what satisfies the equation is what is found in so many levels
    found_in : (g : A → ℕ) → ((x : A) → g x ≡ held x + sum_by (λ fund. part_in same (g fund.0) fund.1 x) funds)
        → (k : ℕ) (x : A) → EndsIn k x → g x ≡ total_through same held funds k x
    unfolding total_through
    found_in g equation zero x ends = absurd ends
    found_in g equation (suc k) x ends =
        equation x
        ∙ ap (λ n. held x + n)
        (parts-same g (total_through same held funds k) funds x
        (λ fund m h. found_in g equation k fund.0 (ends fund m h)))

    -- one level more finds no more
    level_more : (k : ℕ) (x : A) → EndsIn k x
        → total_through same held funds k x ≡ total_through same held funds (suc k) x
    unfolding total_through
    level_more zero x ends = absurd ends
    level_more (suc k) x ends =
        ap (λ n. held x + n)
        (parts-same (total_through same held funds k) (total_through same held funds (suc k)) funds x
        (λ fund m h. level_more k fund.0 (ends fund m h)))

    module _ (apart : IsDistinct same (map (λ fund. fund.0) funds)) (acyclic : IsAcyclic (names_in same funds)) where
      ends_above : (k : ℕ) (top : A) (below : List A)
          → IsClimb same is_same same_self (names_in same funds) (top ∷ below)
          → ((x : A) → IsMember x (top ∷ below) → IsMember x (map (λ fund. fund.0) funds))
          → length funds ≤ k + length below → EndsIn k top
      ends_above zero top below climb within long =
          let short : length (top ∷ below) ≤ length (map (λ fund. fund.0) funds) =
          climb-short same is_same same_self (names_in same funds) acyclic (map (λ fund. fund.0) funds)
          (top ∷ below) climb within in
          let count : length (map (λ fund. fund.0) funds) ≡ length funds =
          length-map {A = Shared A} {B = A} funds (λ fund. fund.0) in
          omega arith
      ends_above (suc k) top below climb within long = λ fund m h.
          ends_above k fund.0 (top ∷ below)
          (climb_on same is_same same_self (names_in same funds) fund.0 top below
          (subst (λ row. Contains row top) (sym (names_in-own funds apart fund m))
          (Contains-from_IsMember (map (λ c. c.0) fund.1) top h)) climb)
          (higher fund m) (omega arith)
        where
          higher : (fund : Shared A) → IsMember fund funds → (x : A) → IsMember x (fund.0 ∷ (top ∷ below))
              → IsMember x (map (λ f. f.0) funds)
          higher fund m x (inl e) = subst (λ y. IsMember y (map (λ f. f.0) funds)) (sym e)
              (IsMember-mapped (λ f. f.0) funds fund m)
          higher fund m x (inr k) = within x k

      ends_in : (x : A) → EndsIn (length funds + 1) x
      ends_in x = subst (λ n. EndsIn n x) (sym (add-one (length funds)))
          (λ fund m h. ends_above (length funds) fund.0 [] (tt, tt) (first fund m) (omega arith))
        where
          first : (fund : Shared A) → IsMember fund funds → (y : A) → IsMember y (fund.0 ∷ [])
              → IsMember y (map (λ f. f.0) funds)
          first fund m y (inl e) = subst (λ z. IsMember z (map (λ f. f.0) funds)) (sym e)
              (IsMember-mapped (λ f. f.0) funds fund m)
          first fund m y (inr k) = absurd k

      pub total_is : (x : A) → total same held funds x
          ≡ held x + sum_by (λ fund. part_in same (total same held funds fund.0) fund.1 x) funds
      unfolding total_through
      total_is x = level_more (length funds + 1) x (ends_in x)

      pub total_only : (g : A → ℕ) → ((x : A) → g x ≡ held x + sum_by (λ fund. part_in same (g fund.0) fund.1 x) funds)
          → (x : A) → g x ≡ total same held funds x
      total_only g equation x = found_in g equation (length funds + 1) x (ends_in x)

      -- ---- no cent is lost

      -- no fund that has components has none to share with
      pub totals_whole : (names : List A) → IsDistinct same names → All (λ fund. Contains names fund.0) funds
          → All (λ fund. All (λ c. Contains names c.0) fund.1) funds
          → All (λ fund. 0 < length fund.1 → 0 < sum (map (λ c. c.1) fund.1)) funds
          → sum_by (total same held funds) (filter (is_last same funds) names) ≡ sum_by held names
      totals_whole names once listed spread weighted =
          let at_last : sum_by worth (filter (is_last same funds) names)
          ≡ sum_by (λ x. if is_last same funds x then worth x else 0) names =
          sum_by-filter worth (is_last same funds) names in
          let two : sum_by worth names ≡ sum_by (λ x. if is_last same funds x then worth x else 0) names + sum_by
          (λ x. if is_last same funds x then 0 else worth x) names =
          sum_by-same worth
          (λ x. (if is_last same funds x then worth x else 0) + (if is_last same funds x then 0 else worth x)) names
          (λ x m. one_or_other (is_last same funds x) (worth x))
          ∙ sum_by-add (λ x. if is_last same funds x then worth x else 0)
          (λ x. if is_last same funds x then 0 else worth x) names in
          let passed_on : sum_by (λ x. if is_last same funds x then 0 else worth x) names ≡ sum_by passing funds =
          sum_by-same (λ x. if is_last same funds x then 0 else worth x)
          (λ x. falling_to same x (map (λ f. f.0) funds) (map passing funds)) names
          (λ x m. open_value worth funds apart x)
          ∙ falling_to-all names once (map (λ f. f.0) funds) (map passing funds) same_length
          (fund-listed funds names listed)
          ∙ sum-map passing funds in
          let came : sum_by worth names ≡ sum_by held names + sum_by passing funds =
          sum_by-same worth (λ x. held x + sum_by (λ fund. part_in same (worth fund.0) fund.1 x) funds) names
          (λ x m. total_is x)
          ∙ sum_by-add held (λ x. sum_by (λ fund. part_in same (worth fund.0) fund.1 x) funds) names
          ∙ ap (λ n. sum_by held names + n) (sum_by-swap (λ x fund. part_in same (worth fund.0) fund.1 x) names funds
          ∙ sum_by-same (λ fund. sum_by (λ x. part_in same (worth fund.0) fund.1 x) names) passing funds each) in
          at_last ∙ (omega arith)
        where
          worth : A → ℕ
          worth x = total same held funds x

          -- what a fund passes on
          passing : Shared A → ℕ
          passing fund = if nat_eq (length (map (λ c. c.0) fund.1)) 0 then 0 else worth fund.0

          same_length : length (map passing funds) ≡ length (map {A = Shared A} {B = A} (λ f. f.0) funds)
          same_length = length-map {A = Shared A} {B = ℕ} funds passing
              ∙ sym (length-map {A = Shared A} {B = A} funds (λ f. f.0))

          each : (fund : Shared A) → IsMember fund funds
              → sum_by (λ x. part_in same (worth fund.0) fund.1 x) names ≡ passing fund
          each fund m =
              falling_to-all names once (map (λ c. c.0) fund.1) (parts_of (worth fund.0) (map (λ c. c.1) fund.1))
              (parts-counted (worth fund.0) fund.1) (component-listed funds names spread fund m)
              ∙ passed-whole (worth fund.0) fund.1
              (All-contains (λ f. 0 < length f.1 → 0 < sum (map (λ c. c.1) f.1)) funds fund weighted
              (Contains-from_IsMember funds fund m))

  -- ---- ranks

  names-fall : (rank : A → ℕ) (funds : List (Shared A))
      → AllByRecursion (λ fund. AllByRecursion (λ c. rank c.0 < rank fund.0) fund.1) funds
      → (a c : A) → Contains (names_in same funds a) c → rank c < rank a
  names-fall rank [] falls a c h = absurd (IsMember-from_Contains [] c h)
  names-fall rank (fund ∷ funds) falls a c h = same_or_other same is_same same_self a fund.0
      (λ t e.
      let m = IsMember-map (λ d. d.0) fund.1 c
      (IsMember-from_Contains (map (λ d. d.0) fund.1) c
      (subst (λ b. Contains (if b then map (λ d. d.0) fund.1 else names_in same funds a) c) t h)) in
      let less : rank m.0.0 < rank fund.0 = at_member (λ d. rank d.0 < rank fund.0) fund.1 m.0 falls.0 m.1 in
      omega (arith, less, ap rank e, ap rank m.2))
      (λ f n. names-fall rank funds falls.1 a c
      (subst (λ b. Contains (if b then map (λ d. d.0) fund.1 else names_in same funds a) c) f h))

  -- where a rank falls from each fund to its components, none leads to itself
  pub funds-acyclic : (rank : A → ℕ) (funds : List (Shared A))
      → AllByRecursion (λ fund. AllByRecursion (λ c. rank c.0 < rank fund.0) fund.1) funds
      → IsAcyclic (names_in same funds)
  funds-acyclic rank funds falls = acyclic-by_rank (names_in same funds) rank (names-fall rank funds falls)
