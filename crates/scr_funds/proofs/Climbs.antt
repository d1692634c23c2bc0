-- Climbing from component to holder: where nothing leads to itself, a climb meets nothing twice, so it is no longer
-- than the list of all that it can meet.
use Rattle.std.proofs.Common.{◌≡◌, ℕ, zero, suc, ◌<◌, ◌≤◌, Bool, true, false, IsTrue, List, [], ◌∷◌, length, Contains, refl, sym, ap, subst, ◌∙◌, inl, inr, arith}
use Rattle.std.specs.Cmp.{IsEquivalence}
use Rattle.std.specs.List.{AllByRecursion, IsDistinct}
use Rattle.std.specs.Set.{is_member}
use Rattle.std.proofs.lemmas.Bool.{true≢false}
use Rattle.std.proofs.lemmas.Map.Made.{length-le_from_is_member}
use Rattle.scr_funds.specs.Chains.{IsChain, LeadsTo, IsAcyclic}
use Rattle.scr_funds.proofs.Members.{IsMember, each_weaker}

-- ---- a test that tells whether two are one

module _ {A : Type 0} (same : A → A → Bool) (is_same : (x y : A) → IsTrue (same x y) → x ≡ y)
    (same_self : (x : A) → IsTrue (same x x)) where
  -- either the two are one or they are not
  pub same_or_other : {P : Type 0} (x y : A) → (same x y ≡ true → x ≡ y → P) → (same x y ≡ false → (x ≡ y → ⊥) → P) → P
  same_or_other {P} x y one two = by (same x y) refl
    where
      by : (t : Bool) → same x y ≡ t → P
      by true e = one e (is_same x y e)
      by false e = two e (λ k. true≢false (sym (same_self x) ∙ ap (same x) k ∙ e))

  pub same-equivalence : IsEquivalence same
  same-equivalence = record {
    refl = same_self;
    symm = λ x y. same_or_other x y
        (λ t e. t ∙ sym (ap (λ z. same z x) (sym e) ∙ same_self x))
        (λ f n. f ∙ sym (not_same y x (λ e. n (sym e))));
    congr = λ x y z t. ap (λ w. same w z) (is_same x y t);
  }
    where
      not_same : (x y : A) → (x ≡ y → ⊥) → same x y ≡ false
      not_same x y n = same_or_other x y (λ t e. absurd (n e)) (λ f k. f)

  pub is_member-from_IsMember : (xs : List A) (x : A) → IsMember x xs → is_member same xs x ≡ true
  is_member-from_IsMember [] x m = absurd m
  is_member-from_IsMember (y ∷ ys) x m = let rest = is_member-from_IsMember ys x in grind (arith, m, rest, same_self x)

  pub IsMember-from_is_member : (xs : List A) (x : A) → is_member same xs x ≡ true → IsMember x xs
  IsMember-from_is_member [] x t = absurd (true≢false (sym t))
  IsMember-from_is_member (y ∷ ys) x t = let rest = IsMember-from_is_member ys x in grind (arith, t, rest, is_same x y)

  -- a list without repeats has no more than a list that has all of its own
  pub length-le_from_members : (xs ys : List A) → IsDistinct same xs → ((x : A) → IsMember x xs → IsMember x ys)
      → length xs ≤ length ys
  length-le_from_members xs ys apart within =
      length-le_from_is_member same-equivalence xs ys apart
      (λ x t. is_member-from_IsMember ys x (within x (IsMember-from_is_member xs x t)))

  -- ---- climbs

  module _ (components : A → List A) where
    -- each leads to all that stand below it
    abbrev pub IsClimb : List A → Type 0
    IsClimb [] = Unit {0}
    IsClimb (top ∷ below) = AllByRecursion (LeadsTo components top) below × IsClimb below

    -- one step up, to a holder of the one on top
    pub climb_on : (holder top : A) (below : List A) → Contains (components holder) top → IsClimb (top ∷ below)
        → IsClimb (holder ∷ (top ∷ below))
    climb_on holder top below h climb = (
      (
        ([], h),
        each_weaker (LeadsTo components top) (LeadsTo components holder)
            (λ b l. (top ∷ l.0, (h, l.1))) below climb.0,
      ),
      climb,
    )

    pub climb-distinct : IsAcyclic components → (climb : List A) → IsClimb climb → IsDistinct same climb
    unfolding IsDistinct
    climb-distinct acyclic [] h = tt
    climb-distinct acyclic (top ∷ below) h = (
      each_weaker (LeadsTo components top) (λ b. same top b ≡ false) (λ b l. same_or_other top b
          (λ t e. absurd (acyclic top (subst (LeadsTo components top) (sym e) l)))
          (λ f n. f)) below h.0,
      climb-distinct acyclic below h.1,
    )

    pub climb-short : IsAcyclic components → (all : List A) (climb : List A) → IsClimb climb
        → ((x : A) → IsMember x climb → IsMember x all) → length climb ≤ length all
    climb-short acyclic all climb h within = length-le_from_members climb all (climb-distinct acyclic climb h) within

    -- of those that are left, not each has a holder that is left
    module _ (acyclic : IsAcyclic components) (all : List A) (IsLeft : A → Type 0)
        (listed : (x : A) → IsLeft x → IsMember x all)
        (held : (x : A) → IsLeft x → (holder : A) × IsLeft holder × Contains (components holder) x) where
      -- so many steps up from one that is left
      abbrev ClimbOf : ℕ → Type 0
      ClimbOf n = (top : A) × (below : List A) × IsClimb (top ∷ below)
          × ((y : A) → IsMember y (top ∷ below) → IsMember y all) × (length below ≡ n) × IsLeft top

      climb_more : (n : ℕ) → ClimbOf n → ClimbOf (suc n)
      climb_more n c = (next.0, c.0 ∷ c.1, climb_on next.0 c.0 c.1 next.2 c.2, within, ap suc c.4, next.1)
        where
          next : (holder : A) × IsLeft holder × Contains (components holder) c.0
          next = held c.0 c.5

          within : (y : A) → IsMember y (next.0 ∷ (c.0 ∷ c.1)) → IsMember y all
          within y (inl e) = subst (λ z. IsMember z all) (sym e) (listed next.0 next.1)
          within y (inr k) = c.3 y k

      climb_of : (x : A) → IsLeft x → (n : ℕ) → ClimbOf n
      climb_of x l zero = (x, [], (tt, tt), within, refl, l)
        where
          within : (y : A) → IsMember y (x ∷ []) → IsMember y all
          within y (inl e) = subst (λ z. IsMember z all) (sym e) (listed x l)
          within y (inr k) = absurd k
      climb_of x l (suc n) = climb_more n (climb_of x l n)

      pub climbs-end : (x : A) → IsLeft x → ⊥
      climbs-end x l =
          let c = climb_of x l (length all) in
          let short : length (c.0 ∷ c.1) ≤ length all = climb-short acyclic all (c.0 ∷ c.1) c.2 c.3 in
          let long = c.4 in
          omega arith

-- ---- ranks

module _ {A : Type 0} (components : A → List A) (rank : A → ℕ)
    (falls : (a c : A) → Contains (components a) c → rank c < rank a) where
  chain-falls : (a : A) (between : List A) (b : A) → IsChain components a between b → rank b < rank a
  chain-falls a [] b h = falls a b h
  chain-falls a (c ∷ cs) b h = let first : rank c < rank a = falls a c h.0 in let later : rank b < rank c =
      chain-falls c cs b h.1 in omega arith

  -- where a rank falls from holder to component, nothing leads to itself
  pub acyclic-by_rank : IsAcyclic components
  acyclic-by_rank a l = let less : rank a < rank a = chain-falls a l.0 a l.1 in omega arith
