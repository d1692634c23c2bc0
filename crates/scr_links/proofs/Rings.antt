-- Rings of places, each next to the one before: what joins a ring at its end, and what leaves it.
use Rattle.std.proofs.Common.{◌≡◌, ℕ, ◌⊎◌, true, false, List, [], ◌∷◌, ◌++◌, eqb, sym, ◌∙◌, ⊎_elim, inl, inr, subst, eqb-true, eq-eqb, ne_eqb}
use Rattle.std.proofs.lemmas.Bool.{cases_Bool, both_ways}
use Rattle.scr_links.specs.Places.{has, AreApart, without}
use Rattle.scr_links.specs.Chains.{Path}
use Rattle.scr_links.proofs.Lists.{has-none, has-self, has-later, has-cases, not_first, not_later, differ, without-it, without-other, without-absent, among_others}

module _ (next previous : ℕ → ℕ) where
  -- what goes before the end of a ring is in it
  pub before_end : (from : ℕ) (places : List ℕ) (to : ℕ) → Path next previous from places to
      → has (previous to) (from ∷ places) ≡ true
  before_end from [] to path = rw path.1 (has-self from [])
  before_end from (p ∷ places) to path = has-later _ from (p ∷ places) (before_end p places to path.2)

  pub before_inside : (from : ℕ) (places : List ℕ) (to place : ℕ) → Path next previous from places to
      → has place places ≡ true → has (previous place) (from ∷ places) ≡ true
  before_inside from [] to place path h = absurd (both_ways _ (has-none place) h)
  before_inside from (p ∷ places) to place path h = ⊎_elim
      (λ e. rw (← e, path.1) (has-self from (p ∷ places)))
      (λ more. has-later _ from (p ∷ places) (before_inside p places to place path.2 more))
      (has-cases place p places h)

  -- what follows a place of a ring is in it, or is its end
  pub after_inside : (from : ℕ) (places : List ℕ) (to place : ℕ) → Path next previous from places to
      → has place (from ∷ places) ≡ true → (next place ≡ to) ⊎ (has (next place) places ≡ true)
  after_inside from [] to place path h = ⊎_elim
      (λ e. inl (rw (← e) path.0))
      (λ no. absurd (both_ways _ (has-none place) no))
      (has-cases place from [] h)
  after_inside from (p ∷ places) to place path h = ⊎_elim
      (λ e. inr (rw (← e, path.0) (has-self p places)))
      (λ more. ⊎_elim (λ e. inl e) (λ t. inr (has-later _ p places t)) (after_inside p places to place path.2 more))
      (has-cases place from (p ∷ places) h)

  module _ (onward backward : ℕ → ℕ) where
    -- a ring stays where the links of its places do
    pub same_ring : (from : ℕ) (places : List ℕ) (to : ℕ)
        → ((x : ℕ) → has x (from ∷ places) ≡ true → onward x ≡ next x)
        → ((x : ℕ) → has x places ≡ true → backward x ≡ previous x) → backward to ≡ previous to
        → Path next previous from places to → Path onward backward from places to
    same_ring from [] to on back end path = (on from (has-self from []) ∙ path.0, end ∙ path.1)
    same_ring from (p ∷ places) to on back end path = (
      on from (has-self from (p ∷ places)) ∙ path.0,
      back p (has-self p places) ∙ path.1,
      same_ring p places to (λ x h. on x (has-later x from (p ∷ places) h)) (λ x h. back x
          (has-later x p places h)) end path.2,
    )

    -- a place joins at the end
    module _ (place to : ℕ) (apart : eqb place to ≡ false)
        (at_last : onward (previous to) ≡ place) (at_place : onward place ≡ to)
        (on : (x : ℕ) → eqb x place ≡ false → eqb x (previous to) ≡ false → onward x ≡ next x)
        (at_end : backward to ≡ place) (back_place : backward place ≡ previous to)
        (back : (x : ℕ) → eqb x place ≡ false → eqb x to ≡ false → backward x ≡ previous x) where
      pub joined_ring : (from : ℕ) (places : List ℕ) → AreApart (from ∷ places)
          → has place (from ∷ places) ≡ false → has to places ≡ false
          → Path next previous from places to → Path onward backward from (places ++ place ∷ []) to
      unfolding AreApart
      joined_ring from [] a f e path =
          (rw path.1 at at_last, back_place ∙ path.1, (at_place, at_end))
      joined_ring from (p ∷ places) a f e path =
          let last : has (previous to) (p ∷ places) ≡ true = before_end p places to path.2 in
          let other : eqb from (previous to) ≡ false =
          ne_eqb from (previous to) (λ same. both_ways _ (rw same at a.0) last) in (
            on from (not_first place from (p ∷ places) f) other ∙ path.0,
            back p (not_first place p places (not_later place from (p ∷ places) f)) (not_first to p places e) ∙ path.1,
            joined_ring p places a.1 (not_later place from (p ∷ places) f) (not_later to p places e) path.2,
          )

    -- a place leaves
    module _ (place to : ℕ)
        (at_before : onward (previous place) ≡ next place)
        (on : (x : ℕ) → eqb x (previous place) ≡ false → onward x ≡ next x)
        (at_after : backward (next place) ≡ previous place)
        (back : (x : ℕ) → eqb x (next place) ≡ false → backward x ≡ previous x) where
      left_first : (from : ℕ) (places : List ℕ) → AreApart (from ∷ place ∷ places) → has to places ≡ false
          → Path next previous from (place ∷ places) to → Path onward backward from places to
      unfolding AreApart
      left_first from [] a e path =
          (rw (path.1, path.2.0) at at_before, rw (path.2.0, path.1) at at_after)
      left_first from (y ∷ places) a e path = (
        rw (path.1, path.2.0) at at_before,
        rw (path.2.0, path.1) at at_after,
        same_ring y places to
            (λ x h. on x (differ x (previous place) (y ∷ places) h (rw path.1 (not_later from place (y ∷ places) a.0))))
            (λ x h. back x (differ x (next place) places h (rw path.2.0 a.1.1.0)))
            (back to (ne_eqb to (next place) (λ same.
            both_ways _ (not_first to y places e) (eq-eqb y to (sym path.2.0 ∙ sym same)))))
            path.2.2,
      )

      -- what goes before the place that leaves is in the ring, so it is not what stands before the ring
      left_before : (from p : ℕ) (places : List ℕ) → AreApart (from ∷ p ∷ places)
          → Path next previous from (p ∷ places) to → has place places ≡ true → eqb from (previous place) ≡ false
      unfolding AreApart
      left_before from p places a path more =
          ne_eqb from (previous place) (λ same.
          both_ways _ (rw same at a.0) (before_inside p places to place path.2 more))

      -- and what follows it is past the first place
      left_after : (p : ℕ) (places : List ℕ) → AreApart (p ∷ places) → has to (p ∷ places) ≡ false
          → Path next previous p places to → has place places ≡ true → eqb p (next place) ≡ false
      unfolding AreApart
      left_after p places a e path more = ne_eqb p (next place) (λ same. ⊎_elim
          (λ end. both_ways _ (not_first to p places e) (eq-eqb p to (same ∙ end)))
          (λ inside. both_ways _ (rw same at a.0) inside)
          (after_inside p places to place path (has-later place p places more)))

      left_one : (from p : ℕ) (places : List ℕ) → AreApart (from ∷ p ∷ places) → has to (p ∷ places) ≡ false
          → Path next previous from (p ∷ places) to → p ≡ place
          → Path onward backward from (without place (p ∷ places)) to
      unfolding AreApart
      left_one from p places a e path same =
          let Q : List ℕ → Type 0 = λ ps. Path onward backward from ps to in
          subst Q (sym (without-it place p places (eq-eqb p place same)
          ∙ without-absent place places (rw same at a.1.0)))
          (left_first from places (rw same at a) (not_later to p places e) (rw same at path))

      pub left_ring : (from : ℕ) (places : List ℕ) → AreApart (from ∷ places) → has to places ≡ false
          → has place places ≡ true
          → Path next previous from places to → Path onward backward from (without place places) to
      unfolding AreApart
      left_ring from [] a e h path = absurd (both_ways _ (has-none place) h)
      left_ring from (p ∷ places) a e h path = ⊎_elim
          (λ t. left_one from p places a e path (eqb-true p place t))
          (λ f.
          let more : has place places ≡ true = among_others place p places h f in
          let Q : List ℕ → Type 0 = λ ps. Path onward backward from ps to in
          subst Q (sym (without-other place p places f)) (
            on from (left_before from p places a path more) ∙ path.0,
            back p (left_after p places a.1 e path.2 more) ∙ path.1,
            left_ring p places a.1 (not_later to p places e) more path.2,
          ))
          (cases_Bool (eqb p place))
