-- Lists of places: which places are in them, and what a test picks of them.
use Rattle.std.proofs.Common.{◌≡◌, ℕ, ◌+◌, ◌<◌, ◌≤◌, ◌||◌, ◌⊎◌, Bool, true, false, not, cond, List, [], ◌∷◌, ◌++◌, length, map, filter, eqb, refl, ap, sym, ◌∙◌, ⊎_elim, inl, inr, subst, arith, rules, eqb-true, eq-eqb, ne_eqb}
use Rattle.std.specs.List.{list_any, IsDistinct, AllByRecursion}
use Rattle.std.proofs.lemmas.Bool.{cases_Bool, or_parts, or_cases, false_from_ne_true, both_ways}
use Rattle.std.proofs.lemmas.Map.Steps.{length-le_from_distinct_below}
use Rattle.scr_links.specs.Places.{has, AreApart, without}

pub has-none : (place : ℕ) → has place [] ≡ false
unfolding has
has-none place = refl

pub has-first : (place first : ℕ) (places : List ℕ) → has place (first ∷ places) ≡ (eqb first place || has place places)
unfolding has
has-first place first places = refl

pub has-self : (place : ℕ) (places : List ℕ) → has place (place ∷ places) ≡ true
has-self place places =
    let e : eqb place place ≡ true = eq-eqb place place refl in
    rw (has-first place place places, e) refl

pub has-later : (place first : ℕ) (places : List ℕ) → has place places ≡ true → has place (first ∷ places) ≡ true
has-later place first places h = grind (rules, has-first place first places)

-- what is in a list is its first place or one of the others
pub has-cases : (place first : ℕ) (places : List ℕ) → has place (first ∷ places) ≡ true
    → (first ≡ place) ⊎ (has place places ≡ true)
has-cases place first places h =
    ⊎_elim (λ e. inl (eqb-true first place e)) (λ l. inr l) (or_cases _ _ (sym (has-first place first places) ∙ h))

-- what is in a list and is not its first place is one of the others
pub among_others : (place first : ℕ) (places : List ℕ) → has place (first ∷ places) ≡ true → eqb first place ≡ false
    → has place places ≡ true
among_others place first places h f =
    ⊎_elim (λ e. absurd (both_ways _ f (eq-eqb first place e))) (λ more. more) (has-cases place first places h)

-- what is not in a list is neither its first place nor one of the others
pub not_first : (place first : ℕ) (places : List ℕ) → has place (first ∷ places) ≡ false → eqb first place ≡ false
not_first place first places h = (or_parts _ _ (sym (has-first place first places) ∙ h)).0

pub not_later : (place first : ℕ) (places : List ℕ) → has place (first ∷ places) ≡ false → has place places ≡ false
not_later place first places h = (or_parts _ _ (sym (has-first place first places) ∙ h)).1

-- two places of which one is in a list and the other is not are two
pub differ : (one other : ℕ) (places : List ℕ) → has one places ≡ true → has other places ≡ false
    → eqb one other ≡ false
differ one other places a b = ne_eqb one other (λ e. both_ways (has one places) (rw e b) a)

pub has-push : (place : ℕ) (places : List ℕ) (last : ℕ)
    → has place (places ++ last ∷ []) ≡ (has place places || eqb last place)
unfolding has
has-push place [] last = grind rules
has-push place (p ∷ places) last = grind (rules, has-push place places last)

pub push-cases : (place : ℕ) (places : List ℕ) (last : ℕ) → has place (places ++ last ∷ []) ≡ true
    → (last ≡ place) ⊎ (has place places ≡ true)
push-cases place places last h =
    ⊎_elim (λ e. inr e) (λ l. inl (eqb-true last place l)) (or_cases _ _ (sym (has-push place places last) ∙ h))

pub AreApart-push : (places : List ℕ) (last : ℕ) → AreApart places → has last places ≡ false
    → AreApart (places ++ last ∷ [])
unfolding AreApart
AreApart-push [] last a f = (has-none last, tt)
AreApart-push (p ∷ places) last a f =
    let other : eqb last p ≡ false =
    ne_eqb last p (λ e. both_ways _ (not_first last p places f) (eq-eqb p last (sym e))) in
    (rw (has-push p places last, a.0, other) refl, AreApart-push places last a.1 (not_later last p places f))

-- ---- what a test picks

module _ (f : ℕ → Bool) where
  pub filter-picks : (p : ℕ) (places : List ℕ) → f p ≡ true → filter f (p ∷ places) ≡ p ∷ filter f places
  filter-picks p places t = rw t refl

  pub filter-drops : (p : ℕ) (places : List ℕ) → f p ≡ false → filter f (p ∷ places) ≡ filter f places
  filter-drops p places t = rw t refl

  pub has-filter : (x : ℕ) (places : List ℕ) → has x (filter f places) ≡ true → has x places ≡ true
  has-filter x [] h = h
  has-filter x (p ∷ places) h = ⊎_elim
      (λ t. ⊎_elim
      (λ e. rw (← e) (has-self p places))
      (λ more. has-later x p places (has-filter x places more))
      (has-cases x p (filter f places) (sym (ap (has x) (filter-picks p places t)) ∙ h)))
      (λ t. has-later x p places (has-filter x places (sym (ap (has x) (filter-drops p places t)) ∙ h)))
      (cases_Bool (f p))

  pub filter-has : (x : ℕ) (places : List ℕ) → has x places ≡ true → f x ≡ true → has x (filter f places) ≡ true
  filter-has x [] h t = absurd (both_ways _ (has-none x) h)
  filter-has x (p ∷ places) h t = ⊎_elim
      (λ e. let here : f p ≡ true = rw e t in
      ap (has x) (filter-picks p places here) ∙ (rw (← e) (has-self p (filter f places))))
      (λ more. ⊎_elim
      (λ u. ap (has x) (filter-picks p places u) ∙ has-later x p (filter f places) (filter-has x places more t))
      (λ u. ap (has x) (filter-drops p places u) ∙ filter-has x places more t)
      (cases_Bool (f p)))
      (has-cases x p places h)

  pub filter-push : (places : List ℕ) (last : ℕ)
      → filter f (places ++ last ∷ []) ≡ filter f places ++ filter f (last ∷ [])
  filter-push [] last = refl
  filter-push (p ∷ places) last = ⊎_elim
      (λ t. filter-picks p (places ++ last ∷ []) t ∙ ap (λ more. p ∷ more) (filter-push places last)
      ∙ ap (λ these. these ++ filter f (last ∷ [])) (sym (filter-picks p places t)))
      (λ t. filter-drops p (places ++ last ∷ []) t ∙ filter-push places last
      ∙ ap (λ these. these ++ filter f (last ∷ [])) (sym (filter-drops p places t)))
      (cases_Bool (f p))

  -- what fails the test is not among what it picks
  pub filter-unpicked : (x : ℕ) (places : List ℕ) → f x ≡ false → has x (filter f places) ≡ false
  filter-unpicked x [] t = has-none x
  filter-unpicked x (p ∷ places) t = ⊎_elim
      (λ u.
      let other : eqb p x ≡ false = ne_eqb p x (λ e. both_ways _ (ap f e ∙ t) u) in
      ap (has x) (filter-picks p places u) ∙ has-first x p (filter f places)
      ∙ rw (other, filter-unpicked x places t) refl)
      (λ u. ap (has x) (filter-drops p places u) ∙ filter-unpicked x places t)
      (cases_Bool (f p))

  pub filter-agree : (g : ℕ → Bool) (places : List ℕ) → ((x : ℕ) → has x places ≡ true → f x ≡ g x)
      → filter f places ≡ filter g places
  filter-agree g [] same = refl
  filter-agree g (p ∷ places) same =
      ap (λ (b : Bool). cond b (p ∷ filter f places) (filter f places)) (same p (has-self p places))
      ∙ ap (λ (these : List ℕ). cond (g p) (p ∷ these) these)
      (filter-agree g places (λ x h. same x (has-later x p places h)))

pub append-nil : (places : List ℕ) → places ++ [] ≡ places
append-nil [] = refl
append-nil (p ∷ places) = ap (λ (these : List ℕ). p ∷ these) (append-nil places)

pub map-agree : {A : Type 0} (f g : ℕ → A) (places : List ℕ) → ((x : ℕ) → has x places ≡ true → f x ≡ g x)
    → map f places ≡ map g places
map-agree f g [] same = refl
map-agree {A} f g (p ∷ places) same =
    ap (λ (a : A). a ∷ map f places) (same p (has-self p places))
    ∙ ap (λ (more : List A). g p ∷ more) (map-agree f g places (λ x h. same x (has-later x p places h)))

-- ---- without a place

module _ (place : ℕ) where
  without-first : (p : ℕ) (places : List ℕ)
      → without place (p ∷ places) ≡ cond (not (eqb p place)) (p ∷ without place places) (without place places)
  unfolding without
  without-first p places = refl

  pub without-it : (p : ℕ) (places : List ℕ) → eqb p place ≡ true → without place (p ∷ places) ≡ without place places
  without-it p places e = rw (without-first p places, e) refl

  pub without-other : (p : ℕ) (places : List ℕ) → eqb p place ≡ false
      → without place (p ∷ places) ≡ p ∷ without place places
  without-other p places e = rw (without-first p places, e) refl

  pub without-absent : (places : List ℕ) → has place places ≡ false → without place places ≡ places
  unfolding without
  without-absent [] h = refl
  without-absent (p ∷ places) h =
      without-other p places (not_first place p places h)
      ∙ ap (λ more. p ∷ more) (without-absent places (not_later place p places h))

  pub has-without_self : (places : List ℕ) → has place (without place places) ≡ false
  unfolding without
  has-without_self [] = has-none place
  has-without_self (p ∷ places) = ⊎_elim
      (λ e. ap (has place) (without-it p places e) ∙ has-without_self places)
      (λ e. ap (has place) (without-other p places e) ∙ has-first place p (without place places)
      ∙ rw (e, has-without_self places) refl)
      (cases_Bool (eqb p place))

  pub has-without : (x : ℕ) (places : List ℕ) → has x (without place places) ≡ true → has x places ≡ true
  unfolding without
  has-without x [] h = h
  has-without x (p ∷ places) h = ⊎_elim
      (λ e. has-later x p places (has-without x places (sym (ap (has x) (without-it p places e)) ∙ h)))
      (λ e. ⊎_elim
      (λ same. rw (← same) (has-self p places))
      (λ more. has-later x p places (has-without x places more))
      (has-cases x p (without place places) (sym (ap (has x) (without-other p places e)) ∙ h)))
      (cases_Bool (eqb p place))

  pub AreApart-without : (places : List ℕ) → AreApart places → AreApart (without place places)
  unfolding AreApart without
  AreApart-without [] a = a
  AreApart-without (p ∷ places) a = ⊎_elim
      (λ e. let P : List ℕ → Type 0 = AreApart in
      subst P (sym (without-it p places e)) (AreApart-without places a.1))
      (λ e. let P : List ℕ → Type 0 = AreApart in
      let gone : has p (without place places) ≡ false =
      false_from_ne_true _ (λ t. both_ways _ a.0 (has-without p places t)) in
      subst P (sym (without-other p places e)) (gone, AreApart-without places a.1))
      (cases_Bool (eqb p place))

  pub length-without : (places : List ℕ) → AreApart places → has place places ≡ true
      → length (without place places) + 1 ≡ length places
  unfolding AreApart
  length-without [] a h = absurd (both_ways _ (has-none place) h)
  length-without (p ∷ places) a h = ⊎_elim
      (λ e.
      let same : p ≡ place = eqb-true p place e in
      let kept = without-absent places (rw same at a.0) in
      ap (λ (these : List ℕ). length these + 1) (without-it p places e ∙ kept) ∙ omega arith)
      (λ e.
      let rest = length-without places a.1 (among_others place p places h e) in
      ap (λ (these : List ℕ). length these + 1) (without-other p places e) ∙ omega (arith, rest))
      (cases_Bool (eqb p place))

  -- a test picks of what is left what it picked before
  pub filter-without : (f : ℕ → Bool) (places : List ℕ)
      → filter f (without place places) ≡ without place (filter f places)
  unfolding without
  filter-without f [] = refl
  filter-without f (p ∷ places) = ⊎_elim
      (λ e. ⊎_elim
      (λ t. ap (filter f) (without-it p places e) ∙ filter-without f places
      ∙ sym (ap (without place) (filter-picks f p places t) ∙ without-it p (filter f places) e))
      (λ t. ap (filter f) (without-it p places e) ∙ filter-without f places
      ∙ sym (ap (without place) (filter-drops f p places t)))
      (cases_Bool (f p)))
      (λ e. ⊎_elim
      (λ t. ap (filter f) (without-other p places e) ∙ filter-picks f p (without place places) t
      ∙ ap (λ more. p ∷ more) (filter-without f places)
      ∙ sym (ap (without place) (filter-picks f p places t) ∙ without-other p (filter f places) e))
      (λ t. ap (filter f) (without-other p places e) ∙ filter-drops f p (without place places) t
      ∙ filter-without f places ∙ sym (ap (without place) (filter-drops f p places t)))
      (cases_Bool (f p)))
      (cases_Bool (eqb p place))

-- ---- how many

apart-each : (place : ℕ) (places : List ℕ) → has place places ≡ false → AllByRecursion (λ y. eqb place y ≡ false) places
apart-each place [] h = tt
apart-each place (p ∷ places) h =
    let other : eqb place p ≡ false =
    ne_eqb place p (λ e. both_ways _ (not_first place p places h) (eq-eqb p place (sym e))) in
    (other, apart-each place places (not_later place p places h))

pub IsDistinct-from_apart : (places : List ℕ) → AreApart places → IsDistinct eqb places
unfolding IsDistinct AreApart
IsDistinct-from_apart [] a = tt
IsDistinct-from_apart (p ∷ places) a = (apart-each p places a.0, IsDistinct-from_apart places a.1)

has-from_any : (place : ℕ) (places : List ℕ) → list_any (eqb place) places ≡ true → has place places ≡ true
has-from_any place [] h = cc
has-from_any place (p ∷ places) h = ⊎_elim
    (λ e. let same : place ≡ p = eqb-true place p e in rw same (has-self p places))
    (λ more. has-later place p places (has-from_any place places more))
    (or_cases _ _ h)

pub length-below : (places : List ℕ) (n : ℕ) → AreApart places → ((place : ℕ) → has place places ≡ true → place < n)
    → length places ≤ n
length-below places n a below =
    length-le_from_distinct_below places n (IsDistinct-from_apart places a) (λ q h. below q (has-from_any q places h))
