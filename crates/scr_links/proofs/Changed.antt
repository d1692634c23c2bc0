-- What a place that joins the end of a list changes, and one that leaves it.
use Rattle.std.proofs.Common.{◌≡◌, ℕ, ◌+◌, ◌<◌, ◌≤◌, true, false, cond, List, [], ◌∷◌, ◌++◌, length, get_or, eqb, refl, ap, sym, ◌∙◌, ⊎_elim, subst, arith, eqb-true, eq-eqb, ne_eqb}
use Rattle.std.proofs.lemmas.Bool.{cases_Bool, both_ways, false_from_ne_true}
use Rattle.scr_links.specs.Places.{has, AreApart, without}
use Rattle.scr_links.specs.Chains.{Chained, none, unlinked, link_at, ends_at, list_of, next_in, previous_in, IsChain, AreChains, SetsNext, SetsPrevious}
use Rattle.scr_links.specs.declared.{chains.Link.Link, chains.Ends.Ends}
use Rattle.scr_links.proofs.Lists.{has-first, has-self, has-later, has-cases, differ, push-cases, AreApart-push, has-without, has-without_self, length-without, AreApart-without}
use Rattle.scr_links.proofs.Rings.{joined_ring, left_ring, before_end, before_inside, after_inside}
use Rattle.std.proofs.lemmas.List.{get_or_default}
use Rattle.scr_links.proofs.Linked.{Kept, kept, previous_in-none, previous_in-place, next_in-place, none_outside, chain_apart, Changes}

differ_back : (one other : ℕ) (places : List ℕ) → has one places ≡ true → has other places ≡ false
    → eqb other one ≡ false
differ_back one other places a b = ne_eqb other one (λ e. both_ways (has one places) (rw (← e) b) a)

-- a place that is in the ring and is not `none` is in the list, and has a link
pub linked_place : (links : List Link) (ends : Ends) (places : List ℕ) (x : ℕ) → IsChain links ends places
    → has x (none ∷ places) ≡ true → eqb x none ≡ false → x < length links
linked_place links ends places x chain h f = chain.within x (⊎_elim
    (λ e. absurd (both_ways _ f (eq-eqb x none (sym e))))
    (λ more. more)
    (has-cases x none places h))

-- the last place of a list, or `none`
pub last_in_ring : (links : List Link) (ends : Ends) (places : List ℕ) → IsChain links ends places
    → has ends.last (none ∷ places) ≡ true
unfolding previous_in
last_in_ring links ends places chain =
    before_end (next_in links ends) (previous_in links ends) none places none chain.ring

-- the neighbours of a place are in the ring
module _ (links : List Link) (ends : Ends) (few : length links ≤ none) (places : List ℕ)
    (chain : IsChain links ends places)
    (place : ℕ) (inside : has place places ≡ true) where
  a_place : eqb place none ≡ false
  a_place = differ place none places inside (none_outside links ends few places chain)

  pub previous_in_ring : has (link_at links place).previous (none ∷ places) ≡ true
  previous_in_ring =
      let P : ℕ → Type 0 = λ y. has y (none ∷ places) ≡ true in
      subst P (previous_in-place links ends place a_place)
      (before_inside (next_in links ends) (previous_in links ends) none places none place chain.ring inside)

  pub next_in_ring : has (link_at links place).next (none ∷ places) ≡ true
  next_in_ring =
      let P : ℕ → Type 0 = λ y. has y (none ∷ places) ≡ true in
      subst P (next_in-place links ends place a_place) (⊎_elim
      (λ e. rw e (has-self none places))
      (λ h. has-later _ none places h)
      (after_inside (next_in links ends) (previous_in links ends) none places none place chain.ring
      (has-later place none places inside)))

module _ (before : Chained) (list place : ℕ) (chains : AreChains before) where
  abbrev start : Ends
  start = ends_at before.ends list

  -- a place of another list is not in this ring
  outside : (number x : ℕ) → eqb number list ≡ false → has x (list_of before number) ≡ true
      → has x (none ∷ list_of before list) ≡ false
  outside number x f h =
      let other : has x (list_of before list) ≡ false =
      false_from_ne_true _ (λ t. both_ways _ f (eq-eqb number list (chains.apart number list x h t))) in
      let some : eqb none x ≡ false = differ_back x none (list_of before number) h
      (none_outside before.links (ends_at before.ends number) chains.few (list_of before number)
      (chains.each number)) in
      rw (has-first x none (list_of before list), some, other) refl

  other_alone : (number x : ℕ) → eqb number list ≡ false → has x (list_of before list) ≡ true
      → has x (list_of before number) ≡ false
  other_alone number x f h =
      false_from_ne_true _ (λ t. both_ways _ f (eq-eqb number list (chains.apart number list x t h)))

  -- ---- a place joins the end of the list

  module _ (free : (number : ℕ) → has place (list_of before number) ≡ false) (low : place < length before.links)
      (one two three : List Link) (first second third : Ends) (now : Chained)
      (step_one : SetsNext start.last place before.links start one first)
      (step_two : SetsPrevious none place one first two second)
      (step_three : SetsNext place none two second three third)
      (step_four : SetsPrevious place start.last three third now.links (ends_at now.ends list))
      (ends : (number : ℕ) → eqb number list ≡ false → ends_at now.ends number ≡ ends_at before.ends number) where
    abbrev places : List ℕ
    places = list_of before list

    some : eqb place none ≡ false
    some = let few = chains.few in ne_eqb place none (omega arith)

    onward : (x : ℕ) → next_in now.links (ends_at now.ends list) x
        ≡ cond (eqb x place) none (cond (eqb x start.last) place (next_in before.links start x))
    onward x =
        step_four.onward x ∙ step_three.onward x
        ∙ ap (λ n. cond (eqb x place) none n) (step_two.onward x ∙ step_one.onward x)

    backward : (x : ℕ) → previous_in now.links (ends_at now.ends list) x
        ≡ cond (eqb x place) start.last (cond (eqb x none) place (previous_in before.links start x))
    backward x =
        step_four.backward x
        ∙ ap (λ n. cond (eqb x place) start.last n) (step_three.backward x ∙ step_two.backward x
        ∙ ap (λ n. cond (eqb x none) place n) (step_one.backward x))

    others : (x : ℕ) → eqb x place ≡ false → eqb x none ≡ false → eqb x start.last ≡ false
        → link_at now.links x ≡ link_at before.links x
    others x a b c =
        step_four.others x a ∙ step_three.others x a ∙ step_two.others x b ∙ step_one.others x c

    long : length now.links ≡ length before.links
    long = step_four.places ∙ step_three.places ∙ step_two.places ∙ step_one.places

    chain : IsChain before.links start places
    chain = chains.each list

    last_inside : has start.last (none ∷ places) ≡ true
    last_inside = last_in_ring before.links start places chain

    place_outside : has place (none ∷ places) ≡ false
    place_outside =
        let other : eqb none place ≡ false = ne_eqb none place (λ e. both_ways _ some (eq-eqb place none (sym e))) in
        rw (has-first place none places, other, free list) refl

    joined_chain : IsChain now.links (ends_at now.ends list) (places ++ place ∷ [])
    unfolding AreApart
    joined_chain =
        let self : eqb place place ≡ true = eq-eqb place place refl in
        let apart : eqb start.last place ≡ false = differ start.last place (none ∷ places) last_inside place_outside in
        let same : eqb start.last start.last ≡ true = eq-eqb start.last start.last refl in
        let ends_here = previous_in-none before.links start in
        let other : eqb none place ≡ false = ne_eqb none place (λ e. both_ways _ some (eq-eqb place none (sym e))) in
        let outside : has none places ≡ false = chain.distinct.0 in
        record {
          ring = joined_ring (next_in before.links start) (previous_in before.links start)
              (next_in now.links (ends_at now.ends list)) (previous_in now.links (ends_at now.ends list))
              place none some
              (rw ends_here (onward start.last ∙ rw (apart, same) refl))
              (onward place ∙ rw self refl)
              (λ x a b. let c : eqb x start.last ≡ false = rw ends_here at b in onward x ∙ rw (a, c) refl)
              (backward none ∙ rw other refl)
              (backward place ∙ rw self (sym ends_here))
              (λ x a b. backward x ∙ rw (a, b) refl)
              none places chain.distinct place_outside outside chain.ring;
          distinct =
              let last : has none (places ++ place ∷ []) ≡ false =
              false_from_ne_true _ (λ t. ⊎_elim
              (λ e. both_ways _ some (eq-eqb place none e))
              (λ h. both_ways _ outside h)
              (push-cases none places place t)) in
              (last, AreApart-push places place chain.distinct.1 (free list));
          within = λ x h. ⊎_elim
              (λ e. omega (arith, long))
              (λ more. let there = chain.within x more in omega (arith, long))
              (push-cases x places place h);
        }

    pub joined : Changes before now list (places ++ place ∷ [])
    joined = record {
      chain = joined_chain;
      ends = ends;
      kept = λ number f x h.
          others x
          (differ x place (list_of before number) h (free number))
          (differ x none (list_of before number) h
          (none_outside before.links (ends_at before.ends number) chains.few (list_of before number)
          (chains.each number)))
          (differ_back start.last x (none ∷ places) last_inside (outside number x f h));
      alone = λ number f x h. ⊎_elim
          (λ e. let P : ℕ → Type 0 = λ y. has y (list_of before number) ≡ false in subst P e (free number))
          (λ more. other_alone number x f more)
          (push-cases x places place h);
      long = long;
    }

  -- ---- a place leaves the list

  module _ (inside : has place (list_of before list) ≡ true)
      (one : List Link) (first : Ends) (now : Chained) (previous next : ℕ)
      (is_previous : previous ≡ (link_at before.links place).previous)
      (is_next : next ≡ (link_at before.links place).next)
      (step_one : SetsNext previous next before.links start one first)
      (step_two : SetsPrevious next previous one first now.links (ends_at now.ends list))
      (ends : (number : ℕ) → eqb number list ≡ false → ends_at now.ends number ≡ ends_at before.ends number) where
    abbrev left_places : List ℕ
    left_places = list_of before list

    left_from : IsChain before.links start left_places
    left_from = chains.each list

    none_apart : has none left_places ≡ false
    none_apart = none_outside before.links start chains.few left_places left_from

    is_place : eqb place none ≡ false
    is_place = differ place none left_places inside none_apart

    previous_is : previous_in before.links start place ≡ previous
    previous_is = previous_in-place before.links start place is_place ∙ sym is_previous

    next_is : next_in before.links start place ≡ next
    next_is = next_in-place before.links start place is_place ∙ sym is_next

    left_onward : (x : ℕ) → next_in now.links (ends_at now.ends list) x ≡ cond (eqb x previous) next
        (next_in before.links start x)
    left_onward x = step_two.onward x ∙ step_one.onward x

    left_backward : (x : ℕ) → previous_in now.links (ends_at now.ends list) x
        ≡ cond (eqb x next) previous (previous_in before.links start x)
    left_backward x = step_two.backward x ∙ ap (λ n. cond (eqb x next) previous n) (step_one.backward x)

    left_long : length now.links ≡ length before.links
    left_long = step_two.places ∙ step_one.places

    previous_inside : has previous (none ∷ left_places) ≡ true
    previous_inside =
        rw is_previous (previous_in_ring before.links start chains.few left_places left_from place inside)

    next_inside : has next (none ∷ left_places) ≡ true
    next_inside = rw is_next (next_in_ring before.links start chains.few left_places left_from place inside)

    left_chain : IsChain now.links (ends_at now.ends list) (without place left_places)
    unfolding AreApart
    left_chain =
        let same : eqb previous previous ≡ true = eq-eqb previous previous refl in
        let self : eqb next next ≡ true = eq-eqb next next refl in
        record {
          ring = left_ring (next_in before.links start) (previous_in before.links start)
              (next_in now.links (ends_at now.ends list)) (previous_in now.links (ends_at now.ends list))
              place none
              (rw (previous_is, next_is) (left_onward previous ∙ rw same refl))
              (λ x a. let b : eqb x previous ≡ false = rw previous_is at a in left_onward x ∙ rw b refl)
              (rw (previous_is, next_is) (left_backward next ∙ rw self refl))
              (λ x a. let b : eqb x next ≡ false = rw next_is at a in left_backward x ∙ rw b refl)
              none left_places left_from.distinct none_apart inside left_from.ring;
          distinct =
              let apart : has none (without place left_places) ≡ false =
              false_from_ne_true _ (λ t. both_ways _ none_apart (has-without place none left_places t)) in
              (apart, AreApart-without place left_places left_from.distinct.1);
          within = λ x h. let low = left_from.within x (has-without place x left_places h) in omega (arith, left_long);
        }

    pub left : Changes before now list (without place left_places)
    left = record {
      chain = left_chain;
      ends = ends;
      kept = λ number f x h.
          step_two.others x (differ_back next x (none ∷ left_places) next_inside (outside number x f h))
          ∙ step_one.others x (differ_back previous x (none ∷ left_places) previous_inside (outside number x f h));
      alone = λ number f x h. other_alone number x f (has-without place x left_places h);
      long = left_long;
    }

-- ---- the same, of what contracts see of the lists

module _ (value before : Chained) (list place : ℕ) (same : before ≡ value) (chains : AreChains before)
    (first : Ends) (first_is : first ≡ ends_at before.ends list) where
  ring_place : (x : ℕ) → has x (none ∷ list_of before list) ≡ true → eqb x none ≡ false → x < length before.links
  ring_place x h f = linked_place before.links (ends_at before.ends list) (list_of before list) x
      (chains.each list) h f

  pub last_linked : eqb first.last none ≡ false → first.last < length before.links
  last_linked f =
      let P : Ends → Type 0 = λ e. eqb e.last none ≡ false → e.last < length before.links in
      subst P (sym first_is) (ring_place _
      (last_in_ring before.links (ends_at before.ends list) (list_of before list) (chains.each list))) f

  -- the ends of this list are other ones now
  module _ (now : Chained) (last : Ends) (here : last ≡ ends_at now.ends list)
      (there : (number : ℕ) → eqb number list ≡ false → ends_at now.ends number ≡ ends_at before.ends number) where
    pub appended : ((number : ℕ) → has place (list_of value number) ≡ false) → place < length value.links
        → (one two three : List Link) (second third fourth : Ends)
        → SetsNext first.last place before.links first one second → SetsPrevious none place one second two third
        → SetsNext place none two third three fourth → SetsPrevious place first.last three fourth now.links last
        → Kept value now list (list_of value list ++ place ∷ [])
    appended free linked one two three second third fourth step_one step_two step_three step_four =
        let long = ap (λ (v : Chained). length v.links) same in
        let there_is : place < length before.links = omega (arith, long) in
        let P : List ℕ → Type 0 = λ these. Kept value now list (these ++ place ∷ []) in
        let Q : Ends → Type 0 = λ e. SetsNext e.last place before.links e one second in
        let R : Ends → Type 0 = λ e. SetsPrevious place (ends_at before.ends list).last three fourth now.links e in
        let S : Ends → Type 0 = λ e. SetsPrevious place e.last three fourth now.links last in
        subst P (ap (λ (v : Chained). list_of v list) same)
        (kept value before now list _ same chains
        (joined before list place chains
        (λ number. ap (λ (v : Chained). has place (list_of v number)) same ∙ free number) there_is
        one two three second third fourth now
        (subst Q first_is step_one) step_two step_three
        (subst R here (subst S first_is step_four)) there))

  module _ (inside : has place (list_of value list) ≡ true) (link : Link)
      (is_link : link ≡ get_or before.links place link) where
    inside_before : has place (list_of before list) ≡ true
    inside_before = ap (λ (v : Chained). has place (list_of v list)) same ∙ inside

    link_is : link ≡ link_at before.links place
    link_is = is_link ∙ get_or_default before.links place link unlinked ((chains.each list).within place inside_before)

    pub previous_linked : eqb link.previous none ≡ false → link.previous < length before.links
    previous_linked f =
        let P : Link → Type 0 = λ l. eqb l.previous none ≡ false → l.previous < length before.links in
        subst P (sym link_is) (ring_place _
        (previous_in_ring before.links (ends_at before.ends list) chains.few (list_of before list)
        (chains.each list) place inside_before)) f

    pub next_linked : eqb link.next none ≡ false → link.next < length before.links
    next_linked f =
        let P : Link → Type 0 = λ l. eqb l.next none ≡ false → l.next < length before.links in
        subst P (sym link_is) (ring_place _
        (next_in_ring before.links (ends_at before.ends list) chains.few (list_of before list)
        (chains.each list) place inside_before)) f

    pub removed : (now : Chained) (last : Ends) → last ≡ ends_at now.ends list
        → ((number : ℕ) → eqb number list ≡ false → ends_at now.ends number ≡ ends_at before.ends number)
        → (one : List Link) (second : Ends)
        → SetsNext link.previous link.next before.links first one second
        → SetsPrevious link.next link.previous one second now.links last
        → Kept value now list (without place (list_of value list))
    removed now last here there one second step_one step_two =
        let P : List ℕ → Type 0 = λ these. Kept value now list (without place these) in
        let Q : Ends → Type 0 = λ e. SetsNext link.previous link.next before.links e one second in
        let R : Ends → Type 0 = λ e. SetsPrevious link.next link.previous one second now.links e in
        subst P (ap (λ (v : Chained). list_of v list) same)
        (kept value before now list _ same chains
        (left before list place chains inside_before one second now
        link.previous link.next (ap (λ (l : Link). l.previous) link_is) (ap (λ (l : Link). l.next) link_is)
        (subst Q first_is step_one)
        (subst R here step_two) there))

-- what leaves its list is in none
pub gone : (value before now : Chained) (list place : ℕ) → before ≡ value → AreChains before
    → has place (list_of value list) ≡ true → Kept value now list (without place (list_of value list))
    → (number : ℕ) → has place (list_of now number) ≡ false
gone value before now list place same chains inside kept number = ⊎_elim
    (λ t. ap (λ n. has place (list_of now n)) (eqb-true number list t) ∙ ap (has place) kept.listed
    ∙ has-without_self place (list_of value list))
    (λ f. ap (has place) (kept.others number f) ∙ sym (ap (λ (v : Chained). has place (list_of v number)) same)
    ∙ other_alone before list place chains number place f
    (ap (λ (v : Chained). has place (list_of v list)) same ∙ inside))
    (cases_Bool (eqb number list))

-- and its list has one place less
pub fewer : (value before now : Chained) (list place : ℕ) → before ≡ value → AreChains before
    → has place (list_of value list) ≡ true → Kept value now list (without place (list_of value list))
    → length (list_of now list) + 1 ≡ length (list_of value list)
fewer value before now list place same chains inside kept =
    let P : List ℕ → Type 0 = AreApart in
    let apart = subst P (ap (λ (v : Chained). list_of v list) same)
    (chain_apart before.links (ends_at before.ends list) chains.few (list_of before list) (chains.each list)) in
    ap (λ (these : List ℕ). length these + 1) kept.listed ∙ length-without place (list_of value list) apart inside
