-- Lists of places that are linked both ways: their places, one after the other, and a change to one of the lists.
use Rattle.std.proofs.Common.{◌≡◌, ℕ, zero, suc, ◌<◌, ◌≤◌, true, false, cond, List, [], ◌∷◌, length, set, eqb, refl, ap, sym, ◌∙◌, ⊎_elim, subst, arith, eqb-true, eq-eqb, ne_eqb}
use Rattle.std.proofs.lemmas.Bool.{cases_Bool, cases_lt, both_ways, cond-true, cond-false}
use Rattle.std.proofs.lemmas.List.{get_or-set_same, get_or-set_other, length-set}
use Rattle.scr_links.specs.Places.{has, AreApart}
use Rattle.scr_links.specs.Chains.{Chained, none, empty, link_at, ends_at, places_from, list_of, next_in, previous_in, Path, IsChain, Leads, AreChains, unlinked, SetsNext, SetsPrevious}
use Rattle.scr_links.specs.declared.{chains.Link.Link, chains.Ends.Ends}
use Rattle.scr_links.proofs.Lists.{has-none, has-self, has-later, has-cases, length-below}
use Rattle.scr_links.proofs.Rings.{same_ring}

-- ---- next and previous

module _ (links : List Link) (ends : Ends) where
  pub previous_in-none : previous_in links ends none ≡ ends.last
  unfolding previous_in
  previous_in-none = refl

  pub next_in-place : (place : ℕ) → eqb place none ≡ false → next_in links ends place ≡ (link_at links place).next
  unfolding next_in
  next_in-place place e = rw e refl

  pub previous_in-place : (place : ℕ) → eqb place none ≡ false
      → previous_in links ends place ≡ (link_at links place).previous
  unfolding previous_in
  previous_in-place place e = rw e refl

-- where the link of a place is the same, so is what follows it, and what goes before
pub next_in-same : (links now : List Link) (ends : Ends) (place : ℕ)
    → (eqb place none ≡ false → link_at now place ≡ link_at links place)
    → next_in now ends place ≡ next_in links ends place
unfolding next_in
next_in-same links now ends place same = ⊎_elim
    (λ t. rw t refl)
    (λ f. rw (f, same f) refl)
    (cases_Bool (eqb place none))

pub previous_in-same : (links now : List Link) (ends : Ends) (place : ℕ)
    → (eqb place none ≡ false → link_at now place ≡ link_at links place)
    → previous_in now ends place ≡ previous_in links ends place
unfolding previous_in
previous_in-same links now ends place same = ⊎_elim
    (λ t. rw t refl)
    (λ f. rw (f, same f) refl)
    (cases_Bool (eqb place none))

-- ---- one step

module _ (links : List Link) (ends : Ends) where
  pub sets_first : (next : ℕ) → SetsNext none next links ends links (record ends { first = next })
  unfolding next_in previous_in
  sets_first next = record {
    onward = λ x. ⊎_elim (λ t. rw t refl) (λ f. rw f refl) (cases_Bool (eqb x none));
    backward = λ x. refl;
    others = λ x f. refl;
    places = refl;
  }

  pub sets_last : (previous : ℕ) → SetsPrevious none previous links ends links (record ends { last = previous })
  unfolding next_in previous_in
  sets_last previous = record {
    onward = λ x. refl;
    backward = λ x. ⊎_elim (λ t. rw t refl) (λ f. rw f refl) (cases_Bool (eqb x none));
    others = λ x f. refl;
    places = refl;
  }

  module _ (place : ℕ) (link : Link) (low : place < length links) where
    link_there : link_at (set links place link) place ≡ link
    link_there = get_or-set_same links place link unlinked low

    link_elsewhere : (x : ℕ) → eqb x place ≡ false → link_at (set links place link) x ≡ link_at links x
    link_elsewhere x f =
        get_or-set_other links place x link unlinked (λ e. both_ways _ f (eq-eqb x place e))

    module _ (some : eqb place none ≡ false) where
      next_there : next_in (set links place link) ends place ≡ link.next
      next_there = next_in-place (set links place link) ends place some ∙ ap (λ l. l.next) link_there

      previous_there : previous_in (set links place link) ends place ≡ link.previous
      previous_there = previous_in-place (set links place link) ends place some ∙ ap (λ l. l.previous) link_there

      next_now : (x : ℕ) → next_in (set links place link) ends x ≡ cond (eqb x place) link.next (next_in links ends x)
      next_now x = ⊎_elim
          (λ t. ap (next_in (set links place link) ends) (eqb-true x place t) ∙ next_there ∙ sym (cond-true _ _ _ t))
          (λ f. next_in-same links (set links place link) ends x (λ g. link_elsewhere x f) ∙ sym (cond-false _ _ _ f))
          (cases_Bool (eqb x place))

      previous_now : (x : ℕ)
          → previous_in (set links place link) ends x ≡ cond (eqb x place) link.previous (previous_in links ends x)
      previous_now x = ⊎_elim
          (λ t. ap (previous_in (set links place link) ends) (eqb-true x place t) ∙ previous_there
          ∙ sym (cond-true _ _ _ t))
          (λ f. previous_in-same links (set links place link) ends x (λ g. link_elsewhere x f)
          ∙ sym (cond-false _ _ _ f))
          (cases_Bool (eqb x place))

      pub sets_next : link.previous ≡ (link_at links place).previous
          → SetsNext place link.next links ends (set links place link) ends
      sets_next same = record {
        onward = next_now;
        backward = λ x. ⊎_elim
            (λ t. ap (previous_in (set links place link) ends) (eqb-true x place t) ∙ previous_there ∙ same
            ∙ sym (previous_in-place links ends place some) ∙ ap (previous_in links ends) (sym (eqb-true x place t)))
            (λ f. previous_in-same links (set links place link) ends x (λ g. link_elsewhere x f))
            (cases_Bool (eqb x place));
        others = link_elsewhere;
        places = length-set links place link;
      }

      pub sets_previous : link.next ≡ (link_at links place).next
          → SetsPrevious place link.previous links ends (set links place link) ends
      sets_previous same = record {
        onward = λ x. ⊎_elim
            (λ t. ap (next_in (set links place link) ends) (eqb-true x place t) ∙ next_there ∙ same
            ∙ sym (next_in-place links ends place some) ∙ ap (next_in links ends) (sym (eqb-true x place t)))
            (λ f. next_in-same links (set links place link) ends x (λ g. link_elsewhere x f))
            (cases_Bool (eqb x place));
        backward = previous_now;
        others = link_elsewhere;
        places = length-set links place link;
      }

-- ---- the places of a list

pub walked : (links : List Link) (most at : ℕ) (places : List ℕ) → Leads links at places → length places ≤ most
    → places_from links most at ≡ places
walked links zero at [] leads few = refl
walked links zero at (p ∷ places) leads few = absurd (omega arith)
walked links (suc most) at [] leads few = rw leads refl
walked links (suc most) at (p ∷ places) leads few =
    let some : eqb at none ≡ false = ne_eqb at none (omega (arith, leads.0, leads.1)) in
    let rest : length places ≤ most = omega arith in
    let same : at ≡ p = leads.0 in
    rw some (rw same (ap (λ more. p ∷ more) (walked links most (link_at links p).next places leads.3 rest)))

-- the places from one on are led over, where they are no more than are asked for
pub led_length : (links : List Link) (most at : ℕ) → length (places_from links most at) ≤ most
led_length links zero at = omega arith
led_length links (suc most) at = ⊎_elim
    (λ t. rw t (omega arith))
    (λ f. let rest = led_length links most (link_at links at).next in rw f (omega arith))
    (cases_Bool (eqb at none))

module _ (links : List Link) (ends : Ends) (few : length links ≤ none) where
  led : (from : ℕ) (places : List ℕ) → Path (next_in links ends) (previous_in links ends) from places none
      → ((place : ℕ) → has place places ≡ true → place < length links)
      → Leads links (next_in links ends from) places
  led from [] path within = path.0
  led from (p ∷ places) path within =
      let low : p < length links = within p (has-self p places) in
      let some : eqb p none ≡ false = ne_eqb p none (omega arith) in
      let P : ℕ → Type 0 = λ at. Leads links at places in (
        path.0,
        omega arith,
        low,
        subst P (next_in-place links ends p some) (led p places path.2 (λ x h. within x (has-later x p places h))),
      )

  module _ (places : List ℕ) (chain : IsChain links ends places) where
    pub chain_apart : AreApart places
    unfolding AreApart
    chain_apart = chain.distinct.1

    pub none_outside : has none places ≡ false
    unfolding AreApart
    none_outside = chain.distinct.0

    pub leads_first : Leads links ends.first places
    unfolding next_in
    leads_first = led none places chain.ring chain.within

    pub listed : places_from links (length links) ends.first ≡ places
    listed = walked links (length links) ends.first places leads_first (length-below places
        (length links) chain_apart chain.within)

-- a list whose places keep their links stays linked
pub chain_kept : (links now : List Link) (ends : Ends) (places : List ℕ) → length links ≤ length now
    → ((x : ℕ) → has x places ≡ true → link_at now x ≡ link_at links x)
    → IsChain links ends places → IsChain now ends places
chain_kept links now ends places long same chain =
    let inside : (x : ℕ) → has x (none ∷ places) ≡ true → eqb x none ≡ false → link_at now x ≡ link_at links x =
    λ x h f. same x (⊎_elim
    (λ e. absurd (both_ways _ f (eq-eqb x none (sym e))))
    (λ more. more)
    (has-cases x none places h)) in
    record {
      ring = same_ring (next_in links ends) (previous_in links ends) (next_in now ends)
          (previous_in now ends) none places none
          (λ x h. next_in-same links now ends x (inside x h))
          (λ x h. previous_in-same links now ends x (inside x (has-later x none places h)))
          (previous_in-none now ends ∙ sym (previous_in-none links ends))
          chain.ring;
      distinct = chain.distinct;
      within = λ x h. let low : x < length links = chain.within x h in omega arith;
    }

-- ---- a change to one list

-- one list has these places now, none of which is in another, and the others keep their ends and links
pub record Changes (before now : Chained) (list : ℕ) (places : List ℕ) : Type 0 where
  pub chain : IsChain now.links (ends_at now.ends list) places
  pub ends : (number : ℕ) → eqb number list ≡ false → ends_at now.ends number ≡ ends_at before.ends number
  pub kept : (number : ℕ) → eqb number list ≡ false → (x : ℕ) → has x (list_of before number) ≡ true
      → link_at now.links x ≡ link_at before.links x
  pub alone : (number : ℕ) → eqb number list ≡ false → (x : ℕ) → has x places ≡ true
      → has x (list_of before number) ≡ false
  pub long : length now.links ≡ length before.links

-- the places that a list's links hold together are those of the list
pub list_is : (chains : Chained) (number : ℕ) (places : List ℕ) → length chains.links ≤ none
    → IsChain chains.links (ends_at chains.ends number) places → list_of chains number ≡ places
unfolding list_of
list_is chains number places few chain = listed chains.links (ends_at chains.ends number) few places chain

module _ (before now : Chained) (list : ℕ) (places : List ℕ) (chains : AreChains before)
    (changes : Changes before now list places) where
  few_now : length now.links ≤ none
  few_now = omega (arith, chains.few, changes.long)

  pub changed_list : list_of now list ≡ places
  changed_list = list_is now list places few_now changes.chain

  other_chain : (number : ℕ) → eqb number list ≡ false
      → IsChain now.links (ends_at now.ends number) (list_of before number)
  other_chain number f =
      let P : Ends → Type 0 = λ ends. IsChain now.links ends (list_of before number) in
      subst P (sym (changes.ends number f))
      (chain_kept before.links now.links (ends_at before.ends number) (list_of before number)
      (omega (arith, changes.long)) (changes.kept number f) (chains.each number))

  pub changed_other : (number : ℕ) → eqb number list ≡ false → list_of now number ≡ list_of before number
  changed_other number f = list_is now number (list_of before number) few_now (other_chain number f)

  changed_each : (number : ℕ) → IsChain now.links (ends_at now.ends number) (list_of now number)
  changed_each number =
      let P : List ℕ → Type 0 = λ these. IsChain now.links (ends_at now.ends number) these in
      ⊎_elim
      (λ t. let same : number ≡ list = eqb-true number list t in
      let Q : ℕ → Type 0 = λ n. IsChain now.links (ends_at now.ends n) (list_of now n) in
      let R : List ℕ → Type 0 = λ these. IsChain now.links (ends_at now.ends list) these in
      subst Q (sym same) (subst R (sym changed_list) changes.chain))
      (λ f. subst P (sym (changed_other number f)) (other_chain number f))
      (cases_Bool (eqb number list))

  clash : (one two x : ℕ) → one ≡ list → eqb two list ≡ false → has x (list_of now one) ≡ true
      → has x (list_of now two) ≡ true → ⊥
  clash one two x same f a b =
      both_ways _ (changes.alone two f x (ap (has x) (sym changed_list)
      ∙ rw same at a)) (sym (ap (has x) (changed_other two f)) ∙ b)

  changed_apart : (number other x : ℕ) → has x (list_of now number) ≡ true → has x (list_of now other) ≡ true
      → number ≡ other
  changed_apart number other x a b = ⊎_elim
      (λ t. ⊎_elim
      (λ u. eqb-true number list t ∙ sym (eqb-true other list u))
      (λ g. absurd (clash number other x (eqb-true number list t) g a b))
      (cases_Bool (eqb other list)))
      (λ f. ⊎_elim
      (λ u. absurd (clash other number x (eqb-true other list u) f b a))
      (λ g. chains.apart number other x (sym (ap (has x) (changed_other number f))
      ∙ a) (sym (ap (has x) (changed_other other g)) ∙ b))
      (cases_Bool (eqb other list)))
      (cases_Bool (eqb number list))

  pub changed_chains : AreChains now
  changed_chains = record { each = changed_each; apart = changed_apart; few = few_now }

-- ---- lists without places, and more room

pub from_none : (links : List Link) (most : ℕ) → places_from links most none ≡ []
from_none links zero = refl
from_none links (suc most) = refl

empty_chain : (links : List Link) → IsChain links empty []
unfolding next_in previous_in AreApart
empty_chain links = record {
  ring = (refl, refl);
  distinct = (has-none none, tt);
  within = λ x h. absurd (both_ways _ (has-none x) h);
}

pub list_without : (chains : Chained) (number : ℕ) → ends_at chains.ends number ≡ empty → list_of chains number ≡ []
unfolding list_of
list_without chains number e = rw e (from_none chains.links (length chains.links))

pub lists_without : (chains : Chained) → length chains.links ≤ none
    → ((number : ℕ) → ends_at chains.ends number ≡ empty) → AreChains chains
lists_without chains few ends = record {
  each = λ number.
      let P : Ends → Type 0 = λ e. IsChain chains.links e (list_of chains number) in
      let Q : List ℕ → Type 0 = λ these. IsChain chains.links empty these in
      subst P (sym (ends number)) (subst Q (sym (list_without chains number (ends number))) (empty_chain chains.links));
  apart = λ number other x a b.
      absurd (both_ways _ (ap (has x) (list_without chains number (ends number)) ∙ has-none x) a);
  few = few;
}

-- a list of which a place is known has ends
pub listed_below : (chains : Chained) (number place room : ℕ) → has place (list_of chains number) ≡ true
    → (room ≤ number → ends_at chains.ends number ≡ empty) → number < room
listed_below chains number place room h past = ⊎_elim
    (λ low. low)
    (λ high. absurd (both_ways _ (ap (has place) (list_without chains number (past high)) ∙ has-none place) h))
    (cases_lt number room)

module _ (before now : Chained) (chains : AreChains before) (few : length now.links ≤ none)
    (links : (place : ℕ) → link_at now.links place ≡ link_at before.links place)
    (ends : (number : ℕ) → ends_at now.ends number ≡ ends_at before.ends number)
    (longer : length before.links ≤ length now.links) where
  grown_chain : (number : ℕ) → IsChain now.links (ends_at now.ends number) (list_of before number)
  grown_chain number =
      let P : Ends → Type 0 = λ e. IsChain now.links e (list_of before number) in
      subst P (sym (ends number))
      (chain_kept before.links now.links (ends_at before.ends number) (list_of before number) longer
      (λ x h. links x) (chains.each number))

  pub grown_list : (number : ℕ) → list_of now number ≡ list_of before number
  grown_list number = list_is now number (list_of before number) few (grown_chain number)

  pub grown_chains : AreChains now
  grown_chains = record {
    each = λ number.
        let P : List ℕ → Type 0 = λ these. IsChain now.links (ends_at now.ends number) these in
        subst P (sym (grown_list number)) (grown_chain number);
    apart = λ number other x a b. chains.apart number other x
        (sym (ap (has x) (grown_list number)) ∙ a) (sym (ap (has x) (grown_list other)) ∙ b);
    few = few;
  }

-- the links lead over each list
pub list_leads : (chains : Chained) → AreChains chains → (number : ℕ)
    → Leads chains.links (ends_at chains.ends number).first (list_of chains number)
list_leads chains all number =
    leads_first chains.links (ends_at chains.ends number) all.few (list_of chains number) (all.each number)

-- what a change to one list leaves of all
pub record Kept (value now : Chained) (list : ℕ) (places : List ℕ) : Type 0 where
  pub chains : AreChains now
  pub listed : list_of now list ≡ places
  pub others : (number : ℕ) → eqb number list ≡ false → list_of now number ≡ list_of value number

pub kept : (value before now : Chained) (list : ℕ) (places : List ℕ) → before ≡ value → AreChains before
    → Changes before now list places → Kept value now list places
kept value before now list places same chains changes = record {
  chains = changed_chains before now list places chains changes;
  listed = changed_list before now list places chains changes;
  others = λ number f.
      changed_other before now list places chains changes number f ∙ ap (λ c. list_of c number) same;
}

-- a list has fewer places than there are links
pub list_few : (chains : Chained) → AreChains chains → (number : ℕ)
    → length (list_of chains number) ≤ length chains.links
list_few chains all number =
    let chain = all.each number in
    length-below (list_of chains number) (length chains.links)
    (chain_apart chains.links (ends_at chains.ends number) all.few (list_of chains number) chain) chain.within

-- ---- a step of a walk over a list

-- the place is the first of those from it on, and the links lead over the rest
pub record Stepped (links : List Link) (most at : ℕ) : Type 0 where
  pub low : at < length links
  pub first : places_from links most at ≡ at ∷ places_from links most (link_at links at).next
  pub leads : Leads links (link_at links at).next (places_from links most (link_at links at).next)

pub stepped : (links : List Link) (most at : ℕ) → Leads links at (places_from links most at) → eqb at none ≡ false
    → Stepped links most at
stepped links zero at leads f = absurd (both_ways _ f (eq-eqb at none leads))
stepped links (suc most) at leads f =
    let next : ℕ = (link_at links at).next in
    let rest : List ℕ = places_from links most next in
    let P : List ℕ → Type 0 = λ these. Leads links at these in
    let begins : places_from links (suc most) at ≡ at ∷ rest = rw f refl in
    let led = subst P begins leads in
    let few = led_length links most next in
    let same : places_from links (suc most) next ≡ rest = walked links (suc most) next rest led.3 (omega arith) in
    let Q : List ℕ → Type 0 = λ these. Leads links next these in
    record { low = led.2; first = begins ∙ ap (λ more. at ∷ more) (sym same); leads = subst Q (sym same) led.3 }

-- the links lead into a list that has places
pub leads_into : (links : List Link) (at : ℕ) (places : List ℕ) → Leads links at places → 0 < length places
    → has at places ≡ true
leads_into links at [] leads some = absurd (omega arith)
leads_into links at (p ∷ places) leads some = rw leads.0 (has-self p places)
