-- Edges that are joined.
use Rattle.std.proofs.Common.{◌≡◌, inl, inr, ℕ, zero, suc, ◌+◌, ◌<◌, ◌≤◌, ◌++◌, true, false, nat_eq, List, []}
use Rattle.std.proofs.Common.{◌∷◌, map, length, get_or, take, drop, Some, slice_get, Contains, refl, sym, ap, subst, ◌∙◌, arith}
use Rattle.std.specs.List.{AllByRecursion, IsDistinct}
use Rattle.std.proofs.lemmas.Bool.{eq-eqb, ne_eqb}
use Rattle.std.proofs.lemmas.List.{map-append, take_all, take_more}
use Rattle.std.proofs.lemmas.List.Sums.{sum_by_more, sum_by-drop_more}
use Rattle.std.proofs.lemmas.Option.{slice_get-get_or}
use Rattle.scr_funds.proofs.Members.{IsMember, IsMember-from_Contains, Contains-from_IsMember, IsMember-left, IsMember-mapped, IsMember-right, at_member, each-from_members, each_push}
use Rattle.scr_links.specs.Edges.{Edge, Linked}
use Rattle.scr_reachability.specs.declared.ranks.Due.{Due}
use Rattle.scr_reachability.specs.LinkedDues.{AreRelinked, numbers_of, sources_count}
use Rattle.scr_reachability.specs.Linked.{edges_to, sources_in}
use Rattle.scr_reachability.specs.Relinking.{AreJoined, AreLinkable, AreUnlinked, IsJoined, IsWithin}
use Rattle.scr_reachability.proofs.Placed.{get-member}

abbrev number_of : Due → ℕ
number_of due = due.number

-- ---- one due more

due-next : (dues : List Due) (k : ℕ) (due : Due) → k < length dues → due ≡ get_or dues k due
    → take (k + 1) dues ≡ take k dues ++ due ∷ []
due-next dues k due inside is = take_more dues k due inside ∙ ap (λ d. take k dues ++ d ∷ []) (sym is)

pub numbers-more : (dues : List Due) (k : ℕ) (due : Due) → k < length dues → due ≡ get_or dues k due
    → numbers_of (take (k + 1) dues) ≡ numbers_of (take k dues) ++ due.number ∷ []
numbers-more dues k due inside is = ap numbers_of (due-next dues k due inside is) ∙ map-append number_of (take k dues) (due ∷ [])

-- no due before this one has its number
not-before : (dues : List Due) → IsDistinct nat_eq (numbers_of dues) → (k : ℕ) (due : Due)
    → slice_get dues k ≡ Some due → IsMember due.number (numbers_of (take k dues)) → ⊥
unfolding IsDistinct
not-before [] once zero due is h = h
not-before [] once (suc k) due is h = h
not-before (d ∷ dues) once zero due is h = h
not-before (d ∷ dues) once (suc k) due is (inl same) =
    let apart : nat_eq d.number due.number ≡ false =
    at_member (λ y. nat_eq d.number y ≡ false) (numbers_of dues) due.number once.0
    (IsMember-mapped number_of dues due (get-member dues k due is)) in
    let clash : true ≡ false = sym (eq-eqb d.number due.number (sym same)) ∙ apart in absurd (cc)
not-before (d ∷ dues) once (suc k) due is (inr h) = not-before dues once.1 k due is h

-- those before this place are linked, and there is room for the rest
pub record AreLinkedUpTo (dues : List Due) (k : ℕ) (before now : Linked) : Type 0 where
  pub joined : AreJoined (take k dues) before now
  pub room : sources_count (drop k dues) ≤ now.spare

pub linked-none : (dues : List Due) (links : Linked) → AreLinkable links dues → AreLinkedUpTo dues 0 links links
linked-none dues links are = record {
  joined = record { made = tt; kept = λ number none. refl; spare = omega arith; size = refl };
  room = are.spare;
}

pub joined-all : (dues : List Due) (k : ℕ) (before now : Linked) → length dues ≤ k → AreLinkedUpTo dues k before now
    → AreJoined dues before now
joined-all dues k before now end so = subst (λ list. AreJoined list before now) (take_all k dues end) so.joined

module _ (dues : List Due) (k : ℕ) (due : Due) (before mid : Linked) (inside : k < length dues)
    (is : due ≡ get_or dues k due) (so : AreLinkedUpTo dues k before mid) where
  stands : slice_get dues k ≡ Some due
  stands = slice_get-get_or dues k due inside ∙ ap Some (sym is)

  room-more : sources_count (drop k dues) ≡ length due.sources.items + sources_count (drop (k + 1) dues)
  room-more =
      sum_by-drop_more (λ (d : Due). length d.sources.items) dues k due inside
      ∙ ap (λ (d : Due). length d.sources.items + sources_count (drop (k + 1) dues)) (sym is)

  count-more : sources_count (take (k + 1) dues) ≡ sources_count (take k dues) + length due.sources.items
  count-more =
      sum_by_more (λ (d : Due). length d.sources.items) dues k due inside
      ∙ ap (λ (d : Due). sources_count (take k dues) + length d.sources.items) (sym is)

  pub due-room : length due.sources.items ≤ mid.spare
  due-room = let all = so.room in omega (arith, all, room-more)

  pub due-within : AreLinkable before dues → IsWithin mid.size due
  due-within are =
      subst (λ size. IsWithin size due) (sym so.joined.size)
      (at_member (IsWithin before.size) dues due are.within (get-member dues k due stands))

  -- nothing is linked to the due so far
  free-yet : AreLinkable before dues → AllByRecursion (λ (due : Due). edges_to before.edges due.number ≡ []) dues
      → edges_to mid.edges due.number ≡ []
  free-yet are free =
      so.joined.kept due.number
      (λ h. not-before dues are.once k due stands (IsMember-from_Contains (numbers_of (take k dues)) due.number h))
      ∙ at_member (λ (d : Due). edges_to before.edges d.number ≡ []) dues due free (get-member dues k due stands)

  pub linked-next : (now : Linked) → AreLinkable before dues
      → AllByRecursion (λ (due : Due). edges_to before.edges due.number ≡ []) dues
      → IsJoined due.number due.sources.items mid now → AreLinkedUpTo dues (k + 1) before now
  linked-next now are free join = record {
    joined = subst (λ list. AreJoined list before now) (sym (due-next dues k due inside is)) (record {
      made = each_push (λ (d : Due). sources_in now.edges d.number ≡ d.sources.items) (take k dues) due
          (each-from_members (λ (d : Due). sources_in now.edges d.number ≡ d.sources.items) (take k dues) earlier)
          (join.made ∙ ap (λ es. map (λ (e : Edge). e.source) es ++ due.sources.items) (free-yet are free));
      kept = λ number none. join.others number (ne_eqb due.number number (λ same. none (last number same)))
          ∙ so.joined.kept number (λ h. none (front number h));
      spare =
          let used = join.spare in
          let all = so.joined.spare in
          let more : sources_count (take k dues ++ due ∷ []) ≡ sources_count (take k dues) + length due.sources.items =
          ap sources_count (sym (due-next dues k due inside is)) ∙ count-more in
          omega (arith, used, all, more);
      size = join.size ∙ so.joined.size;
    });
    room = let all = so.room in let used = join.spare in omega (arith, all, used, room-more);
  }
    where
      earlier : (d : Due) → IsMember d (take k dues) → sources_in now.edges d.number ≡ d.sources.items
      earlier d h =
          ap (map (λ (e : Edge). e.source)) (join.others d.number (ne_eqb due.number d.number
          (λ same. not-before dues are.once k due stands
          (subst (λ n. IsMember n (numbers_of (take k dues))) (sym same) (IsMember-mapped number_of (take k dues) d h)))))
          ∙ at_member (λ (d : Due). sources_in mid.edges d.number ≡ d.sources.items) (take k dues) d so.joined.made h

      numbers-next : numbers_of (take k dues ++ due ∷ []) ≡ numbers_of (take k dues) ++ due.number ∷ []
      numbers-next = map-append number_of (take k dues) (due ∷ [])

      last : (number : ℕ) → due.number ≡ number → Contains (numbers_of (take k dues ++ due ∷ [])) number
      last number same =
          subst (Contains (numbers_of (take k dues ++ due ∷ []))) same
          (Contains-from_IsMember (numbers_of (take k dues ++ due ∷ [])) due.number
          (subst (IsMember due.number) (sym numbers-next)
          (IsMember-right (numbers_of (take k dues)) (due.number ∷ []) due.number (inl refl))))

      front : (number : ℕ) → Contains (numbers_of (take k dues)) number
          → Contains (numbers_of (take k dues ++ due ∷ [])) number
      front number h =
          Contains-from_IsMember (numbers_of (take k dues ++ due ∷ [])) number
          (subst (IsMember number) (sym numbers-next)
          (IsMember-left (numbers_of (take k dues)) (due.number ∷ []) number
          (IsMember-from_Contains (numbers_of (take k dues)) number h)))

-- ---- cut and then joined

pub linkable-cut : (dues : List Due) (before mid : Linked) → AreUnlinked (numbers_of dues) before mid
    → AreLinkable before dues → AreLinkable mid dues
linkable-cut dues before mid cut are = record {
  once = are.once;
  within = subst (λ size. AllByRecursion (IsWithin size) dues) (sym cut.size) are.within;
  spare = let less = cut.spare in let room = are.spare in omega (arith, less, room);
}

pub free-cut : (dues : List Due) (before mid : Linked) → AreUnlinked (numbers_of dues) before mid
    → AllByRecursion (λ (due : Due). edges_to mid.edges due.number ≡ []) dues
free-cut dues before mid cut =
    each-from_members (λ (due : Due). edges_to mid.edges due.number ≡ []) dues
    (λ due h. cut.gone due.number (Contains-from_IsMember (numbers_of dues) due.number (IsMember-mapped number_of dues due h)))

module _ (dues : List Due) (before mid now : Linked) (cut : AreUnlinked (numbers_of dues) before mid)
    (join : AreJoined dues mid now) where
  pub relinked : AreRelinked dues before.edges now.edges
  relinked = record {
    made = join.made;
    kept = λ number free. join.kept number free ∙ cut.kept number free;
  }

  pub relinked-spare : before.spare ≤ now.spare + sources_count dues
  relinked-spare = let less = cut.spare in let used = join.spare in omega (arith, less, used)
