-- Edges that are cut.
use Rattle.std.proofs.Common.{◌≡◌, ◌⊎◌, inl, inr, ℕ, ◌+◌, ◌<◌, ◌≤◌, ◌++◌, true, false, not, cond, eqb, nat_eq}
use Rattle.std.proofs.Common.{List, [], ◌∷◌, map, filter, length, Option, Some, None, slice_get, Contains, refl, sym, ap, subst, ◌∙◌, arith}
use Rattle.std.specs.List.{IsDistinct, list_any}
use Rattle.std.specs.Option.{option_map}
use Rattle.std.proofs.lemmas.Bool.{eq-eqb, eqb-true, ne_eqb}
use Rattle.scr_funds.proofs.Members.{IsMember, IsMember-from_Contains, Contains-from_IsMember, IsMember-left}
use Rattle.scr_funds.proofs.Members.{IsMember-right, IsMember-cases, IsMember-mapped, at_member}
use Rattle.scr_links.specs.Edges.{Edge, Linked, edges_without, ids_of, is_edge, linked, sources_of}
use Rattle.scr_tables.proofs.TableRows.{passes_or_fails}
use Rattle.scr_reachability.specs.Linked.{edges_to}
use Rattle.scr_reachability.specs.Relinking.{AreUnlinked, IsUnlinked}
use Rattle.scr_reachability.proofs.Placed.{member-filtered}

-- ---- the edges but for that of a name

abbrev without : ℕ → List Edge → List Edge
without id edges = filter (λ (e : Edge). not (eqb e.id id)) edges

-- edges of one name are one
one-edge : (edges : List Edge) → IsDistinct eqb (map (λ (e : Edge). e.id) edges) → (e d : Edge) → IsMember e edges
    → IsMember d edges → e.id ≡ d.id → e ≡ d
unfolding IsDistinct
one-edge [] once e d h i same = absurd h
one-edge (x ∷ edges) once e d (inl a) (inl b) same = a ∙ sym b
one-edge (x ∷ edges) once e d (inl a) (inr b) same =
    let apart : eqb x.id d.id ≡ false = at_member (λ y. eqb x.id y ≡ false) (map (λ (e : Edge). e.id) edges) d.id once.0
    (IsMember-mapped (λ (e : Edge). e.id) edges d b) in
    let clash : true ≡ false = sym (eq-eqb x.id d.id (ap (λ (e : Edge). e.id) (sym a) ∙ same)) ∙ apart in absurd (cc)
one-edge (x ∷ edges) once e d (inr a) (inl b) same =
    let apart : eqb x.id e.id ≡ false = at_member (λ y. eqb x.id y ≡ false) (map (λ (e : Edge). e.id) edges) e.id once.0
    (IsMember-mapped (λ (e : Edge). e.id) edges e a) in
    let is : eqb x.id e.id ≡ true = eq-eqb x.id e.id (ap (λ (e : Edge). e.id) (sym b) ∙ sym same) in
    let clash : true ≡ false = sym is ∙ apart in absurd (cc)
one-edge (x ∷ edges) once e d (inr a) (inr b) same = one-edge edges once.1 e d a b same

-- to a number to which no edge of this name leads the edges stay
others-stay : (edges : List Edge) (id other : ℕ)
    → ((e : Edge) → IsMember e edges → eqb e.id id ≡ true → nat_eq e.dependant other ≡ false)
    → edges_to (without id edges) other ≡ edges_to edges other
others-stay [] id other apart = refl
others-stay (x ∷ edges) id other apart =
    let rest = others-stay edges id other (λ e h. apart e (inr h)) in
    passes_or_fails (eqb x.id id)
    (λ e. ap (λ b. edges_to (cond (not b) (x ∷ without id edges) (without id edges)) other) e ∙ rest
    ∙ sym (ap (λ b. cond b (x ∷ edges_to edges other) (edges_to edges other)) (apart x (inl refl) e)))
    (λ e. ap (λ b. edges_to (cond (not b) (x ∷ without id edges) (without id edges)) other) e
    ∙ ap (λ (es : List Edge). cond (nat_eq x.dependant other) (x ∷ es) es) rest)

no-more : (edges : List Edge) (id : ℕ) → length (without id edges) ≤ length edges
no-more [] id = omega arith
no-more (x ∷ edges) id =
    let rest = no-more edges id in
    passes_or_fails (eqb x.id id)
    (λ e. rw e (omega (arith, rest)))
    (λ e. rw e (omega (arith, rest)))

-- where an edge has the name there are fewer
fewer : (edges : List Edge) (id : ℕ) (e : Edge) → IsMember e edges → e.id ≡ id
    → length (without id edges) < length edges
fewer [] id e h same = absurd h
fewer (x ∷ edges) id e (inl is) same =
    let here : eqb x.id id ≡ true = eq-eqb x.id id (ap (λ (e : Edge). e.id) (sym is) ∙ same) in
    let rest = no-more edges id in
    rw here (omega (arith, rest))
fewer (x ∷ edges) id e (inr h) same =
    let rest = fewer edges id e h same in
    passes_or_fails (eqb x.id id)
    (λ b. rw b (omega (arith, rest)))
    (λ b. rw b (omega (arith, rest)))

named : (edges : List Edge) (id : ℕ) (e : Edge) → IsMember e edges → e.id ≡ id
    → list_any (λ (e : Edge). eqb e.id id) edges ≡ true
named [] id e h same = absurd h
named (x ∷ edges) id e (inl is) same = rw (eq-eqb x.id id (ap (λ (e : Edge). e.id) (sym is) ∙ same)) refl
named (x ∷ edges) id e (inr h) same =
    passes_or_fails (eqb x.id id) (λ b. rw b refl) (λ b. rw b (named edges id e h same))

-- ---- the first edge to a number

-- an edge to the number has the name
abbrev pub IsLinkTo : Linked → ℕ → ℕ → Type 0
IsLinkTo links number id = (e : Edge) × IsMember e links.edges × (e.dependant ≡ number) × (e.id ≡ id)

abbrev first_name : List Edge → Option ℕ
first_name to = option_map (λ (source : ℕ × ℕ). source.1) (slice_get (map (λ (e : Edge). (e.source, e.id)) to) 0)

first-one : (to : List Edge) (id : ℕ) → Some id ≡ first_name to → (e : Edge) × IsMember e to × (e.id ≡ id)
first-one [] id is = let clash : Some id ≡ None = is in absurd (cc)
first-one (e ∷ to) id is = let both : Some id ≡ Some e.id = is in (e, inl refl, cc)

first-none : (to : List Edge) → None ≡ first_name to → to ≡ []
first-none [] is = refl
first-none (e ∷ to) is = let clash : None ≡ Some e.id = is in absurd (cc)

module _ (links : Linked) (number : ℕ) where
  pub first-link : (id : ℕ) → Some id ≡ option_map (λ (source : ℕ × ℕ). source.1) (slice_get (sources_of links number) 0)
      → IsLinkTo links number id
  first-link id is =
      let e = first-one (edges_to links.edges number) id is in
      let from = member-filtered (λ (e : Edge). nat_eq e.dependant number) links.edges e.0 e.1 in
      (e.0, from.0, eqb-true (e.0).dependant number from.1, e.2)

  pub no-link : None ≡ option_map (λ (source : ℕ × ℕ). source.1) (slice_get (sources_of links number) 0)
      → edges_to links.edges number ≡ []
  no-link is = first-none (edges_to links.edges number) is

  module _ (id : ℕ) (link : IsLinkTo links number id) where
    pub link-named : is_edge links id ≡ true
    link-named = named links.edges id link.0 link.1 link.3

    pub link-fewer : length (edges_without links id) < length links.edges
    link-fewer = fewer links.edges id link.0 link.1 link.3

    pub link-others : IsDistinct eqb (ids_of links) → (other : ℕ) → nat_eq number other ≡ false
        → edges_to (edges_without links id) other ≡ edges_to links.edges other
    link-others once other apart =
        others-stay links.edges id other
        (λ e h same. let one = one-edge links.edges once e link.0 h link.1 (eqb-true e.id id same ∙ sym link.3) in
        ap (λ p. nat_eq p other) (ap (λ (e : Edge). e.dependant) one ∙ link.2) ∙ apart)

-- ---- one number more to which nothing is linked

pub unlinked-more : (list : List ℕ) (number : ℕ) (before mid now : Linked) → AreUnlinked list before mid
    → IsUnlinked number mid now → AreUnlinked (list ++ number ∷ []) before now
unlinked-more list number before mid now so cut = record {
  gone = λ p h. passes_or_fails (nat_eq number p)
      (λ e. subst (λ q. edges_to now.edges q ≡ []) (eqb-true number p e) cut.gone)
      (λ e. cut.others p e
      ∙ so.gone p (Contains-from_IsMember list p
      (by p e (IsMember-cases list (number ∷ []) p (IsMember-from_Contains (list ++ number ∷ []) p h)))));
  kept = λ p none.
      let last : IsMember number (list ++ number ∷ []) = IsMember-right list (number ∷ []) number (inl refl) in
      let out : (q : ℕ) → IsMember q (list ++ number ∷ []) → q ≡ p → ⊥ =
      (λ q m same. none (subst (Contains (list ++ number ∷ [])) same (Contains-from_IsMember (list ++ number ∷ []) q m))) in
      cut.others p (ne_eqb number p (out number last))
      ∙ so.kept p (λ h. out p (IsMember-left list (number ∷ []) p (IsMember-from_Contains list p h)) refl);
  spare = let a = so.spare in let b = cut.spare in omega (arith, a, b);
  size = cut.size ∙ so.size;
}
  where
    by : (p : ℕ) → nat_eq number p ≡ false → IsMember p list ⊎ IsMember p (number ∷ []) → IsMember p list
    by p e (inl h) = h
    by p e (inr (inl same)) = let clash : true ≡ false = sym (eq-eqb number p (sym same)) ∙ e in absurd (cc)
    by p e (inr (inr h)) = absurd h

-- ---- one edge less to a number

pub record IsCutting (number : ℕ) (before now : Linked) : Type 0 where
  pub others : (other : ℕ) → nat_eq number other ≡ false → edges_to now.edges other ≡ edges_to before.edges other
  pub spare : before.spare ≤ now.spare
  pub size : now.size ≡ before.size

pub cutting-more : (number id : ℕ) (before mid now : Linked) → IsCutting number before mid → IsLinkTo mid number id
    → IsDistinct eqb (ids_of mid) → now ≡ linked (edges_without mid id) (mid.spare + 1) mid.size
    → IsCutting number before now
cutting-more number id before mid now so link once is = subst (IsCutting number before) (sym is) (record {
  others = λ other apart. link-others mid number id link once other apart ∙ so.others other apart;
  spare = let a = so.spare in omega (arith, a);
  size = so.size;
})

pub cutting-fewer : (number id : ℕ) (mid now : Linked) → IsLinkTo mid number id
    → now ≡ linked (edges_without mid id) (mid.spare + 1) mid.size → length now.edges < length mid.edges
cutting-fewer number id mid now link is =
    subst (λ (l : Linked). length l.edges < length mid.edges) (sym is) (link-fewer mid number id link)

pub cutting-done : (number : ℕ) (before now : Linked) → IsCutting number before now
    → None ≡ option_map (λ (source : ℕ × ℕ). source.1) (slice_get (sources_of now number) 0)
    → IsUnlinked number before now
cutting-done number before now so none = record {
  gone = no-link now number none;
  others = so.others;
  spare = so.spare;
  size = so.size;
}
