-- What is linked to a number is marked, one after another.
use Rattle.std.proofs.Common.{◌≡◌, ◌⊎◌, inl, inr, ℕ, ◌<◌, Bool, true, false, cond, nat_eq, Contains, List, [], ◌∷◌, Some, filter, map, slice_get, refl, sym, ap, subst, ◌∙◌}
use Rattle.std.specs.Prelude.{◌==◌}
use Rattle.std.specs.List.{AllZip, IsDistinct}
use Rattle.std.proofs.lemmas.Bool.{eqb-true, eq-eqb}
use Rattle.scr_reachability.proofs.Members.{Contains-from_IsMember, IsMember, IsMember-from_Contains, IsMember-map}
use Rattle.scr_links.specs.Edges.{Edge, Linked, dependants_of}
use Rattle.scr_member_index.specs.declared.lists.Lists.{Lists}
use Rattle.scr_ids.specs.Ranges.{Numbered}
use Rattle.scr_book.specs.RolledSheets.{RolledSheet}
use Rattle.scr_reachability.specs.Linked.{edges_to, sources_in as linked_in}
use Rattle.scr_block_graph.specs.Books.{rolled_of}
use Rattle.scr_block_graph.specs.Graph.{sources_in}
use Rattle.scr_tree.specs.Marking.{AreMarkedMore, IsLinkedDependantAt}
use Rattle.scr_tree.specs.Points.{IsGraphOf, StandsIn}

-- the numbers of the first of each pair
abbrev firsts : List (ℕ × ℕ) → List ℕ
firsts pairs = map (λ (e : ℕ × ℕ). e.0) pairs

-- just those are marked that are linked, but for these that are left
pub record AreLinkedMarks (book : RolledSheet) (places : Numbered) (lists : Lists) (number : ℕ) (left : List (ℕ × ℕ)) (old new : List ℕ) : Type 0 where
  pub once : IsDistinct nat_eq old → IsDistinct nat_eq new
  pub kept : (place other : ℕ) → slice_get old place ≡ Some other → slice_get new place ≡ Some other
  pub still : (other : ℕ) → Contains old other → Contains new other
  pub each : (other : ℕ) → Contains new other → Contains old other ⊎ IsLinkedDependantAt book places lists number other
  pub all : (other : ℕ) → IsLinkedDependantAt book places lists number other → Contains new other ⊎ IsMember other (firsts left)
  pub to_come : (other : ℕ) → IsMember other (firsts left) → IsLinkedDependantAt book places lists number other

-- the edges that pass a test
kept-edge : (test : Edge → Bool) (edges : List Edge) (e : Edge) → IsMember e (filter test edges) → IsMember e edges × (test e ≡ true)
kept-edge test [] e h = absurd h
kept-edge test (x ∷ edges) e h = by (test x) refl h (kept-edge test edges e)
  where
    by : (t : Bool) → test x ≡ t → IsMember e (cond t (x ∷ filter test edges) (filter test edges)) → (IsMember e (filter test edges) → IsMember e edges × (test e ≡ true))
        → IsMember e (x ∷ edges) × (test e ≡ true)
    by true is (inl same) later = (inl same, ap test same ∙ is)
    by true is (inr m) later = let r = later m in (inr r.0, r.1)
    by false is m later = let r = later m in (inr r.0, r.1)

edge-kept : (test : Edge → Bool) (edges : List Edge) (e : Edge) → IsMember e edges → test e ≡ true → IsMember e (filter test edges)
edge-kept test [] e h is = absurd h
edge-kept test (x ∷ edges) e h is = by (test x) refl h (λ m. edge-kept test edges e m is)
  where
    by : (t : Bool) → test x ≡ t → IsMember e (x ∷ edges) → (IsMember e edges → IsMember e (filter test edges)) → IsMember e (cond t (x ∷ filter test edges) (filter test edges))
    by true pass (inl same) later = inl same
    by true pass (inr m) later = inr (later m)
    by false fail (inl same) later = absurd (let clash : true ≡ false = sym is ∙ (ap test same ∙ fail) in cc)
    by false fail (inr m) later = later m

member-mapped : {A B : Type 0} (f : A → B) (xs : List A) (x : A) → IsMember x xs → IsMember (f x) (map f xs)
member-mapped f [] x h = absurd h
member-mapped f (y ∷ ys) x (inl e) = inl (ap f e)
member-mapped f (y ∷ ys) x (inr h) = inr (member-mapped f ys x h)

-- zipped lists: what stands beside a member
beside : {A B : Type 0} (R : A → B → Type 0) (xs : List A) (ys : List B) → AllZip R xs ys → (x : A) → IsMember x xs → (y : B) × IsMember y ys × R x y
beside R [] ys zip x h = absurd h
beside R (a ∷ xs) [] zip x h = absurd zip
beside R (a ∷ xs) (b ∷ ys) zip x (inl e) = (b, inl refl, subst (λ z. R z b) (sym e) zip.0)
beside R (a ∷ xs) (b ∷ ys) zip x (inr h) = let r = beside R xs ys zip.1 x h in (r.0, inr r.1, r.2)

beside-back : {A B : Type 0} (R : A → B → Type 0) (xs : List A) (ys : List B) → AllZip R xs ys → (y : B) → IsMember y ys → (x : A) × IsMember x xs × R x y
beside-back R xs [] zip y h = absurd h
beside-back R [] (b ∷ ys) zip y h = absurd zip
beside-back R (a ∷ xs) (b ∷ ys) zip y (inl e) = (a, inl refl, subst (R a) (sym e) zip.0)
beside-back R (a ∷ xs) (b ∷ ys) zip y (inr h) = let r = beside-back R xs ys zip.1 y h in (r.0, inr r.1, r.2)

module _ (book : RolledSheet) (places : Numbered) (lists : Lists) (links : Linked) (graph : IsGraphOf book places lists links.edges) (number : ℕ) where
  abbrev Dependant : ℕ → Type 0
  Dependant other = IsLinkedDependantAt book places lists number other

  from-edge : (e : Edge) → IsMember e links.edges → e.source ≡ number → Dependant e.dependant
  from-edge e h from =
      let own = graph.linked.only e (Contains-from_IsMember links.edges e h) in
      let at : StandsIn book places lists own.0 e.dependant = own.1 in
      let zip = graph.linked.done own.0 e.dependant at own.2 own.3 in
      let member : IsMember e.source (linked_in links.edges e.dependant) =
      member-mapped (λ (x : Edge). x.source) (edges_to links.edges e.dependant) e
      (edge-kept (λ (x : Edge). nat_eq x.dependant e.dependant) links.edges e h (eq-eqb e.dependant e.dependant refl)) in
      let below = beside (λ n p. StandsIn book places lists p n) (linked_in links.edges e.dependant) (sources_in (rolled_of book) own.0) zip e.source member in (
        record {
          point = own.0;
          below = below.0;
          at = at;
          live = own.2;
          from = subst (StandsIn book places lists below.0) from below.2;
          reads = Contains-from_IsMember (sources_in (rolled_of book) own.0) below.0 below.1;
        },
        own.3,
      )

  to-edge : (other : ℕ) → Dependant other → (e : Edge) × IsMember e links.edges × (e.source ≡ number) × (e.dependant ≡ other)
  to-edge other (d, linked) =
      let zip = graph.linked.done d.point other d.at d.live linked in
      let number_at = beside-back (λ n p. StandsIn book places lists p n) (linked_in links.edges other) (sources_in (rolled_of book) d.point) zip d.below
      (IsMember-from_Contains (sources_in (rolled_of book) d.point) d.below d.reads) in
      let edge = IsMember-map (λ (x : Edge). x.source) (edges_to links.edges other) number_at.0 number_at.1 in
      let kept = kept-edge (λ (x : Edge). nat_eq x.dependant other) links.edges edge.0 edge.1 in (
        edge.0,
        kept.0,
        edge.2 ∙ graph.numbers_of.numbers.only d.below number_at.0 number number_at.2 d.from,
        eqb-true edge.0.dependant other kept.1,
      )

  -- all that is linked is to come
  pub marks-begin : (left : List (ℕ × ℕ)) → left ≡ dependants_of links number → (list : List ℕ) → AreLinkedMarks book places lists number left list list
  marks-begin left is list = record {
    once = λ h. h;
    kept = λ place other at. at;
    still = λ other h. h;
    each = λ other h. inl h;
    all = λ other d. inr (subst (λ (l : List (ℕ × ℕ)). IsMember other (firsts l)) (sym is) (coming other d));
    to_come = λ other h. came other (subst (λ (l : List (ℕ × ℕ)). IsMember other (firsts l)) is h);
  }
    where
      edges : List Edge
      edges = filter (λ (e : Edge). e.source == number) links.edges

      pair : Edge → ℕ × ℕ
      pair e = (e.dependant, e.id)

      coming : (other : ℕ) → Dependant other → IsMember other (firsts (map pair edges))
      coming other d =
          let edge = to-edge other d in
          subst (λ n. IsMember n (firsts (map pair edges))) edge.3
          (member-mapped (λ (e : ℕ × ℕ). e.0) (map pair edges) (pair edge.0)
          (member-mapped pair edges edge.0
          (edge-kept (λ (e : Edge). e.source == number) links.edges edge.0 edge.1 (eq-eqb edge.0.source number edge.2))))

      came : (other : ℕ) → IsMember other (firsts (map pair edges)) → Dependant other
      came other h =
          let one = IsMember-map (λ (e : ℕ × ℕ). e.0) (map pair edges) other h in
          let edge = IsMember-map pair edges one.0 one.1 in
          let kept = kept-edge (λ (e : Edge). e.source == number) links.edges edge.0 edge.1 in
          subst Dependant (ap (λ (p : ℕ × ℕ). p.0) edge.2 ∙ one.2) (from-edge edge.0 kept.0 (eqb-true edge.0.source number kept.1))

  -- one more
  pub marks-more : (dependant id : ℕ) (left rest : List (ℕ × ℕ)) → left ≡ (dependant, id) ∷ rest → (old mid new : List ℕ)
      → AreLinkedMarks book places lists number left old mid → AreMarkedMore (λ other. dependant ≡ other) mid new
      → AreLinkedMarks book places lists number rest old new
  marks-more dependant id left rest is old mid new so more = record {
    once = λ h. more.once (so.once h);
    kept = λ place other at. more.kept place other (so.kept place other at);
    still = λ other h. (more.marked other).1 (inl (so.still other h));
    each = λ other h. from other ((more.marked other).0 h);
    all = λ other d. to other (so.all other d);
    to_come = λ other h. so.to_come other (subst (λ (l : List (ℕ × ℕ)). IsMember other (firsts l)) (sym is) (inr h));
  }
    where
      from : (other : ℕ) → Contains mid other ⊎ (dependant ≡ other) → Contains old other ⊎ Dependant other
      from other (inl h) = so.each other h
      from other (inr e) =
          inr (so.to_come other (subst (λ (l : List (ℕ × ℕ)). IsMember other (firsts l)) (sym is) (inl (sym e))))

      to : (other : ℕ) → Contains mid other ⊎ IsMember other (firsts left) → Contains new other ⊎ IsMember other (firsts rest)
      to other (inl h) = inl ((more.marked other).1 (inl h))
      to other (inr m) = by (subst (λ (l : List (ℕ × ℕ)). IsMember other (firsts l)) is m)
        where
          by : IsMember other (dependant ∷ firsts rest) → Contains new other ⊎ IsMember other (firsts rest)
          by (inl e) = inl ((more.marked other).1 (inr (sym e)))
          by (inr h) = inr h

  -- none is left
  pub marks-end : (left : List (ℕ × ℕ)) → left ≡ [] → (old new : List ℕ) → AreLinkedMarks book places lists number left old new
      → AreMarkedMore (IsLinkedDependantAt book places lists number) old new
  marks-end left none old new so = record {
    once = so.once;
    kept = so.kept;
    marked = λ other. (so.each other, by other);
  }
    where
      last : (other : ℕ) → Contains new other ⊎ IsMember other (firsts left) → Contains new other
      last other (inl h) = h
      last other (inr m) = absurd (subst (λ (l : List (ℕ × ℕ)). IsMember other (firsts l)) none m)

      by : (other : ℕ) → Contains old other ⊎ Dependant other → Contains new other
      by other (inl h) = so.still other h
      by other (inr d) = last other (so.all other d)

  -- a number that is to come is below the size
  pub marks-within : (dependant id : ℕ) (left rest : List (ℕ × ℕ)) → left ≡ (dependant, id) ∷ rest → (old mid : List ℕ)
      → AreLinkedMarks book places lists number left old mid → dependant < places.size
  marks-within dependant id left rest is old mid so =
      let d = so.to_come dependant (subst (λ (l : List (ℕ × ℕ)). IsMember dependant (firsts l)) (sym is) (inl refl)) in
      graph.numbers_of.numbers.within d.0.point dependant d.0.at
