-- What always holds of the edges, after each of what changes them.
use Rattle.std.proofs.Common.{◌≡◌, ℕ, zero, suc, All, ◌==◌, ◌+◌, ◌-◌, ◌<◌, ◌≤◌, ◌⊎◌, true, false, List, [], ◌∷◌, ◌++◌, length, map, max, set, eqb, refl, ap, sym, length-append, ◌∙◌, ⊎_elim, subst, arith, eqb-true}
use Rattle.std.proofs.lemmas.Bool.{cases_Bool, both_ways}
use Rattle.std.proofs.lemmas.List.{length-set}
use Rattle.scr_links.specs.Edges.{Edge, Linked, edge, linked, is_edge, edges_without, sources_of, dependants_of, ids_of}
use Rattle.std.specs.List.{IsDistinct}
use Rattle.scr_links.specs.Places.{has, AreApart, without}
use Rattle.scr_links.specs.Chains.{Chained, none, list_of, Leads, Appended, Removed}
use Rattle.scr_links.specs.Ends.{pair_at}
use Rattle.scr_links.specs.Growth.{HasGrown, HasRoom, Freed}
use Rattle.scr_links.specs.Kept.{AreKept, edge_at, with_source, with_dependant, linked_of, standing, free}
use Rattle.scr_links.specs.declared.{links.Pair.Pair, links.Tables.Tables, links.Links.TheInside.Inside}
use Rattle.scr_links.proofs.Lists.{has-none, has-self, has-later, has-filter, IsDistinct-from_apart, has-without, AreApart-push, AreApart-without, push-cases, map-agree, filter-agree}
use Rattle.scr_links.proofs.Linked.{leads_into}
use Rattle.scr_links.proofs.Joins.{sources-at, dependants-at, ids-at, is_edge-at, edges_without-at, map-push, listed_nowhere, listed_there, listed_joined, listed_cut, pair_elsewhere, pair_there}

-- ---- an edge joins at a free place

-- where there is room, the first of the free places is free
pub first_free : (before : Inside) → AreKept before → (value : Linked) → linked_of before ≡ value → 0 < value.spare
    → (place : ℕ) → Leads before.tables.order.links place (free before) → has place (free before) ≡ true
first_free before kept value same room place leads =
    let spare = ap (λ (v : Linked). v.spare) same in
    let some : 0 < length (free before) = omega (arith, spare, kept.counted, room) in
    leads_into before.tables.order.links place (free before) leads some

module _ (before : Inside) (kept : AreKept before) (place : ℕ) (was_free : has place (free before) ≡ true) where
  pub join_low : place < before.places
  join_low = kept.placed 1 place was_free

  pub join_in_pairs : place < length before.tables.pairs.items
  join_in_pairs = let low = join_low in omega (arith, kept.in_pairs)

  module _ (taken : Chained) (takes : Removed before.tables.order taken 1 place) where
    still : list_of taken 0 ≡ standing before
    still = takes.others 0 refl

    pub join_new : has place (standing before) ≡ false
    join_new = ap (has place) (sym still) ∙ takes.gone 0

    pub no_source_list : (number : ℕ) → has place (list_of before.tables.by_source number) ≡ false
    no_source_list =
        listed_nowhere (λ p. p.source) before.tables.pairs.items (standing before) before.tables.by_source
        before.tables.by_source kept.sources place join_new

    pub no_dependant_list : (number : ℕ) → has place (list_of before.tables.by_dependant number) ≡ false
    no_dependant_list =
        listed_nowhere (λ p. p.dependant) before.tables.pairs.items (standing before) before.tables.by_dependant
        before.tables.by_dependant kept.dependants place join_new

    pub not_an_edge : (value : Linked) → linked_of before ≡ value → is_edge value place ≡ false
    not_an_edge value same =
        ap (λ (v : Linked). is_edge v place) (sym same)
        ∙ is_edge-at before.tables.pairs.items place (standing before) ∙ join_new

    module _ (pair : Pair) (now : Inside)
        (paired : now.tables.pairs.items ≡ set before.tables.pairs.items place pair)
        (stands : Appended taken now.tables.order 0 place)
        (sourced : Appended before.tables.by_source now.tables.by_source pair.source place)
        (depends : Appended before.tables.by_dependant now.tables.by_dependant pair.dependant place)
        (source_low : pair.source < before.size) (dependant_low : pair.dependant < before.size)
        (same_places : now.places ≡ before.places) (one_less : now.spare ≡ before.spare - 1)
        (same_size : now.size ≡ before.size) where
      now_standing : standing now ≡ standing before ++ place ∷ []
      now_standing = stands.listed ∙ ap (λ (these : List ℕ). these ++ place ∷ []) still

      join_cases : (x : ℕ) → has x (standing now) ≡ true → (place ≡ x) ⊎ (has x (standing before) ≡ true)
      join_cases x h = push-cases x (standing before) place (sym (ap (has x) now_standing) ∙ h)

      join_pair_there : pair_at now.tables.pairs.items place ≡ pair
      join_pair_there =
          ap (λ (pairs : List Pair). pair_at pairs place) paired
          ∙ pair_there (λ p. p.source) before.tables.pairs.items (standing before) before.tables.by_source
          now.tables.by_source kept.sources place pair join_in_pairs join_new sourced.listed sourced.others

      join_pair_kept : (x : ℕ) → has x (standing before) ≡ true
          → pair_at now.tables.pairs.items x ≡ pair_at before.tables.pairs.items x
      join_pair_kept x h =
          ap (λ (pairs : List Pair). pair_at pairs x) paired
          ∙ pair_elsewhere (λ p. p.source) before.tables.pairs.items (standing before) before.tables.by_source
          now.tables.by_source kept.sources place pair join_in_pairs join_new sourced.listed sourced.others x h

      join_placed : (number x : ℕ) → has x (list_of now.tables.order number) ≡ true → x < before.places
      join_placed number x h = ⊎_elim
          (λ t. ⊎_elim
          (λ e. let P : ℕ → Type 0 = λ y. y < before.places in subst P e join_low)
          (λ more. kept.placed 0 x more)
          (join_cases x (sym (ap (λ (n : ℕ). has x (list_of now.tables.order n)) (eqb-true number 0 t)) ∙ h)))
          (λ f. ⊎_elim
          (λ t. kept.placed 1 x (has-without place x (free before)
          (sym (ap (has x) (stands.others number f ∙ ap (list_of taken) (eqb-true number 1 t) ∙ takes.listed)) ∙ h)))
          (λ g. kept.placed number x (sym (ap (has x) (stands.others number f ∙ takes.others number g)) ∙ h))
          (cases_Bool (eqb number 1)))
          (cases_Bool (eqb number 0))

      pub join_kept : AreKept now
      join_kept = record {
        distinct = let P : List ℕ → Type 0 = AreApart in
            subst P (sym now_standing) (AreApart-push (standing before) place kept.distinct join_new);
        placed = λ number x h. let low = join_placed number x h in omega (arith, same_places, low);
        counted =
            let kept_free = ap length (stands.others 1 refl) in
            omega (arith, kept_free, takes.fewer, kept.counted, one_less);
        sources = λ number.
            listed_joined (λ p. p.source) before.tables.pairs.items (standing before) before.tables.by_source
            now.tables.by_source kept.sources place pair join_in_pairs join_new sourced.listed sourced.others number
            ∙ ap (λ (pairs : List Pair). with_source pairs number (standing before ++ place ∷ [])) (sym paired)
            ∙ ap (with_source now.tables.pairs.items number) (sym now_standing);
        dependants = λ number.
            listed_joined (λ p. p.dependant) before.tables.pairs.items (standing before) before.tables.by_dependant
            now.tables.by_dependant kept.dependants place pair join_in_pairs join_new depends.listed depends.others
            number
            ∙ ap (λ (pairs : List Pair). with_dependant pairs number (standing before ++ place ∷ [])) (sym paired)
            ∙ ap (with_dependant now.tables.pairs.items number) (sym now_standing);
        low_source = λ x h. ⊎_elim
            (λ e. let this = ap (λ (y : ℕ). (pair_at now.tables.pairs.items y).source) (sym e)
            ∙ ap (λ (p : Pair). p.source) join_pair_there in
            omega (arith, this, source_low, same_size))
            (λ more. let this = ap (λ (p : Pair). p.source) (join_pair_kept x more) in
            let low = kept.low_source x more in omega (arith, this, low, same_size))
            (join_cases x h);
        low_dependant = λ x h. ⊎_elim
            (λ e. let this = ap (λ (y : ℕ). (pair_at now.tables.pairs.items y).dependant) (sym e)
            ∙ ap (λ (p : Pair). p.dependant) join_pair_there in
            omega (arith, this, dependant_low, same_size))
            (λ more. let this = ap (λ (p : Pair). p.dependant) (join_pair_kept x more) in
            let low = kept.low_dependant x more in omega (arith, this, low, same_size))
            (join_cases x h);
        few = omega (arith, kept.few, same_places);
        in_order = omega (arith, kept.in_order, same_places, stands.places, takes.places);
        in_sources = omega (arith, kept.in_sources, same_places, sourced.places);
        in_dependants = omega (arith, kept.in_dependants, same_places, depends.places);
        in_pairs =
            let long = ap length paired ∙ length-set before.tables.pairs.items place pair in
            omega (arith, kept.in_pairs, same_places, long);
        two_lists = omega (arith, kept.two_lists, stands.numbers, takes.numbers);
        source_lists = omega (arith, kept.source_lists, same_size, sourced.numbers);
        dependant_lists = omega (arith, kept.dependant_lists, same_size, depends.numbers);
      }

      join_edges : map (edge_at now.tables.pairs.items) (standing now)
          ≡ map (edge_at before.tables.pairs.items) (standing before) ++ edge pair.source pair.dependant place ∷ []
      join_edges =
          let here : edge_at now.tables.pairs.items place ≡ edge pair.source pair.dependant place =
          ap (λ (p : Pair). edge p.source p.dependant place) join_pair_there in
          let old : map (edge_at now.tables.pairs.items) (standing before)
          ≡ map (edge_at before.tables.pairs.items) (standing before) =
          map-agree (edge_at now.tables.pairs.items) (edge_at before.tables.pairs.items) (standing before)
          (λ x h. ap (λ (p : Pair). edge p.source p.dependant x) (join_pair_kept x h)) in
          ap (map (edge_at now.tables.pairs.items)) now_standing
          ∙ map-push (edge_at now.tables.pairs.items) (standing before) place
          ∙ ap (λ (e : Edge). map (edge_at now.tables.pairs.items) (standing before) ++ e ∷ []) here
          ∙ ap (λ (es : List Edge). es ++ edge pair.source pair.dependant place ∷ []) old

      pub join_view : (value : Linked) → linked_of before ≡ value
          → linked_of now ≡ linked (value.edges ++ edge pair.source pair.dependant place ∷ [])
          (value.spare - 1) value.size
      join_view value same =
          ap (λ (es : List Edge). linked es now.spare now.size) join_edges
          ∙ ap (λ (n : ℕ). linked (map (edge_at before.tables.pairs.items)
          (standing before) ++ edge pair.source pair.dependant place ∷ []) n now.size) one_less
          ∙ ap (λ (n : ℕ). linked (map (edge_at before.tables.pairs.items)
          (standing before) ++ edge pair.source pair.dependant place ∷ []) (before.spare - 1) n) same_size
          ∙ ap (λ (v : Linked). linked (v.edges ++ edge pair.source pair.dependant place ∷ [])
          (v.spare - 1) v.size) same

-- ---- an edge is cut

module _ (before : Inside) (kept : AreKept before) (place : ℕ) (stood : has place (standing before) ≡ true) where
  pub cut_low : place < before.places
  cut_low = kept.placed 0 place stood

  pub cut_in_pairs : place < length before.tables.pairs.items
  cut_in_pairs = let low = cut_low in omega (arith, kept.in_pairs)

  module _ (pair : Pair) (pair_is : pair ≡ pair_at before.tables.pairs.items place) where
    pub cut_source_list : has place (list_of before.tables.by_source pair.source) ≡ true
    cut_source_list =
        ap (λ (p : Pair). has place (list_of before.tables.by_source p.source)) pair_is
        ∙ listed_there (λ p. p.source) before.tables.pairs.items (standing before) before.tables.by_source
        before.tables.by_source kept.sources place stood

    pub cut_dependant_list : has place (list_of before.tables.by_dependant pair.dependant) ≡ true
    cut_dependant_list =
        ap (λ (p : Pair). has place (list_of before.tables.by_dependant p.dependant)) pair_is
        ∙ listed_there (λ p. p.dependant) before.tables.pairs.items (standing before) before.tables.by_dependant
        before.tables.by_dependant kept.dependants place stood

    module _ (taken : Chained) (now : Inside) (takes : Removed before.tables.order taken 0 place)
        (same_pairs : now.tables.pairs.items ≡ before.tables.pairs.items)
        (frees : Appended taken now.tables.order 1 place)
        (sourced : Removed before.tables.by_source now.tables.by_source pair.source place)
        (depends : Removed before.tables.by_dependant now.tables.by_dependant pair.dependant place)
        (same_places : now.places ≡ before.places) (one_more : now.spare ≡ before.spare + 1)
        (same_size : now.size ≡ before.size) where
      left_standing : standing now ≡ without place (standing before)
      left_standing = frees.others 0 refl ∙ takes.listed

      cut_stood : (x : ℕ) → has x (standing now) ≡ true → has x (standing before) ≡ true
      cut_stood x h = has-without place x (standing before) (sym (ap (has x) left_standing) ∙ h)

      cut_placed : (number x : ℕ) → has x (list_of now.tables.order number) ≡ true → x < before.places
      cut_placed number x h = ⊎_elim
          (λ t. ⊎_elim
          (λ e. let P : ℕ → Type 0 = λ y. y < before.places in subst P e cut_low)
          (λ more. kept.placed 1 x (sym (ap (has x) (takes.others 1 refl)) ∙ more))
          (push-cases x (list_of taken 1) place
          (sym (ap (has x) (ap (list_of now.tables.order) (eqb-true number 1 t) ∙ frees.listed)) ∙ h)))
          (λ f. ⊎_elim
          (λ t. kept.placed 0 x (has-without place x (standing before)
          (sym (ap (has x) (frees.others number f ∙ ap (list_of taken) (eqb-true number 0 t) ∙ takes.listed)) ∙ h)))
          (λ g. kept.placed number x (sym (ap (has x) (frees.others number f ∙ takes.others number g)) ∙ h))
          (cases_Bool (eqb number 0)))
          (cases_Bool (eqb number 1))

      pub cut_kept : AreKept now
      cut_kept = record {
        distinct = let P : List ℕ → Type 0 = AreApart in
            subst P (sym left_standing) (AreApart-without place (standing before) kept.distinct);
        placed = λ number x h. let low = cut_placed number x h in omega (arith, same_places, low);
        counted =
            let more = ap length frees.listed ∙ length-append (list_of taken 1) (place ∷ []) in
            let kept_free = ap length (takes.others 1 refl) in
            omega (arith, more, kept_free, kept.counted, one_more);
        sources = λ number.
            let R : Pair → Type 0 = λ p. Removed before.tables.by_source now.tables.by_source p.source place in
            let mine = subst R pair_is sourced in
            listed_cut (λ p. p.source) before.tables.pairs.items (standing before) before.tables.by_source
            now.tables.by_source kept.sources place mine.listed mine.others number
            ∙ ap (λ (pairs : List Pair). with_source pairs number (without place (standing before))) (sym same_pairs)
            ∙ ap (with_source now.tables.pairs.items number) (sym left_standing);
        dependants = λ number.
            let R : Pair → Type 0 = λ p. Removed before.tables.by_dependant now.tables.by_dependant p.dependant place in
            let mine = subst R pair_is depends in
            listed_cut (λ p. p.dependant) before.tables.pairs.items (standing before) before.tables.by_dependant
            now.tables.by_dependant kept.dependants place mine.listed mine.others number
            ∙ ap (λ (pairs : List Pair). with_dependant pairs number (without place (standing before))) (sym same_pairs)
            ∙ ap (with_dependant now.tables.pairs.items number) (sym left_standing);
        low_source = λ x h.
            let low = kept.low_source x (cut_stood x h) in
            let same = ap (λ (pairs : List Pair). (pair_at pairs x).source) same_pairs in
            omega (arith, low, same, same_size);
        low_dependant = λ x h.
            let low = kept.low_dependant x (cut_stood x h) in
            let same = ap (λ (pairs : List Pair). (pair_at pairs x).dependant) same_pairs in
            omega (arith, low, same, same_size);
        few = omega (arith, kept.few, same_places);
        in_order = omega (arith, kept.in_order, same_places, frees.places, takes.places);
        in_sources = omega (arith, kept.in_sources, same_places, sourced.places);
        in_dependants = omega (arith, kept.in_dependants, same_places, depends.places);
        in_pairs = let long = ap length same_pairs in omega (arith, kept.in_pairs, same_places, long);
        two_lists = omega (arith, kept.two_lists, frees.numbers, takes.numbers);
        source_lists = omega (arith, kept.source_lists, same_size, sourced.numbers);
        dependant_lists = omega (arith, kept.dependant_lists, same_size, depends.numbers);
      }

      pub cut_view : (value : Linked) (id : ℕ) → linked_of before ≡ value → place ≡ id
          → linked_of now ≡ linked (edges_without value id) (value.spare + 1) value.size
      cut_view value id same named =
          let edges : map (edge_at now.tables.pairs.items) (standing now) ≡ edges_without (linked_of before) place =
          ap (λ (pairs : List Pair). map (edge_at pairs) (standing now)) same_pairs
          ∙ ap (map (edge_at before.tables.pairs.items)) left_standing
          ∙ sym (edges_without-at before.tables.pairs.items place (standing before)) in
          ap (λ (es : List Edge). linked es now.spare now.size) edges
          ∙ ap (λ (n : ℕ). linked (edges_without (linked_of before) place) n now.size) one_more
          ∙ ap (λ (n : ℕ). linked (edges_without (linked_of before) place) (before.spare + 1) n) same_size
          ∙ ap (λ (v : Linked). linked (edges_without v place) (v.spare + 1) v.size) same
          ∙ ap (λ (n : ℕ). linked (edges_without value n) (value.spare + 1) value.size) named

-- a name of an edge that stands is a place of one
pub stands_at : (before : Inside) (value : Linked) (place id : ℕ) → linked_of before ≡ value → place ≡ id
    → is_edge value id ≡ true → has place (standing before) ≡ true
stands_at before value place id same named h =
    sym (is_edge-at before.tables.pairs.items place (standing before))
    ∙ ap (λ (v : Linked). is_edge v place) same ∙ ap (is_edge value) named ∙ h

-- ---- more room

module _ (before : Inside) (kept : AreKept before) (tables : Tables) (grown : HasGrown before.tables tables) where
  grown_standing : list_of tables.order 0 ≡ standing before
  grown_standing = grown.order.lists 0

  grown_pair : (x : ℕ) → has x (standing before) ≡ true
      → pair_at tables.pairs.items x ≡ pair_at before.tables.pairs.items x
  grown_pair x h = let low = kept.placed 0 x h in grown.pairs x (omega (arith, low, kept.in_pairs))

  grown_edges : map (edge_at tables.pairs.items) (list_of tables.order 0)
      ≡ map (edge_at before.tables.pairs.items) (standing before)
  grown_edges =
      ap (map (edge_at tables.pairs.items)) grown_standing
      ∙ map-agree (edge_at tables.pairs.items) (edge_at before.tables.pairs.items) (standing before)
      (λ x h. ap (λ (p : Pair). edge p.source p.dependant x) (grown_pair x h))

  pub grown_view : linked_of (record {
    tables = tables;
    places = before.places;
    spare = before.spare;
    size =
        before.size;
  })
      ≡ linked_of before
  grown_view = ap (λ (es : List Edge). linked es before.spare before.size) grown_edges

  grown_sources : (number : ℕ) → list_of tables.by_source number
      ≡ with_source tables.pairs.items number (list_of tables.order 0)
  grown_sources number =
      grown.sources.lists number ∙ kept.sources number
      ∙ sym (ap (with_source tables.pairs.items number) grown_standing
      ∙ filter-agree (λ p. (pair_at tables.pairs.items p).source == number)
      (λ p. (pair_at before.tables.pairs.items p).source == number) (standing before)
      (λ x h. ap (λ (p : Pair). p.source == number) (grown_pair x h)))

  grown_dependants : (number : ℕ) → list_of tables.by_dependant number
      ≡ with_dependant tables.pairs.items number (list_of tables.order 0)
  grown_dependants number =
      grown.dependants.lists number ∙ kept.dependants number
      ∙ sym (ap (with_dependant tables.pairs.items number) grown_standing
      ∙ filter-agree (λ p. (pair_at tables.pairs.items p).dependant == number)
      (λ p. (pair_at before.tables.pairs.items p).dependant == number) (standing before)
      (λ x h. ap (λ (p : Pair). p.dependant == number) (grown_pair x h)))

  stood_before : (x : ℕ) → has x (list_of tables.order 0) ≡ true → has x (standing before) ≡ true
  stood_before x h = sym (ap (has x) grown_standing) ∙ h

  grown_low_source : (x : ℕ) → has x (list_of tables.order 0) ≡ true
      → (pair_at tables.pairs.items x).source < before.size
  grown_low_source x h =
      let low = kept.low_source x (stood_before x h) in
      let same = ap (λ (p : Pair). p.source) (grown_pair x (stood_before x h)) in
      omega (arith, low, same)

  grown_low_dependant : (x : ℕ) → has x (list_of tables.order 0) ≡ true
      → (pair_at tables.pairs.items x).dependant < before.size
  grown_low_dependant x h =
      let low = kept.low_dependant x (stood_before x h) in
      let same = ap (λ (p : Pair). p.dependant) (grown_pair x (stood_before x h)) in
      omega (arith, low, same)

  pub grown_placed : (number x : ℕ) → has x (list_of tables.order number) ≡ true → x < before.places
  grown_placed number x h = kept.placed number x (sym (ap (has x) (grown.order.lists number)) ∙ h)

  pub grown_kept : AreKept (record {
    tables = tables;
    places = before.places;
    spare = before.spare;
    size =
        before.size;
  })
  grown_kept = record {
    distinct = let P : List ℕ → Type 0 = AreApart in subst P (sym grown_standing) kept.distinct;
    placed = grown_placed;
    counted = kept.counted ∙ sym (ap length (grown.order.lists 1));
    sources = grown_sources;
    dependants = grown_dependants;
    low_source = grown_low_source;
    low_dependant = grown_low_dependant;
    few = kept.few;
    in_order = omega (arith, kept.in_order, grown.order.places);
    in_sources = omega (arith, kept.in_sources, grown.sources.places);
    in_dependants = omega (arith, kept.in_dependants, grown.dependants.places);
    in_pairs = omega (arith, kept.in_pairs, grown.places);
    two_lists = omega (arith, kept.two_lists, grown.order.numbers);
    source_lists = omega (arith, kept.source_lists, grown.sources.numbers);
    dependant_lists = omega (arith, kept.dependant_lists, grown.dependants.numbers);
  }

  module _ (places spare size : ℕ) (room : HasRoom tables places size) (few : places < none)
      (order : Chained) (freed : Freed tables.order order before.places places)
      (more : before.places ≤ places) (wider : before.size ≤ size)
      (counts : spare + before.places ≡ before.spare + places) where
    abbrev reserved : Inside
    reserved = record { tables = record tables { order = order }; places = places; spare = spare; size = size }

    still_standing : list_of order 0 ≡ list_of tables.order 0
    still_standing = freed.others 0 refl

    pub reserved_kept : AreKept reserved
    reserved_kept = record {
      distinct = let P : List ℕ → Type 0 = AreApart in subst P (sym (still_standing ∙ grown_standing)) kept.distinct;
      placed = freed.placed;
      counted =
          let kept_free = ap length (grown.order.lists 1) in
          omega (arith, freed.freed, kept_free, kept.counted, counts);
      sources = λ number. grown_sources number ∙ ap (with_source tables.pairs.items number) (sym still_standing);
      dependants = λ number.
          grown_dependants number ∙ ap (with_dependant tables.pairs.items number) (sym still_standing);
      low_source = λ x h.
          let low = grown_low_source x (sym (ap (has x) still_standing) ∙ h) in omega (arith, low, wider);
      low_dependant = λ x h.
          let low = grown_low_dependant x (sym (ap (has x) still_standing) ∙ h) in omega (arith, low, wider);
      few = few;
      in_order = omega (arith, room.order, freed.places);
      in_sources = room.sources;
      in_dependants = room.dependants;
      in_pairs = room.pairs;
      two_lists = omega (arith, room.two_lists, freed.numbers);
      source_lists = room.source_lists;
      dependant_lists = room.dependant_lists;
    }

    pub reserved_view : (value : Linked) → linked_of before ≡ value → linked_of reserved ≡ linked value.edges spare size
    reserved_view value same =
        ap (λ (these : List ℕ). linked (map (edge_at tables.pairs.items) these) spare size) still_standing
        ∙ ap (λ (es : List Edge). linked es spare size) grown_edges
        ∙ ap (λ (v : Linked). linked v.edges spare size) same

-- ---- no edges

module _ (now : Inside) (order : (number : ℕ) → list_of now.tables.order number ≡ [])
    (sources : (number : ℕ) → list_of now.tables.by_source number ≡ [])
    (dependants : (number : ℕ) → list_of now.tables.by_dependant number ≡ [])
    (no_places : now.places ≡ 0) (no_spare : now.spare ≡ 0) (no_size : now.size ≡ 0)
    (two_lists : 2 ≤ now.tables.order.room) where
  nothing : (number x : ℕ) → has x (list_of now.tables.order number) ≡ true → ⊥
  nothing number x h = both_ways _ (ap (has x) (order number) ∙ has-none x) h

  pub empty_kept : AreKept now
  unfolding AreApart
  empty_kept = record {
    distinct = let P : List ℕ → Type 0 = AreApart in subst P (sym (order 0)) tt;
    placed = λ number x h. absurd (nothing number x h);
    counted = no_spare ∙ sym (ap length (order 1));
    sources = λ number. sources number ∙ sym (ap (with_source now.tables.pairs.items number) (order 0));
    dependants = λ number. dependants number ∙ sym (ap (with_dependant now.tables.pairs.items number) (order 0));
    low_source = λ x h. absurd (nothing 0 x h);
    low_dependant = λ x h. absurd (nothing 0 x h);
    few = omega (arith, no_places);
    in_order = omega (arith, no_places);
    in_sources = omega (arith, no_places);
    in_dependants = omega (arith, no_places);
    in_pairs = omega (arith, no_places);
    two_lists = two_lists;
    source_lists = omega (arith, no_size);
    dependant_lists = omega (arith, no_size);
  }

-- ---- one place more is free

pub one_freed : (before order now : Chained) (from place : ℕ) → Freed before order from place
    → Appended order now 1 place → Freed before now from (place + 1)
one_freed before order now from place freed joins = record {
  freed =
      let more = ap length joins.listed ∙ length-append (list_of order 1) (place ∷ []) in
      omega (arith, more, freed.freed);
  others = λ number f. joins.others number f ∙ freed.others number f;
  placed = λ number x h. ⊎_elim
      (λ t. ⊎_elim
      (λ e. omega (arith, e))
      (λ old. let low = freed.placed 1 x old in omega (arith, low))
      (push-cases x (list_of order 1) place
      (sym (ap (has x) (ap (list_of now) (eqb-true number 1 t) ∙ joins.listed)) ∙ h)))
      (λ f. let low = freed.placed number x (sym (ap (has x) (joins.others number f)) ∙ h) in omega (arith, low))
      (cases_Bool (eqb number 1));
  places = joins.places ∙ freed.places;
  numbers = omega (arith, joins.numbers, freed.numbers);
}

-- ---- what is read

module _ (before : Inside) (kept : AreKept before) (value : Linked) (same : linked_of before ≡ value) where
  stands_paired : (place : ℕ) → has place (standing before) ≡ true → place < length before.tables.pairs.items
  stands_paired place h = let low = kept.placed 0 place h in omega (arith, low, kept.in_pairs)

  pub dependant_paired : (number place : ℕ) → has place (list_of before.tables.by_dependant number) ≡ true
      → place < length before.tables.pairs.items
  dependant_paired number place h =
      stands_paired place (has-filter (λ p. (pair_at before.tables.pairs.items p).dependant == number) place
      (standing before) (sym (ap (has place) (kept.dependants number)) ∙ h))

  pub source_paired : (number place : ℕ) → has place (list_of before.tables.by_source number) ≡ true
      → place < length before.tables.pairs.items
  source_paired number place h =
      stands_paired place (has-filter (λ p. (pair_at before.tables.pairs.items p).source == number) place
      (standing before) (sym (ap (has place) (kept.sources number)) ∙ h))

  pub sources_shown : (number : ℕ)
      → map {B = ℕ × ℕ} (λ p. ((pair_at before.tables.pairs.items p).source, p))
      (list_of before.tables.by_dependant number)
      ≡ sources_of value number
  sources_shown number =
      ap (map {B = ℕ × ℕ} (λ p. ((pair_at before.tables.pairs.items p).source, p))) (kept.dependants number)
      ∙ sym (sources-at before.tables.pairs.items number (standing before))
      ∙ ap (λ (v : Linked). sources_of v number) same

  pub dependants_shown : (number : ℕ)
      → map {B = ℕ × ℕ} (λ p. ((pair_at before.tables.pairs.items p).dependant, p))
      (list_of before.tables.by_source number)
      ≡ dependants_of value number
  dependants_shown number =
      ap (map {B = ℕ × ℕ} (λ p. ((pair_at before.tables.pairs.items p).dependant, p))) (kept.sources number)
      ∙ sym (dependants-at before.tables.pairs.items number (standing before))
      ∙ ap (λ (v : Linked). dependants_of v number) same

  pub ids_distinct : IsDistinct eqb (ids_of value)
  ids_distinct =
      let P : List ℕ → Type 0 = IsDistinct eqb in
      subst P (sym (ids-at before.tables.pairs.items (standing before)) ∙ ap ids_of same)
      (IsDistinct-from_apart (standing before) kept.distinct)

  low_edges : (places : List ℕ) → ((x : ℕ) → has x places ≡ true → has x (standing before) ≡ true)
      → All (λ (e : Edge). (e.source < before.size) × (e.dependant < before.size))
      (map (edge_at before.tables.pairs.items) places)
  low_edges [] among k d low = absurd (omega arith)
  low_edges (p ∷ places) among zero d low =
      let here = among p (has-self p places) in (kept.low_source p here, kept.low_dependant p here)
  low_edges (p ∷ places) among (suc k) d low =
      low_edges places (λ x h. among x (has-later x p places h)) k d (omega arith)

  pub edges_low : All (λ (e : Edge). (e.source < value.size) × (e.dependant < value.size)) value.edges
  edges_low =
      let P : Linked → Type 0 = λ v. All (λ (e : Edge). (e.source < v.size) × (e.dependant < v.size)) v.edges in
      subst P same (low_edges (standing before) (λ x h. h))

-- where there is room enough, the room stays
pub enough : (links : Linked) (n size : ℕ) → n ≤ links.spare → size ≤ links.size → links ≡ linked links.edges (max links.spare n) (max links.size size)
enough links n size spare below =
    ap (λ m. linked links.edges m links.size) more ∙ ap (linked links.edges (max links.spare n)) wider
  where
    more : links.spare ≡ max links.spare n
    more = omega (arith, spare)

    wider : links.size ≡ max links.size size
    wider = omega (arith, below)
