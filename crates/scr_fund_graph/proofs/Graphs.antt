-- The graph under its names and under its numbers.
use Rattle.std.proofs.Common.{◌≡◌, ◌≢◌, ◌⊎◌, ℕ, ℤ, ◌<◌, ◌≤◌, true, false, cond, ◌||◌, IsTrue, List, [], ◌∷◌, ◌++◌, map, max, fold, length, get_or, All, Contains, Some, None, refl, sym, ap, subst, ◌∙◌, inl, inr, arith}
use Rattle.std.specs.List.{list_any, IsDistinct}
use Rattle.std.proofs.lemmas.Bool.{cases_Bool, cases_eq, cases_lt, true≢false}
use Rattle.std.proofs.lemmas.List.{get_or_append_left, get_or_past, get_or_default, get_or-set_other}
use Rattle.std.specs.Cmp.Lexicographic.{bytes_decides}
use Rattle.scr_funds.specs.Chains.{IsChain, LeadsTo, IsAcyclic, IsFirstShortest}
use Rattle.scr_funds.specs.Components.{Components, IsOrder, components_of, components_with, with_components, with_edges, number_above, size_of}
use Rattle.scr_funds.specs.Paths.{path_within}
use Rattle.scr_funds.proofs.Members.{IsMember, IsMember-from_Contains, IsMember-map}
use Rattle.scr_funds.proofs.Rows.{with-own, with-other, none_left, size_of-with_edges}
use Rattle.scr_funds.proofs.Naming.{leads_to_named, leads_to_of_named}
use Rattle.scr_funds.proofs.NamedPaths.{no_cycle_named, cycle_named}
use Rattle.scr_tables.specs.Names.{same_name}
use Rattle.scr_tables.proofs.TableRows.{same_name-itself, same_name-is, same_or_other}
use Rattle.scr_fund_graph.specs.Graph.{Graph, number_in, entered_in, components_under, components_after, is_known}
use Rattle.scr_fund_graph.specs.GraphInside.{graph_of, IsNumbered}
use Rattle.scr_fund_graph.specs.declared.graph.FundGraph.TheInside.{Inside}
use Rattle.scr_fund_graph.proofs.Numbering.{at_all, map_same, map_undone, name-number, number-entered, number-new, number-name, number-kept, number-past}

-- what is known of the graph that is kept
pub record Sound (graph : Graph) : Type 0 where
  pub distinct : IsDistinct same_name graph.names
  pub few : size_of graph.components ≤ length graph.names
  pub order : IsOrder graph.components

pub sound-from_inside : (graph : Inside) → IsNumbered graph → Sound (graph_of graph)
sound-from_inside graph kept =
    let named = kept.named in
    record { distinct = kept.distinct; few = omega (arith, named); order = kept.order }

-- each component was entered
abbrev pub AreEntered : List (List ℕ × ℤ) → Graph → Type 0
AreEntered components graph = All (λ c. IsTrue (entered_in graph c.0)) components

-- each component was entered or is the fund itself
abbrev pub AreEnteredOr : List ℕ → List (List ℕ × ℤ) → Graph → Type 0
AreEnteredOr fund components graph = All (λ c. IsTrue (is_known fund graph c.0)) components

-- the fund's components, where it has these in the place of its own, and those of each other
pub after-own : (fund : List ℕ) (components : List (List ℕ × ℤ)) (graph : Graph) (name : List ℕ)
    → same_name name fund ≡ true → components_after fund components graph name ≡ map (λ c. c.0) components
after-own fund components graph name e = ap (λ t. cond t (map (λ c. c.0) components) (components_under graph name)) e

pub after-other : (fund : List ℕ) (components : List (List ℕ × ℤ)) (graph : Graph) (name : List ℕ)
    → same_name name fund ≡ false → components_after fund components graph name ≡ components_under graph name
after-other fund components graph name e = ap (λ t. cond t (map (λ c. c.0) components) (components_under graph name)) e

-- what is past the end has no components
pub none_past : (all : Components) (size : ℕ) → size_of all ≤ size → (k : ℕ) → size ≤ k → components_of all k ≡ []
none_past all size few k l = let short : length all ≤ k = omega arith in get_or_past all k [] short

-- an end of an edge is below the number of names
below_names : (all : Components) (size : ℕ) → size_of all ≤ size → IsOrder all → (k c : ℕ)
    → IsMember c (components_of all k) → c < size
below_names all size few order k c m =
    let ends = at_all (λ member. (k < size_of all) × (member < size_of all)) (components_of all k) c
    (order.below k) m in
    let l : c < length all = ends.1 in
    omega arith

-- three equal things in the place of others
pub carried : (P : ℕ → List ℕ → Components → Type 0) (n m : ℕ) (xs ys : List ℕ) (old new : Components) → n ≡ m → xs ≡ ys
    → old ≡ new → P n xs old → P m ys new
carried P n m xs ys old new first second third h =
    subst (λ k. P k ys new) first (subst (λ zs. P n zs new) second (subst (P n xs) third h))

-- what was entered was entered or is the fund
pub entered_or-from_entered : (fund : List ℕ) (components : List (List ℕ × ℤ)) (graph : Graph)
    → AreEntered components graph → AreEnteredOr fund components graph
entered_or-from_entered fund components graph entered = λ k d l. let was = entered k d l in grind (arith, was)

-- other components in the place of the fund's own differ only as the graphs do
pub after-same : (fund : List ℕ) (components : List (List ℕ × ℤ)) (old new : Graph)
    → components_under new ≡ components_under old
    → components_after fund components new ≡ components_after fund components old
after-same fund components old new same = λ i name. cond (same_name name fund) (map (λ c. c.0) components) (same i name)

-- ---- a name goes last

module _ (names : List (List ℕ)) (all : Components) (few : size_of all ≤ length names) (order : IsOrder all) where
  -- the components under each name stay
  pub under-entered : (new : List ℕ) → components_under (record { names = names ++ new ∷ []; components = all })
      ≡ components_under (record { names = names; components = all })
  under-entered new = λ i name. each name i
    where
      more : List (List ℕ)
      more = new ∷ []

      each : (name : List ℕ) → components_under (record { names = names ++ new ∷ []; components = all }) name
          ≡ components_under (record { names = names; components = all }) name
      each name = by (cases_Bool (list_any (same_name name) names))
        where
          by : (list_any (same_name name) names ≡ true) ⊎ (list_any (same_name name) names ≡ false)
              → components_under (record { names = names ++ new ∷ []; components = all }) name
              ≡ components_under (record { names = names; components = all }) name
          by (inl e) =
              ap (λ n. map (λ k. get_or (names ++ more) k []) (components_of all n)) (number-kept names more name e)
              ∙ map_same (λ k. get_or (names ++ more) k []) (λ k. get_or names k [])
              (components_of all (number_in names name))
              (λ k m. get_or_append_left names more [] k
              (below_names all (length names) few order (number_in names name) k m))
          by (inr e) =
              let none : components_of all (number_in (names ++ more) name) ≡ [] =
              none_past all (length names) few (number_in (names ++ more) name) (number-past names more name e) in
              let last = number-new names name e in
              let own : components_of all (number_in names name) ≡ [] =
              none_past all (length names) few (number_in names name) (omega arith) in
              ap (map (λ k. get_or (names ++ more) k [])) none ∙ sym (ap (map (λ k. get_or names k [])) own)

-- ---- a fund with other components

module _ (names : List (List ℕ)) (fund : List ℕ) where
  -- where it was entered, another name has another number
  apart_from_fund : number_in names fund < length names → (name : List ℕ) → same_name name fund ≡ false
      → number_in names name ≡ number_in names fund → ⊥
  apart_from_fund there name e same =
      let one : get_or names (number_in names name) name ≡ get_or names (number_in names fund) fund =
      get_or_default names (number_in names name) name fund
      (let k : number_in names name ≡ number_in names fund = same in omega arith)
      ∙ ap (λ k. get_or names k fund) same in
      let equal : name ≡ fund = sym (name-number names name) ∙ one ∙ name-number names fund in
      true≢false (sym (ap (same_name name) (sym equal) ∙ same_name-itself name) ∙ e)

-- ---- names and numbers

module _ (names : List (List ℕ)) (all : Components) (distinct : IsDistinct same_name names)
    (few : size_of all ≤ length names) (order : IsOrder all)
    (fund : List ℕ) (components : List (List ℕ × ℤ)) where
  abbrev numbers : List ℕ
  numbers = map (λ c. number_in names c.0) components

  abbrev old : ℕ → List ℕ
  old = components_with (number_in names fund) numbers all

  abbrev new : List ℕ → List (List ℕ)
  new = components_after fund components (record { names = names; components = all })

  -- the name of a number: the fund's, where no name has it
  abbrev name : ℕ → List ℕ
  name k = get_or names k fund

  -- the numbers of names, and that of the fund
  abbrev In : ℕ → Type 0
  In k = (k < length names) ⊎ (k ≡ number_in names fund)

  name-own : name (number_in names fund) ≡ fund
  name-own = name-number names fund

  number-of : (k : ℕ) → In k → number_in names (name k) ≡ k
  number-of k (inl l) = number-name names distinct k fund l
  number-of k (inr e) = ap (λ j. number_in names (name j)) e ∙ ap (number_in names) name-own ∙ sym e

  apart : (a b : ℕ) → In a → In b → name a ≡ name b → a ≡ b
  apart a b in' inb e = sym (number-of a in') ∙ ap (number_in names) e ∙ number-of b inb

  module _ (entered : AreEnteredOr fund components (record { names = names; components = all })) where
    abbrev Known : List ℕ × ℤ → Type 0
    Known c = IsTrue (same_name c.0 fund || list_any (same_name c.0) names)

    in_number : (c : List ℕ) → (same_name c fund || list_any (same_name c) names) ≡ true
        → (number_in names c < length names) ⊎ (c ≡ fund)
    in_number c known = same_or_other c fund (λ e. inr (same_name-is c fund e))
        (λ e. inl (number-entered names c (sym (ap (λ t. t || list_any (same_name c) names) e) ∙ known)))

    name-component : (c : List ℕ × ℤ) → IsMember c components → name (number_in names c.0) ≡ c.0
    name-component c m = by (in_number c.0 (at_all Known components c entered m))
      where
        by : (number_in names c.0 < length names) ⊎ (c.0 ≡ fund) → name (number_in names c.0) ≡ c.0
        by (inl l) = get_or_default names (number_in names c.0) fund c.0 l ∙ name-number names c.0
        by (inr e) = ap (λ x. name (number_in names x)) e ∙ name-own ∙ sym e

    number_stays : (c : ℕ) → IsMember c numbers → In c
    number_stays c m = let from = IsMember-map (λ (x : List ℕ × ℤ). number_in names x.0) components c m in
        by from.0 from.2 (in_number from.0.0 (at_all Known components from.0 entered from.1))
      where
        by : (x : List ℕ × ℤ) → number_in names x.0 ≡ c → (number_in names x.0 < length names) ⊎ (x.0 ≡ fund) → In c
        by x is (inl l) = inl (omega arith)
        by x is (inr e) = inr (sym is ∙ ap (number_in names) e)

    stays : (a c : ℕ) → In a → Contains (old a) c → In c
    stays a c in' h = by (cases_eq a (number_in names fund))
      where
        by : (a ≡ number_in names fund) ⊎ (a ≢ number_in names fund) → In c
        by (inl e) =
            number_stays c
            (subst (IsMember c) (ap old e ∙ with-own (number_in names fund) numbers all)
            (IsMember-from_Contains (old a) c h))
        by (inr n) =
            inl (below_names all (length names) few order a c
            (subst (IsMember c) (with-other (number_in names fund) numbers all a n)
            (IsMember-from_Contains (old a) c h)))

    named : (a : ℕ) → In a → new (name a) ≡ map name (old a)
    named a in' = by (cases_eq a (number_in names fund)) in'
      where
        other : a ≢ number_in names fund → same_name (name a) fund ≡ false
        other n =
            same_or_other (name a) fund
            (λ e. absurd
            (n (apart a (number_in names fund) in' (inr refl) (same_name-is (name a) fund e ∙ sym name-own)))) (λ e. e)

        by : (a ≡ number_in names fund) ⊎ (a ≢ number_in names fund) → In a → new (name a) ≡ map name (old a)
        by (inl e) k =
            ap new (ap name e ∙ name-own) ∙ after-own fund components (record { names = names; components = all }) fund
            (same_name-itself fund)
            ∙ sym (map_undone name (λ (c : List ℕ × ℤ). number_in names c.0)
            (λ (c : List ℕ × ℤ). c.0) components name-component)
            ∙ sym (ap (map name) (ap old e ∙ with-own (number_in names fund) numbers all))
        by (inr n) (inr e) = absurd (n e)
        by (inr n) (inl l) =
            after-other fund components (record { names = names; components = all }) (name a) (other n)
            ∙ ap (λ k. map (λ j. get_or names j []) (components_of all k)) (number-name names distinct a fund l)
            ∙ map_same (λ j. get_or names j []) name (components_of all a)
            (λ j m. get_or_default names j [] fund (below_names all (length names) few order a j m))
            ∙ sym (ap (map name) (with-other (number_in names fund) numbers all a n))

    -- ---- what the check tells

    is_same : (x y : List ℕ) → IsTrue (same_name x y) → x ≡ y
    is_same x y = (bytes_decides x y).0

    same_self : (x : List ℕ) → IsTrue (same_name x x)
    same_self x = same_name-itself x

    own_in : In (number_in names fund)
    own_in = inr refl

    pub apart_named : ¬ LeadsTo old (number_in names fund) (number_in names fund) → ¬ LeadsTo new fund fund
    apart_named none leads =
        none (leads_to_of_named old new name In stays named apart (number_in names fund)
        (number_in names fund) own_in own_in
        (subst (λ x. LeadsTo new x x) (sym name-own) leads))

    pub apart_numbered : ¬ LeadsTo new fund fund → ¬ LeadsTo old (number_in names fund) (number_in names fund)
    apart_numbered none leads =
        none (subst (λ x. LeadsTo new x x) name-own
        (leads_to_named old new name In stays named apart (number_in names fund) (number_in names fund) own_in leads))

    pub no_path : (most : ℕ) → ¬ LeadsTo old (number_in names fund) (number_in names fund)
        → path_within same_name new most fund fund ≡ None
    no_path most none =
        subst (λ x. path_within same_name new most x x ≡ None) name-own
        (no_cycle_named old new name In stays named apart same_name is_same same_self most
        (number_in names fund) own_in none)

    pub path : (most : ℕ) (holders : List (List ℕ)) → ((x : List ℕ) → ¬ (new x ≡ []) → Contains holders x)
        → length holders ≤ most
        → (told : List ℕ) → IsFirstShortest old (number_in names fund) (number_in names fund) told
        → path_within same_name new most fund fund ≡ Some (map name told)
    path most holders holds enough told is =
        subst (λ x. path_within same_name new most x x ≡ Some (map name told)) name-own
        (cycle_named old new name In stays named apart same_name is_same same_self most holders holds enough
        (number_in names fund) told own_in is)

  -- ---- the components put in the place of the fund's own

  module _ (there : entered_in (record { names = names; components = all }) fund ≡ true)
      (entered : AreEntered components (record { names = names; components = all })) where
    number_below : (c : ℕ) → IsMember c numbers → c < length names
    number_below c m =
        let from = IsMember-map (λ (x : List ℕ × ℤ). number_in names x.0) components c m in
        let is : number_in names from.0.0 ≡ c = from.2 in
        let l = number-entered names from.0.0
        (at_all (λ (x : List ℕ × ℤ). IsTrue (list_any (same_name x.0) names)) components from.0 entered from.1) in
        omega (arith, is, l)

    pub under-put : (after : Components) → components_of after ≡ old
        → components_under (record { names = names; components = after }) ≡ new
    under-put after is = λ i x. each x i
      where
        undone : (c : List ℕ × ℤ) → IsMember c components → get_or names (number_in names c.0) [] ≡ c.0
        undone c m =
            let l = number-entered names c.0
            (at_all (λ (x : List ℕ × ℤ). IsTrue (list_any (same_name x.0) names)) components c entered m) in
            get_or_default names (number_in names c.0) [] c.0 l ∙ name-number names c.0

        each : (x : List ℕ) → components_under (record { names = names; components = after }) x ≡ new x
        each x = same_or_other x fund
            (λ e. let row : components_of after (number_in names x) ≡ numbers =
            ap (λ rows. rows (number_in names x)) is ∙ ap (λ n. old (number_in names n)) (same_name-is x fund e)
            ∙ with-own (number_in names fund) numbers all in
            ap (map (λ k. get_or names k [])) row
            ∙ map_undone (λ k. get_or names k []) (λ (c : List ℕ × ℤ). number_in names c.0)
            (λ (c : List ℕ × ℤ). c.0) components undone
            ∙ sym (after-own fund components (record { names = names; components = all }) x e))
            (λ e. let row : components_of after (number_in names x) ≡ components_of all (number_in names x) =
            ap (λ rows. rows (number_in names x)) is
            ∙ with-other (number_in names fund) numbers all (number_in names x)
            (apart_from_fund names fund (number-entered names fund there) x e) in
            ap (map (λ k. get_or names k [])) row ∙ sym
            (after-other fund components (record { names = names; components = all }) x e))

    most_below : (bound first : ℕ) (xs : List ℕ) → first < bound → ((x : ℕ) → IsMember x xs → x < bound)
        → fold max first xs < bound
    most_below bound first [] l each = l
    most_below bound first (x ∷ xs) l each = let here : x < bound = each x (inl refl) in
        most_below bound (max first x) xs (omega arith) (λ y m. each y (inr m))

    pub size_put : size_of (with_edges (number_in names fund) numbers all) ≤ length names
    size_put =
        let size : size_of (with_edges (number_in names fund) numbers all)
        ≡ max (number_above (number_in names fund) numbers) (length all) =
        size_of-with_edges (number_in names fund) numbers all in
        let most = most_below (length names) (number_in names fund) numbers
        (number-entered names fund there) number_below in
        omega (arith, size, most)

-- ---- a fund's components taken off

module _ (names : List (List ℕ)) (all : Components) (few : size_of all ≤ length names) (fund : List ℕ) where
  pub under-clear : components_under
      (record { names = names; components = with_components (number_in names fund) [] all })
      ≡ components_after fund [] (record { names = names; components = all })
  under-clear = λ i x. each x i
    where
      none : components_of (with_components (number_in names fund) [] all) (number_in names fund) ≡ []
      none = none_left (number_in names fund) all

      other : (x : List ℕ) → same_name x fund ≡ false
          → components_of (with_components (number_in names fund) [] all) (number_in names x)
          ≡ components_of all (number_in names x)
      other x e = by (cases_eq (number_in names x) (number_in names fund))
          (cases_lt (number_in names fund) (length names))
        where
          by : (number_in names x ≡ number_in names fund) ⊎ (number_in names x ≢ number_in names fund)
              → (number_in names fund < length names) ⊎ (length names ≤ number_in names fund)
              → components_of (with_components (number_in names fund) [] all) (number_in names x)
              ≡ components_of all (number_in names x)
          by (inl same) (inl l) = absurd (apart_from_fund names fund l x e same)
          by (inl same) (inr l) =
              ap (components_of (with_components (number_in names fund) [] all)) same ∙ none
              ∙ sym (none_past all (length names) few (number_in names x) (omega arith))
          by (inr n) l = get_or-set_other all (number_in names fund) (number_in names x) [] [] n

      each : (x : List ℕ)
          → components_under (record { names = names; components = with_components (number_in names fund) [] all }) x
          ≡ components_after fund [] (record { names = names; components = all }) x
      each x = same_or_other x fund
          (λ e. ap (map (λ k. get_or names k []))
          (ap (λ n. components_of (with_components (number_in names fund) [] all) (number_in names n))
          (same_name-is x fund e) ∙ none)
          ∙ sym (after-own fund [] (record { names = names; components = all }) x e))
          (λ e. ap (map (λ k. get_or names k [])) (other x e)
          ∙ sym (after-other fund [] (record { names = names; components = all }) x e))

-- ---- nothing holds itself under the names either

module _ (graph : Graph) (sound : Sound graph) where
  stays_named : (a c : ℕ) → a < length graph.names → Contains (components_of graph.components a) c
      → c < length graph.names
  stays_named a c l h = below_names graph.components (length graph.names) sound.few sound.order a c
      (IsMember-from_Contains (components_of graph.components a) c h)

  under_name : (a : ℕ) → a < length graph.names
      → components_under graph (get_or graph.names a [])
      ≡ map (λ k. get_or graph.names k []) (components_of graph.components a)
  under_name a l = ap (λ n. map (λ k. get_or graph.names k []) (components_of graph.components n))
      (number-name graph.names sound.distinct a [] l)

  one_number : (a b : ℕ) → a < length graph.names → b < length graph.names
      → get_or graph.names a [] ≡ get_or graph.names b [] → a ≡ b
  one_number a b la lb e = sym (number-name graph.names sound.distinct a [] la) ∙ ap (number_in graph.names) e
      ∙ number-name graph.names sound.distinct b [] lb

  -- what has a component was entered
  has_number : (x : List ℕ) (cs : List (List ℕ)) (y : List ℕ) → IsChain (components_under graph) x cs y
      → number_in graph.names x < length graph.names
  has_number x cs y chain = by (cases_lt (number_in graph.names x) (length graph.names))
    where
      first : (cs : List (List ℕ)) → IsChain (components_under graph) x cs y
          → (c : List ℕ) × Contains (components_under graph x) c
      first [] h = (y, h)
      first (c ∷ cs) h = (c, h.0)

      by : (number_in graph.names x < length graph.names) ⊎ (length graph.names ≤ number_in graph.names x)
          → number_in graph.names x < length graph.names
      by (inl l) = l
      by (inr l) =
          let none : components_under graph x ≡ [] =
          ap (map (λ k. get_or graph.names k []))
          (none_past graph.components (length graph.names) sound.few (number_in graph.names x) l) in
          let c = first cs chain in
          absurd (subst (IsMember c.0) none (IsMember-from_Contains (components_under graph x) c.0 c.1))

  pub acyclic-under : IsAcyclic (components_under graph)
  acyclic-under x leads =
      let l = has_number x leads.0 x leads.1 in
      let own : get_or graph.names (number_in graph.names x) [] ≡ x =
      get_or_default graph.names (number_in graph.names x) [] x l ∙ name-number graph.names x in
      sound.order.acyclic (number_in graph.names x)
      (leads_to_of_named (components_of graph.components) (components_under graph) (λ k. get_or graph.names k [])
      (λ k. k < length graph.names) stays_named under_name one_number (number_in graph.names x)
      (number_in graph.names x) l l
      (subst (λ n. LeadsTo (components_under graph) n n) (sym own) leads))
