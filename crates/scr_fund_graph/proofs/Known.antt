-- A fund whose components are only those that are known: by them it holds itself exactly where it does by all of them.
use Rattle.std.proofs.Common.{◌≡◌, ◌⊎◌, ℕ, ℤ, ◌+◌, ◌<◌, ◌≤◌, Bool, true, false, cond, ◌||◌, IsTrue, List, [], ◌∷◌, ◌++◌, filter, map, take, length, get_or, All, Option, Some, None, refl, sym, ap, ◌∙◌, inl, inr, arith}
use Rattle.std.specs.List.{list_any}
use Rattle.std.proofs.lemmas.Bool.{cases_Bool}
use Rattle.std.proofs.lemmas.List.{append-nil, map-append}
use Rattle.std.proofs.lemmas.List.Elements.{filter_more, filter_passes}
use Rattle.scr_funds.specs.Chains.{LeadsTo}
use Rattle.scr_funds.specs.Components.{components_of, size_of}
use Rattle.scr_funds.specs.Paths.{path_within}
use Rattle.scr_tables.specs.Names.{same_name}
use Rattle.scr_tables.proofs.TableRows.{same_name-itself, same_name-is, same_or_other}
use Rattle.scr_fund_graph.specs.Graph.{Graph, number_in, entered_in, components_under, components_after, is_known, known_among}
use Rattle.scr_fund_graph.proofs.DeadEnds.{none_left, leads_left, path_left}
use Rattle.scr_fund_graph.proofs.Graphs.{AreEnteredOr, after-own, after-other, none_past}
use Rattle.scr_fund_graph.proofs.Numbering.{number-new}

or_false : (a b : Bool) → (a || b) ≡ false → (a ≡ false) × (b ≡ false)
or_false true b e = absurd (cc)
or_false false b e = (refl, e)

filter-names : (live : List ℕ → Bool) (components : List (List ℕ × ℤ))
    → map (λ c. c.0) (filter (λ c. live c.0) components) ≡ filter live (map (λ c. c.0) components)
filter-names live [] = refl
filter-names live (c ∷ cs) = by (cases_Bool (live c.0)) (filter-names live cs)
  where
    by : (live c.0 ≡ true) ⊎ (live c.0 ≡ false) → map (λ c. c.0) (filter (λ c. live c.0) cs) ≡ filter live (map (λ c. c.0) cs)
        → map (λ c. c.0) (filter (λ c. live c.0) (c ∷ cs)) ≡ filter live (map (λ c. c.0) (c ∷ cs))
    by (inl e) rest = rw e (ap (λ ns. c.0 ∷ ns) rest)
    by (inr e) rest = rw e rest

module _ (graph : Graph) (few : size_of graph.components ≤ length graph.names) (fund : List ℕ) (components : List (List ℕ × ℤ)) where
  abbrev known : List (List ℕ × ℤ)
  known = known_among fund components graph

  pub all_known : AreEnteredOr fund known graph
  all_known = filter_passes (λ c. is_known fund graph c.0) components

  each : (x : List ℕ) → (components_after fund known graph x ≡ components_after fund components graph x)
      ⊎ (components_after fund known graph x ≡ filter (is_known fund graph) (components_after fund components graph x))
  each x = same_or_other x fund
      (λ e. inr (after-own fund known graph x e ∙ filter-names (is_known fund graph) components
      ∙ sym (ap (filter (is_known fund graph)) (after-own fund components graph x e))))
      (λ e. inl (after-other fund known graph x e ∙ sym (after-other fund components graph x e)))

  ends : (x : List ℕ) → is_known fund graph x ≡ false → components_after fund components graph x ≡ []
  ends x unknown =
      let both = or_false (same_name x fund) (entered_in graph x) unknown in
      let last = number-new graph.names x both.1 in
      after-other fund components graph x both.0
      ∙ ap (map (λ k. get_or graph.names k [])) (none_past graph.components (length graph.names) few (number_in graph.names x) (omega (arith, last)))

  own : is_known fund graph fund ≡ true
  own = ap (λ t. t || entered_in graph fund) (same_name-itself fund)

  pub known_path : (most : ℕ) → path_within same_name (components_after fund known graph) most fund fund
      ≡ path_within same_name (components_after fund components graph) most fund fund
  known_path most = path_left same_name same_name-is (components_after fund components graph) (components_after fund known graph) (is_known fund graph) each ends fund own most fund

  pub known_none : (x : List ℕ) → components_after fund components graph x ≡ [] → components_after fund known graph x ≡ []
  known_none = none_left same_name same_name-is (components_after fund components graph) (components_after fund known graph) (is_known fund graph) each ends fund own

  pub known_apart : ¬ LeadsTo (components_after fund known graph) fund fund → ¬ LeadsTo (components_after fund components graph) fund fund
  known_apart none leads = none (leads_left same_name same_name-is (components_after fund components graph) (components_after fund known graph) (is_known fund graph) each ends fund own fund leads)

-- ---- the numbers of those that are known, one after another

kept_or_not : (t : Bool) (n k : ℕ) → Some k ≡ cond t (Some n) None → (t ≡ true) × (k ≡ n)
kept_or_not true n k e = (refl, cc)
kept_or_not false n k e = absurd (cc)

left_out : (t : Bool) (n : ℕ) → None ≡ cond t (Some n) None → t ≡ false
left_out true n e = absurd (cc)
left_out false n e = refl

module _ (graph : Graph) (fund : List ℕ) (components : List (List ℕ × ℤ)) (k : ℕ) (c : List ℕ × ℤ) (within : k < length components) (is : c ≡ get_or components k c) (numbers : List ℕ) where
  abbrev number_of : List ℕ × ℤ → ℕ
  number_of x = number_in graph.names x.0

  abbrev numbers_of : ℕ → List ℕ
  numbers_of n = map number_of (known_among fund (take n components) graph)

  module _ (so_far : numbers ≡ numbers_of k) where
    more : (t : Bool) → is_known fund graph c.0 ≡ t → numbers_of (k + 1) ≡ numbers ++ map number_of (cond t (c ∷ []) [])
    more t e =
        ap (map number_of) (filter_more (λ x. is_known fund graph x.0) components k c within)
        ∙ map-append number_of (known_among fund (take k components) graph) (cond (is_known fund graph (get_or components k c).0) (get_or components k c ∷ []) [])
        ∙ ap (λ x. numbers_of k ++ map number_of (cond (is_known fund graph x.0) (x ∷ []) [])) (sym is)
        ∙ ap (λ u. numbers_of k ++ map number_of (cond u (c ∷ []) [])) e
        ∙ ap (λ ns. ns ++ map number_of (cond t (c ∷ []) [])) (sym so_far)

    pub next-known : (number : ℕ) → Some number ≡ cond (is_known fund graph c.0) (Some (number_in graph.names c.0)) None → (numbers ++ number ∷ []) ≡ numbers_of (k + 1)
    next-known number told =
        let both = kept_or_not (is_known fund graph c.0) (number_in graph.names c.0) number told in
        ap (λ n. numbers ++ n ∷ []) both.1 ∙ sym (more true both.0)

    pub next-unknown : None ≡ cond (is_known fund graph c.0) (Some (number_in graph.names c.0)) None → numbers ≡ numbers_of (k + 1)
    next-unknown told = sym (append-nil numbers) ∙ sym (more false (left_out (is_known fund graph c.0) (number_in graph.names c.0) told))
