-- Edges by their places: what joins them and what cuts them leave in the lists.
use Rattle.std.proofs.Common.{◌≡◌, ℕ, ◌==◌, ◌<◌, ◌||◌, Bool, true, false, not, cond, List, [], ◌∷◌, ◌++◌, length, map, filter, set, eqb, refl, ap, sym, ◌∙◌, ⊎_elim, eqb-true, eq-eqb, ne_eqb}
use Rattle.std.proofs.lemmas.Bool.{cases_Bool, both_ways, false_from_ne_true}
use Rattle.std.proofs.lemmas.List.{get_or-set_same, get_or-set_other}
use Rattle.std.specs.List.{list_any}
use Rattle.scr_links.specs.Edges.{Edge}
use Rattle.scr_links.specs.Places.{has, without}
use Rattle.scr_links.specs.Chains.{Chained, list_of}
use Rattle.scr_links.specs.Ends.{pair_at}
use Rattle.scr_links.specs.Kept.{edge_at, with_source, with_dependant}
use Rattle.scr_links.specs.declared.links.Pair.{Pair}
use Rattle.scr_links.proofs.Lists.{filter-picks, filter-drops, has-filter, filter-has, filter-push, filter-agree, filter-without, filter-unpicked, append-nil, without-absent}

-- ---- the edges at a list of places

module _ {A : Type 0} (shown : ℕ → A) where
  picked : (b : Bool) (p : ℕ) (places : List ℕ)
      → cond b (shown p ∷ map shown places) (map shown places) ≡ map shown (cond b (p ∷ places) places)
  picked true p places = refl
  picked false p places = refl

  filter-shown : (test : A → Bool) (places : List ℕ)
      → filter test (map shown places) ≡ map shown (filter (λ p. test (shown p)) places)
  filter-shown test [] = refl
  filter-shown test (p ∷ places) =
      ap (λ (these : List A). cond (test (shown p)) (shown p ∷ these) these) (filter-shown test places)
      ∙ picked (test (shown p)) p (filter (λ q. test (shown q)) places)

  map-shown : {B : Type 0} (f : A → B) (places : List ℕ) → map f (map shown places) ≡ map (λ p. f (shown p)) places
  map-shown f [] = refl
  map-shown {B} f (p ∷ places) = ap (λ (these : List B). f (shown p) ∷ these) (map-shown f places)

  pub map-push : (places : List ℕ) (last : ℕ) → map shown (places ++ last ∷ []) ≡ map shown places ++ shown last ∷ []
  map-push [] last = refl
  map-push (p ∷ places) last = ap (λ (these : List A). shown p ∷ these) (map-push places last)

  any-shown : (test : A → Bool) (places : List ℕ)
      → list_any test (map shown places) ≡ list_any (λ p. test (shown p)) places
  any-shown test [] = refl
  any-shown test (p ∷ places) = ap (λ (b : Bool). test (shown p) || b) (any-shown test places)

module _ (pairs : List Pair) where
  pub is_edge-at : (id : ℕ) (places : List ℕ) → list_any (λ e. e.id == id) (map (edge_at pairs) places) ≡ has id places
  unfolding has
  is_edge-at id places = any-shown (edge_at pairs) (λ e. e.id == id) places

  pub edges_without-at : (id : ℕ) (places : List ℕ)
      → filter (λ e. not (e.id == id)) (map (edge_at pairs) places) ≡ map (edge_at pairs) (without id places)
  unfolding without
  edges_without-at id places = filter-shown (edge_at pairs) (λ e. not (e.id == id)) places

  pub sources-at : (number : ℕ) (places : List ℕ)
      → map {B = ℕ × ℕ} (λ e. (e.source, e.id)) (filter (λ e. e.dependant == number) (map (edge_at pairs) places))
      ≡ map (λ p. ((pair_at pairs p).source, p)) (with_dependant pairs number places)
  sources-at number places =
      ap (map {B = ℕ × ℕ} (λ (e : Edge). (e.source, e.id))) (filter-shown (edge_at pairs)
      (λ e. e.dependant == number) places)
      ∙ map-shown (edge_at pairs) {B = ℕ × ℕ} (λ e. (e.source, e.id)) (with_dependant pairs number places)

  pub dependants-at : (number : ℕ) (places : List ℕ)
      → map {B = ℕ × ℕ} (λ e. (e.dependant, e.id)) (filter (λ e. e.source == number) (map (edge_at pairs) places))
      ≡ map (λ p. ((pair_at pairs p).dependant, p)) (with_source pairs number places)
  dependants-at number places =
      ap (map {B = ℕ × ℕ} (λ (e : Edge). (e.dependant, e.id))) (filter-shown (edge_at pairs)
      (λ e. e.source == number) places)
      ∙ map-shown (edge_at pairs) {B = ℕ × ℕ} (λ e. (e.dependant, e.id)) (with_source pairs number places)

  pub ids-at : (places : List ℕ) → map (λ e. e.id) (map (edge_at pairs) places) ≡ places
  ids-at [] = refl
  ids-at (p ∷ places) = ap (λ (these : List ℕ). p ∷ these) (ids-at places)

-- ---- the lists of one of the two numbers

module _ (key : Pair → ℕ) (pairs : List Pair) (places : List ℕ) (before now : Chained)
    (listed : (number : ℕ) → list_of before number ≡ filter (λ x. key (pair_at pairs x) == number) places)
    (place : ℕ) where
  -- a place that is picked by no list is in none
  pub listed_nowhere : has place places ≡ false → (number : ℕ) → has place (list_of before number) ≡ false
  listed_nowhere h number =
      ap (has place) (listed number)
      ∙ false_from_ne_true _ (λ t. both_ways _ h (has-filter (λ x. key (pair_at pairs x) == number) place places t))

  -- a place is in the list of its number
  pub listed_there : has place places ≡ true → has place (list_of before (key (pair_at pairs place))) ≡ true
  listed_there h =
      ap (has place) (listed (key (pair_at pairs place)))
      ∙ filter-has (λ x. key (pair_at pairs x) == key (pair_at pairs place)) place places h (eq-eqb _ _ refl)

  module _ (pair : Pair) (low : place < length pairs) (new : has place places ≡ false)
      (appended : list_of now (key pair) ≡ list_of before (key pair) ++ place ∷ [])
      (others : (number : ℕ) → eqb number (key pair) ≡ false → list_of now number ≡ list_of before number) where
    pub pair_elsewhere : (x : ℕ) → has x places ≡ true → pair_at (set pairs place pair) x ≡ pair_at pairs x
    pair_elsewhere x h =
        get_or-set_other pairs place x pair (record { source = 0; dependant = 0 })
        (λ e. both_ways (has x places) (rw e new) h)

    pub pair_there : pair_at (set pairs place pair) place ≡ pair
    pair_there = get_or-set_same pairs place pair (record { source = 0; dependant = 0 }) low

    listed_before : (number : ℕ)
        → list_of before number ≡ filter (λ x. key (pair_at (set pairs place pair) x) == number) places
    listed_before number =
        listed number
        ∙ filter-agree (λ x. key (pair_at pairs x) == number)
        (λ x. key (pair_at (set pairs place pair) x) == number) places
        (λ x h. ap (λ (p : Pair). key p == number) (sym (pair_elsewhere x h)))

    pub listed_joined : (number : ℕ)
        → list_of now number ≡ filter (λ x. key (pair_at (set pairs place pair) x) == number) (places ++ place ∷ [])
    listed_joined number =
        let test : ℕ → Bool = λ x. key (pair_at (set pairs place pair) x) == number in
        let here : test place ≡ eqb (key pair) number = ap (λ (p : Pair). key p == number) pair_there in
        ⊎_elim
        (λ t.
        let same : number ≡ key pair = eqb-true number (key pair) t in
        let mine : test place ≡ true = here ∙ eq-eqb (key pair) number (sym same) in
        ap (list_of now) same ∙ appended
        ∙ ap (λ (n : ℕ). list_of before n ++ place ∷ []) (sym same)
        ∙ ap (λ (these : List ℕ). these ++ place ∷ []) (listed_before number)
        ∙ ap (λ (these : List ℕ). filter test places ++ these) (sym (filter-picks test place [] mine))
        ∙ sym (filter-push test places place))
        (λ f.
        let mine : test place ≡ false =
        here ∙ ne_eqb (key pair) number (λ e. both_ways _ f (eq-eqb number (key pair) (sym e))) in
        others number f ∙ listed_before number ∙ sym (append-nil (filter test places))
        ∙ ap (λ (these : List ℕ). filter test places ++ these) (sym (filter-drops test place [] mine))
        ∙ sym (filter-push test places place))
        (cases_Bool (eqb number (key pair)))

  module _ (removed : list_of now (key (pair_at pairs place))
      ≡ without place (list_of before (key (pair_at pairs place))))
      (others : (number : ℕ) → eqb number (key (pair_at pairs place)) ≡ false
      → list_of now number ≡ list_of before number) where
    pub listed_cut : (number : ℕ)
        → list_of now number ≡ filter (λ x. key (pair_at pairs x) == number) (without place places)
    listed_cut number =
        let test : ℕ → Bool = λ x. key (pair_at pairs x) == number in
        let mine : ℕ = key (pair_at pairs place) in
        ⊎_elim
        (λ t.
        let same : number ≡ mine = eqb-true number mine t in
        ap (list_of now) same ∙ removed ∙ ap (λ (n : ℕ). without place (list_of before n)) (sym same)
        ∙ ap (without place) (listed number) ∙ sym (filter-without place test places))
        (λ f.
        let not_mine : test place ≡ false = ne_eqb mine number (λ e. both_ways _ f (eq-eqb number mine (sym e))) in
        others number f ∙ listed number
        ∙ sym (without-absent place (filter test places) (filter-unpicked test place places not_mine))
        ∙ sym (filter-without place test places))
        (cases_Bool (eqb number mine))
