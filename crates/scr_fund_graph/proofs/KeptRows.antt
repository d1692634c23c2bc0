-- Components that are put back by their numbers.
use Rattle.std.proofs.Common.{◌≡◌, ◌⊎◌, ℕ, zero, suc, ℤ, ◌<◌, ◌≤◌, Bool, true, false, ◌&&◌, IsTrue, List, [], ◌∷◌, map, length, get_or, drop, refl, sym, ap, subst, ◌∙◌, inl, inr, arith}
use Rattle.std.specs.Prelude.{nat_lt}
use Rattle.std.specs.List.{list_any, IsDistinct}
use Rattle.std.proofs.lemmas.Bool.{cases_Bool, cases_eq, true≢false}
use Rattle.std.proofs.lemmas.List.{set-set, length-set}
use Rattle.scr_funds.specs.Chains.{LeadsTo, IsAcyclic}
use Rattle.scr_funds.specs.KeptEdges.{KeptEdges}
use Rattle.scr_funds.specs.Components.{Components, IsOrder, AreBelow, components_of, components_with, with_components, size_of}
use Rattle.scr_funds.proofs.Cycles.{acyclic_still}
use Rattle.scr_funds.proofs.Members.{IsMember, All-from_members}
use Rattle.scr_funds.proofs.Rows.{with-other, components_of-with_components}
use Rattle.scr_tables.specs.Names.{same_name}
use Rattle.scr_tables.proofs.TableRows.{same_name-is}
use Rattle.scr_fund_graph.specs.Graph.{Graph, number_in, entered_in, components_under, components_after}
use Rattle.scr_fund_graph.specs.KeptNumbers.{is_number, are_numbers}
use Rattle.scr_fund_graph.proofs.Graphs.{AreEntered, entered_or-from_entered, apart_numbered, under-put}
use Rattle.scr_fund_graph.proofs.Numbering.{number-name, number-new}

pub both_true : (a b : Bool) → (a && b) ≡ true → (a ≡ true) × (b ≡ true)
both_true true b e = (refl, e)
both_true false b e = absurd (true≢false (sym e))

-- the numbers from a place on
pub numbers-next : (most : ℕ) (numbers : List ℕ) (components : List (List ℕ × ℤ)) (graph : Graph) (k : ℕ) (d : List ℕ × ℤ) → length numbers ≡ length components → k < length numbers
    → are_numbers most (drop k numbers) (drop k components) graph
    ≡ (is_number most (get_or numbers k 0) (get_or components k d).0 graph && are_numbers most (drop (suc k) numbers) (drop (suc k) components) graph)
numbers-next most [] components graph k d long l = absurd (omega (arith, l))
numbers-next most (n ∷ numbers) [] graph k d long l = absurd (omega (arith, long))
numbers-next most (n ∷ numbers) (c ∷ components) graph zero d long l = refl
numbers-next most (n ∷ numbers) (c ∷ components) graph (suc k) d long l = numbers-next most numbers components graph k d (omega (arith, long)) (omega (arith, l))

pub numbers-none : (most : ℕ) (numbers : List ℕ) (components : List (List ℕ × ℤ)) (graph : Graph) → (length numbers ≡ length components → ⊥) → are_numbers most numbers components graph ≡ false
numbers-none most [] [] graph other = absurd (other refl)
numbers-none most [] (c ∷ components) graph other = refl
numbers-none most (n ∷ numbers) [] graph other = refl
numbers-none most (n ∷ numbers) (c ∷ components) graph other =
    let rest = numbers-none most numbers components graph (λ e. other (ap suc e)) in grind (arith, rest)

-- numbers below one that none of the names is past
module _ (names : List (List ℕ)) (all : Components) (distinct : IsDistinct same_name names) (most : ℕ) (few : most ≤ length names) where
  abbrev kept_in : Graph
  kept_in = record { names = names; components = all }

  -- a number that is told is that of the name, which was entered
  pub number-told : (number : ℕ) (name : List ℕ) → is_number most number name kept_in ≡ true
      → (number ≡ number_in names name) × (number < most) × (entered_in kept_in name ≡ true)
  number-told number name told = (own, below, there (cases_Bool (list_any (same_name name) names)))
    where
      below : number < most
      below = let l = (both_true (nat_lt number most) (same_name (get_or names number []) name) told).0 in grind (arith, l)

      own : number ≡ number_in names name
      own =
          sym (number-name names distinct number [] (omega (arith, few, below)))
          ∙ ap (number_in names) (same_name-is (get_or names number []) name (both_true (nat_lt number most) (same_name (get_or names number []) name) told).1)

      there : (list_any (same_name name) names ≡ true) ⊎ (list_any (same_name name) names ≡ false) → list_any (same_name name) names ≡ true
      there (inl e) = e
      there (inr e) = let last = number-new names name e in absurd (omega (arith, own, last, few, below))

  pub record AreTold (numbers : List ℕ) (components : List (List ℕ × ℤ)) : Type 0 where
    pub numbers_of : numbers ≡ map (λ c. number_in names c.0) components
    pub below : (n : ℕ) → IsMember n numbers → n < most
    pub entered : (c : List ℕ × ℤ) → IsMember c components → IsTrue (entered_in kept_in c.0)

  pub numbers-told : (numbers : List ℕ) (components : List (List ℕ × ℤ)) → are_numbers most numbers components kept_in ≡ true → AreTold numbers components
  numbers-told [] [] told = record { numbers_of = refl; below = λ n m. absurd m; entered = λ c m. absurd m }
  numbers-told [] (c ∷ components) told = absurd (true≢false (sym told))
  numbers-told (n ∷ numbers) [] told = absurd (true≢false (sym told))
  numbers-told (n ∷ numbers) (c ∷ components) told =
      let split = both_true (is_number most n c.0 kept_in) (are_numbers most numbers components kept_in) told in
      let first = number-told n c.0 split.0 in
      let rest = numbers-told numbers components split.1 in
      record {
        numbers_of = λ i. first.0 i ∷ rest.numbers_of i;
        below = λ k m. under first.1 rest.below k m;
        entered = λ d m. known first.2 rest.entered d m;
      }
    where
      under : n < most → ((k : ℕ) → IsMember k numbers → k < most) → (k : ℕ) → IsMember k (n ∷ numbers) → k < most
      under l rest k (inl e) = omega (arith, l, e)
      under l rest k (inr m) = rest k m

      known : IsTrue (entered_in kept_in c.0) → ((d : List ℕ × ℤ) → IsMember d components → IsTrue (entered_in kept_in d.0)) → (d : List ℕ × ℤ) → IsMember d (c ∷ components) → IsTrue (entered_in kept_in d.0)
      known own rest d (inl e) = subst (λ (x : List ℕ × ℤ). IsTrue (entered_in kept_in x.0)) (sym e) own
      known own rest d (inr m) = rest d m

module _ (names : List (List ℕ)) (all : Components) (distinct : IsDistinct same_name names) (few : size_of all ≤ length names) where
  abbrev graph_now : Graph
  graph_now = record { names = names; components = all }

  -- what is put back where the numbers are told
  module _ (order : IsOrder all) (fund : List ℕ) (components : List (List ℕ × ℤ)) (number : ℕ) (numbers : List ℕ)
      (fund_told : is_number (size_of all) number fund graph_now ≡ true) (told : are_numbers (size_of all) numbers components graph_now ≡ true)
      (apart : ¬ LeadsTo (components_after fund components graph_now) fund fund) where
    abbrev after : Components
    after = with_components number numbers all

    own : (number ≡ number_in names fund) × (number < size_of all) × (entered_in graph_now fund ≡ true)
    own = number-told names all distinct (size_of all) few number fund fund_told

    each : AreTold names all distinct (size_of all) few numbers components
    each = numbers-told names all distinct (size_of all) few numbers components told

    entered : AreEntered components graph_now
    entered = All-from_members (λ (c : List ℕ × ℤ). IsTrue (entered_in graph_now c.0)) components each.entered

    rows : components_of after ≡ components_with number numbers all
    rows = λ i k. components_of-with_components number numbers all own.1 k i

    pub own-entered : entered_in graph_now fund ≡ true
    own-entered = own.2

    pub back-below : AreBelow (size_of all) number numbers
    back-below = All-from_members (λ m. (number < size_of all) × (m < size_of all)) numbers (λ m h. (own.1, each.below m h))

    pub back-acyclic : IsAcyclic (components_of after)
    back-acyclic =
        subst IsAcyclic (sym rows)
        (acyclic_still (components_of all) (components_with number numbers all) number (λ x. cases_eq x number) (with-other number numbers all) order.acyclic
        (subst (λ n. ¬ LeadsTo (components_with n numbers all) n n) (sym own.0)
        (subst (λ ns. ¬ LeadsTo (components_with (number_in names fund) ns all) (number_in names fund) (number_in names fund)) (sym each.numbers_of)
        (apart_numbered names all distinct few order fund components (entered_or-from_entered fund components graph_now entered) apart))))

    pub back-under : components_under (record { names = names; components = after }) ≡ components_after fund components graph_now
    back-under =
        under-put names all distinct few order fund components own.2 entered after
        (rows ∙ (λ i. components_with (own.0 i) (each.numbers_of i) all))

    -- ---- taken off and put back at once

    module _ (order_now removed : Components) (same : order_now ≡ all) (gone : removed ≡ with_components number [] order_now)
        (edges : KeptEdges) (is : edges ≡ record { from = number; edges = numbers }) where
      left : removed ≡ with_components number [] all
      left = gone ∙ ap (with_components number []) same

      pub put-below : AreBelow (size_of removed) edges.from edges.edges
      put-below =
          subst (λ (k : KeptEdges). AreBelow (size_of removed) k.from k.edges) (sym is)
          (subst (λ n. AreBelow n number numbers) (sym (ap size_of left ∙ length-set all number [])) back-below)

      pub put-whole : with_components edges.from edges.edges removed ≡ after
      put-whole =
          ap (λ (k : KeptEdges). with_components k.from k.edges removed) is
          ∙ ap (with_components number numbers) left
          ∙ set-set all number [] numbers

      pub put-acyclic : IsAcyclic (components_of (with_components edges.from edges.edges removed))
      put-acyclic = subst (λ cs. IsAcyclic (components_of cs)) (sym put-whole) back-acyclic
