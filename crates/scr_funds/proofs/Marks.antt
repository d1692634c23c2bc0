-- Marks of what was ever a component.
use Rattle.std.proofs.Common.{◌≡◌, ◌⊎◌, ℕ, ◌<◌, ◌≤◌, All, Bool, true, false, List, [], ◌∷◌, length, get_or, set, Contains, refl, sym, ap, subst, ◌∙◌, inl, inr, arith}
use Rattle.std.proofs.lemmas.Bool.{cases_lt, cases_eq}
use Rattle.std.proofs.lemmas.List.Elements.{All-contains}
use Rattle.std.proofs.lemmas.List.{get_or-set_same, get_or-set_other, length-set, set_past}
use Rattle.scr_funds.specs.Chains.{IsAcyclic, IsChain, LeadsTo}
use Rattle.scr_funds.specs.Components.{AreBelow, Components, components_of, components_with, number_above, size_of, with_components, with_edges}
use Rattle.scr_funds.specs.Inside.{IsMarkedOrder}
use Rattle.scr_funds.specs.Marks.{IsMarked, KeepsMarks, with_marks}
use Rattle.scr_funds.proofs.Members.{IsMember, IsMember-from_Contains, Contains-from_IsMember, All-from_members}
use Rattle.scr_funds.proofs.Rows.{with-own, with-other, above_members, components_of-with_edges, size_of-with_edges, order_added, order_none, order_put_back, order_removed, edges_put_back, removed_or_same}

pub length-with_marks : (numbers : List ℕ) (marks : List Bool) → length (with_marks numbers marks) ≡ length marks
length-with_marks [] marks = refl
length-with_marks (n ∷ ns) marks = length-with_marks ns (set marks n true) ∙ length-set marks n true

keeps-one : (marks : List Bool) (n : ℕ) → KeepsMarks marks (set marks n true)
keeps-one marks n x h = by (cases_eq x n) (cases_lt n (length marks))
  where
    by : (x ≡ n) ⊎ (x ≡ n → ⊥) → (n < length marks) ⊎ (length marks ≤ n) → IsMarked (set marks n true) x
    by (inl e) (inl l) = ap (λ k. get_or (set marks n true) k false) e ∙ get_or-set_same marks n true false l
    by (inl e) (inr l) = ap (λ ms. get_or ms x false) (set_past marks n true l) ∙ h
    by (inr apart) l = get_or-set_other marks n x true false apart ∙ h

pub keeps-with_marks : (numbers : List ℕ) (marks : List Bool) → KeepsMarks marks (with_marks numbers marks)
keeps-with_marks [] marks x h = h
keeps-with_marks (n ∷ ns) marks x h = keeps-with_marks ns (set marks n true) x (keeps-one marks n x h)

-- each of the numbers has its mark
pub marked-own : (numbers : List ℕ) (marks : List Bool) → ((x : ℕ) → IsMember x numbers → x < length marks)
    → (x : ℕ) → IsMember x numbers → IsMarked (with_marks numbers marks) x
marked-own [] marks below x m = absurd m
marked-own (n ∷ ns) marks below x (inl e) =
    keeps-with_marks ns (set marks n true) x
    (ap (λ k. get_or (set marks n true) k false) e ∙ get_or-set_same marks n true false (below n (inl refl)))
marked-own (n ∷ ns) marks below x (inr m) =
    marked-own ns (set marks n true)
    (λ y k. subst (λ size. y < size) (sym (length-set marks n true)) (below y (inr k))) x m

-- ---- no way back

-- the last step of a chain
last_step : {A : Type 0} (components : A → List A) (a b : A) (between : List A) → IsChain components a between b
    → (x : A) × Contains (components x) b
last_step components a b [] h = (a, h)
last_step components a b (c ∷ cs) h = last_step components c b cs h.1

-- what is no component of any fund, and of none that it gets itself, does not lead to itself
pub no_way_back : (from : ℕ) (members : List ℕ) (all : Components)
    → ((holder : ℕ) → ¬ Contains (components_of all holder) from)
    → ¬ Contains members from → ¬ LeadsTo (components_with from members all) from from
no_way_back from members all none own leads = by (cases_eq last.0 from)
  where
    last : (x : ℕ) × Contains (components_with from members all x) from
    last = last_step (components_with from members all) from from leads.0 leads.1

    by : (last.0 ≡ from) ⊎ (last.0 ≡ from → ⊥) → ⊥
    by (inl e) =
        own (subst (λ row. Contains row from) (ap (components_with from members all) e ∙ with-own from members all)
        last.1)
    by (inr apart) = none last.0 (subst (λ row. Contains row from) (with-other from members all last.0 apart) last.1)

-- ---- an order with its marks

pub marks_none : (marks : List Bool) → IsMarkedOrder [] marks
marks_none marks = record {
  order = order_none;
  marked = λ fund component h. absurd (IsMember-from_Contains [] component h);
  long = omega arith;
}

module _ (all : Components) (marks : List Bool) (before : IsMarkedOrder all marks) where
  pub marks_longer : (more : List Bool) → KeepsMarks marks more → length marks ≤ length more → IsMarkedOrder all more
  marks_longer more keeps longer = record {
    order = before.order;
    marked = λ fund component h. keeps component (before.marked fund component h);
    long = let long = before.long in omega arith;
  }

  pub marks_removed : (from : ℕ) → IsMarkedOrder (with_components from [] all) marks
  marks_removed from = record {
    order = order_removed from all before.order;
    marked = λ fund component h. marked fund component h (removed_or_same from all fund);
    long = let long = before.long in omega (arith, length-set all from []);
  }
    where
      marked : (fund component : ℕ) → Contains (components_of (with_components from [] all) fund) component
          → (components_of (with_components from [] all) fund ≡ [])
          ⊎ (components_of (with_components from [] all) fund ≡ components_of all fund)
          → IsMarked marks component
      marked fund component h (inl none) = absurd
          (IsMember-from_Contains [] component (subst (λ row. Contains row component) none h))
      marked fund component h (inr same) = before.marked fund component (subst (λ row. Contains row component) same h)

  pub marks_replaced : (from : ℕ) (members : List ℕ) → ¬ LeadsTo (components_with from members all) from from
      → number_above from members ≤ length marks
      → IsMarkedOrder (with_edges from members all) (with_marks members marks)
  marks_replaced from members apart above = record {
    order = order_added from members all before.order apart;
    marked = λ fund component h.
        marked fund component (subst (λ row. Contains row component) (components_of-with_edges from members all fund) h)
        (cases_eq fund from);
    long = let long = before.long in
        omega (arith, size_of-with_edges from members all, length-with_marks members marks);
  }
    where
      below : (x : ℕ) → IsMember x members → x < length marks
      below x m = let most = above_members from members x m in omega arith

      marked : (fund component : ℕ) → Contains (components_with from members all fund) component
          → (fund ≡ from) ⊎ (fund ≡ from → ⊥)
          → IsMarked (with_marks members marks) component
      marked fund component h (inl e) =
          marked-own members marks below component
          (IsMember-from_Contains members component
          (subst (λ row. Contains row component) (ap (components_with from members all) e ∙ with-own from members all)
          h))
      marked fund component h (inr n) =
          keeps-with_marks members marks component
          (before.marked fund component (subst (λ row. Contains row component) (with-other from members all fund n) h))

  -- what is below the size has a place for its mark
  pub below_marks : (from : ℕ) (edges : List ℕ) → AreBelow (size_of all) from edges → (x : ℕ) → IsMember x edges
      → x < length marks
  below_marks from edges ends x m =
      let both = All-contains (λ member. (from < size_of all) × (member < size_of all)) edges x ends
      (Contains-from_IsMember edges x m) in
      let below : x < size_of all = both.1 in
      let long = before.long in
      omega arith

  pub marks_put_back : (from : ℕ) (edges : List ℕ) → AreBelow (size_of all) from edges
      → IsAcyclic (components_of (with_components from edges all))
      → IsMarkedOrder (with_components from edges all) (with_marks edges marks)
  marks_put_back from edges ends acyclic = record {
    order = order_put_back from edges all ends before.order acyclic;
    marked = λ fund component h. marked fund component h (cases_eq fund from);
    long = let long = before.long in omega (arith, length-set all from edges, length-with_marks edges marks);
  }
    where
      marked : (fund component : ℕ) → Contains (components_of (with_components from edges all) fund) component
          → (fund ≡ from) ⊎ (fund ≡ from → ⊥)
          → IsMarked (with_marks edges marks) component
      marked fund component h (inl e) =
          marked-own edges marks (below_marks from edges ends) component
          (IsMember-from_Contains edges component (subst (λ row. Contains row component)
          (ap (components_of (with_components from edges all)) e ∙ edges_put_back from edges all ends) h))
      marked fund component h (inr n) =
          keeps-with_marks edges marks component
          (before.marked fund component
          (subst (λ row. Contains row component) (get_or-set_other all from fund edges [] n) h))

-- the ends of edges by their places, as a call asks for them
pub all_below : (numbers : List ℕ) (size : ℕ) → ((x : ℕ) → IsMember x numbers → x < size)
    → All (λ number. number < size) numbers
all_below numbers size below = All-from_members (λ number. number < size) numbers below
