-- What the first reckoning has made, figure by figure.
use Rattle.std.proofs.Common.{◌≡◌, ◌⊎◌, inl, inr, ℕ, ◌≤◌, ◌++◌, Bool, true, false, nat_eq, List, [], ◌∷◌, map, filter, Some, Contains, slice_get, if◌then◌else◌, refl, sym, ap, subst, ◌∙◌}
use Rattle.std.specs.List.{AllByRecursion}
use Rattle.std.proofs.lemmas.Bool.{eqb-true, eq-eqb, ne_eqb}
use Rattle.scr_tables.proofs.TableRows.{passes_or_fails}
use Rattle.scr_funds.proofs.Members.{IsMember, Contains-from_IsMember, IsMember-from_Contains}
use Rattle.scr_factors.specs.Values.{FactorValues}
use Rattle.scr_figure_ids.specs.Families.{name_of, table_of}
use Rattle.scr_figure_ids.specs.Numbers.{IsNumbered, StandsAt, names_in}
use Rattle.scr_links.specs.Edges.{Edge}
use Rattle.scr_ids.specs.Ranges.{Numbered}
use Rattle.scr_sheet.specs.declared.sheet.BalanceSheet.{BalanceSheet}
use Rattle.scr_sheet.specs.Validity.{Valid}
use Rattle.scr_nodes.specs.Live.{is_live}
use Rattle.scr_nodes.specs.Sources.{sources_of}
use Rattle.scr_nodes.specs.declared.node.Node.{Node}
use Rattle.scr_nodes.proofs.LiveSources.{IsLive, sources-live}
use Rattle.scr_reachability.specs.Linked.{AreAt, AreLinkedOf, AreNumbers, edges_to, sources_in}
use Rattle.scr_tree.specs.Figures.{AreKnownOf, HaveFigures, IsPutRight, reckoning_of}
use Rattle.scr_tree.specs.First.{IsLinkedBefore}
use Rattle.scr_tree.specs.Points.{is_linked}
use Rattle.scr_tree.specs.Turns.{IsBefore, Turn, next, stage_of, turn, turn_of}
use Rattle.scr_partial_sums.specs.declared.figure.Figure.{Figure}
use Rattle.scr_tree.proofs.FirstSources.{sources-before}
use Rattle.scr_tree.proofs.Known.{known-have, known-put, known-weaker}
use Rattle.scr_tree.proofs.Turns.{TakesTurn, all-done, family-within, its-turn, later, none-done, not-before, one-turn, step-back}
use Rattle.scr_tree.specs.Graphs.{graph_of}

-- ---- edges to a number

-- an edge is among those to its dependant, and these are among all
to-own : (edges : List Edge) (e : Edge) → IsMember e edges → IsMember e (edges_to edges e.dependant)
to-own [] e has = absurd has
to-own (x ∷ edges) e (inl same) =
    subst (λ d. IsMember e (filter (λ (y : Edge). nat_eq y.dependant d) (x ∷ edges))) (ap (λ (y : Edge). y.dependant) (sym same))
    (here (nat_eq x.dependant x.dependant) (eq-eqb x.dependant x.dependant refl))
  where
    here : (b : Bool) → b ≡ true → IsMember e (if b then x ∷ edges_to edges x.dependant else edges_to edges x.dependant)
    here true h = inl same
    here false h = absurd (cc)
to-own (x ∷ edges) e (inr has) = more (nat_eq x.dependant e.dependant) (to-own edges e has)
  where
    more : (b : Bool) → IsMember e (edges_to edges e.dependant)
        → IsMember e (if b then x ∷ edges_to edges e.dependant else edges_to edges e.dependant)
    more true h = inr h
    more false h = h

from-own : (edges : List Edge) (number : ℕ) (e : Edge) → IsMember e (edges_to edges number) → IsMember e edges
from-own [] number e has = absurd has
from-own (x ∷ edges) number e has = by (nat_eq x.dependant number) (λ h. from-own edges number e h) has
  where
    by : (b : Bool) → (IsMember e (edges_to edges number) → IsMember e edges)
        → IsMember e (if b then x ∷ edges_to edges number else edges_to edges number) → IsMember e (x ∷ edges)
    by true rest (inl same) = inl same
    by true rest (inr h) = inr (rest h)
    by false rest h = inr (rest h)

-- no edge leads to the number
pub none-linked : (edges : List Edge) (number : ℕ) → ((e : Edge) → IsMember e edges → e.dependant ≡ number → ⊥)
    → sources_in edges number ≡ []
none-linked [] number none = refl
none-linked (x ∷ edges) number none =
    by (nat_eq x.dependant number) (ne_eqb x.dependant number (none x (inl refl)))
    (none-linked edges number (λ e has. none e (inr has)))
  where
    by : (b : Bool) → b ≡ false → sources_in edges number ≡ []
        → map (λ (e : Edge). e.source) (if b then x ∷ edges_to edges number else edges_to edges number) ≡ []
    by true h rest = absurd (cc)
    by false h rest = rest

-- what leads to another number than this was there before
pub was-there : (old now : List Edge) (number : ℕ) → ((other : ℕ) → nat_eq number other ≡ false → edges_to now other ≡ edges_to old other)
    → (e : Edge) → IsMember e now → (e.dependant ≡ number → ⊥) → IsMember e old
was-there old now number kept e has other =
    from-own old e.dependant e
    (subst (IsMember e) (kept e.dependant (ne_eqb number e.dependant (λ same. other (sym same)))) (to-own now e has))

-- ---- one figure more

module _ (sheet : BalanceSheet) (valid : Valid sheet) (places : Numbered) (numbered : IsNumbered sheet places)
    (numbers : AreNumbers (graph_of sheet) (StandsAt sheet places) places.size) where
  pub same-turn : (t : Turn) (n node : Node) → is_live sheet n ≡ true → TakesTurn sheet t n → TakesTurn sheet t node → n ≡ node
  same-turn t n node live x y = one-turn sheet t n node x y (family-within sheet places numbered n live)

  -- it is linked
  pub linked-next : (old now : List Edge) (t : Turn) (node : Node) (number : ℕ) (sources : List ℕ)
      → AreLinkedOf (graph_of sheet) (StandsAt sheet places) old (IsLinkedBefore sheet t) → TakesTurn sheet t node → is_live sheet node ≡ true
      → is_linked node ≡ true → StandsAt sheet places node number → AreAt (StandsAt sheet places) sources (sources_of sheet node)
      → sources_in now number ≡ sources_in old number ++ sources
      → ((other : ℕ) → nat_eq number other ≡ false → edges_to now other ≡ edges_to old other)
      → AreLinkedOf (graph_of sheet) (StandsAt sheet places) now (IsLinkedBefore sheet (next t))
  linked-next old now t node number sources linked turn alive own_links at are made kept = record {
    done = λ n m stands live before. done n m stands live before.1 (step-back sheet t n before.0);
    only = λ e has. only e (IsMember-from_Contains now e has);
  }
    where
      free : sources_in old number ≡ []
      free = none-linked old number (λ e has same.
          let l = linked.only e (Contains-from_IsMember old e has) in
          let one : l.0 ≡ node = numbers.exact number l.0 node (subst (StandsAt sheet places l.0) same l.1) at in
          not-before sheet valid t node turn (subst (IsBefore sheet t) one l.3.0))

      own : sources_in now number ≡ sources
      own = made ∙ ap (λ xs. xs ++ sources) free

      done : (n : Node) (m : ℕ) → StandsAt sheet places n m → is_live sheet n ≡ true → is_linked n ≡ true → IsBefore sheet t n ⊎ TakesTurn sheet t n
          → AreAt (StandsAt sheet places) (sources_in now m) (sources_of sheet n)
      done n m stands live links (inl before) =
          let other : number ≡ m → ⊥ =
          λ same. (let one : node ≡ n = numbers.exact m node n (subst (StandsAt sheet places node) same at) stands in
          not-before sheet valid t node turn (subst (IsBefore sheet t) (sym one) before)) in
          subst (λ es. AreAt (StandsAt sheet places) (map (λ (e : Edge). e.source) es) (sources_of sheet n))
          (sym (kept m (ne_eqb number m other))) (linked.done n m stands live (before, links))
      done n m stands live links (inr its) =
          let one : n ≡ node = same-turn t n node live its turn in
          let there : m ≡ number = numbers.only node m number (subst (λ k. StandsAt sheet places k m) one stands) at in
          subst (λ k. AreAt (StandsAt sheet places) (sources_in now k) (sources_of sheet n)) (sym there)
          (subst (λ k. AreAt (StandsAt sheet places) (sources_in now number) (sources_of sheet k)) (sym one)
          (subst (λ xs. AreAt (StandsAt sheet places) xs (sources_of sheet node)) (sym own) are))

      only : (e : Edge) → IsMember e now
          → (n : Node) × StandsAt sheet places n e.dependant × (is_live sheet n ≡ true) × IsLinkedBefore sheet (next t) n
      only e has = passes_or_fails (nat_eq e.dependant number)
          (λ same. (
            node,
            subst (StandsAt sheet places node) (sym (eqb-true e.dependant number same)) at,
            alive,
            (its-turn sheet t node turn, own_links),
          ))
          (λ apart.
          let other : e.dependant ≡ number → ⊥ =
          λ same. (let clash : true ≡ false = sym (eq-eqb e.dependant number same) ∙ apart in absurd (cc)) in
          let l = linked.only e (Contains-from_IsMember old e (was-there old now number kept e has other)) in
          (l.0, l.1, l.2, (later sheet t l.0 l.3.0, l.3.1)))

  -- a figure that rows or lists link
  pub linked-still : (edges : List Edge) (t : Turn) (node : Node)
      → AreLinkedOf (graph_of sheet) (StandsAt sheet places) edges (IsLinkedBefore sheet t) → TakesTurn sheet t node → is_live sheet node ≡ true
      → is_linked node ≡ false → AreLinkedOf (graph_of sheet) (StandsAt sheet places) edges (IsLinkedBefore sheet (next t))
  linked-still edges t node linked turn alive none = record {
    done = λ n m stands live before. done n m stands live before.1 (step-back sheet t n before.0);
    only = λ e has. let l = linked.only e has in (l.0, l.1, l.2, (later sheet t l.0 l.3.0, l.3.1));
  }
    where
      done : (n : Node) (m : ℕ) → StandsAt sheet places n m → is_live sheet n ≡ true → is_linked n ≡ true → IsBefore sheet t n ⊎ TakesTurn sheet t n
          → AreAt (StandsAt sheet places) (sources_in edges m) (sources_of sheet n)
      done n m stands live links (inl before) = linked.done n m stands live (before, links)
      done n m stands live links (inr its) =
          let one : n ≡ node = same-turn t n node live its turn in
          let clash : true ≡ false = sym links ∙ (ap is_linked one ∙ none) in absurd (cc)

  -- ---- the beginning and the end of all links

  pub links-none : (edges : List Edge) → edges ≡ [] → AreLinkedOf (graph_of sheet) (StandsAt sheet places) edges (IsLinkedBefore sheet (turn 0 0 0))
  links-none edges none = record {
    done = λ n m stands live before. absurd (none-done sheet n before.0);
    only = λ e has. absurd (IsMember-from_Contains [] e (subst (λ es. Contains es e) none has));
  }

  -- all are linked that neither rows nor lists link
  pub links-all : (edges : List Edge) → AreLinkedOf (graph_of sheet) (StandsAt sheet places) edges (IsLinkedBefore sheet (turn 7 0 153))
      → AreLinkedOf (graph_of sheet) (StandsAt sheet places) edges (λ n. is_linked n ≡ true)
  links-all edges is = record {
    done = λ n m stands live links. is.done n m stands live (all-done sheet places numbered n live, links);
    only = λ e has. let l = is.only e has in (l.0, l.1, l.2, l.3.1);
  }

module _ (factors : FactorValues) (sheet : BalanceSheet) (valid : Valid sheet) (places : Numbered) (numbered : IsNumbered sheet places)
    (numbers : AreNumbers (graph_of sheet) (StandsAt sheet places) places.size) where
  -- it is reckoned
  pub reckoned-next : (old now : List Figure) (t : Turn) (node : Node) (number : ℕ) → AreKnownOf (reckoning_of factors sheet) (StandsAt sheet places) old (IsBefore sheet t)
      → TakesTurn sheet t node → IsPutRight (reckoning_of factors sheet) (StandsAt sheet places) old now node number
      → AreKnownOf (reckoning_of factors sheet) (StandsAt sheet places) now (IsBefore sheet (next t))
  reckoned-next old now t node number known turn put =
      known-weaker (reckoning_of factors sheet) (StandsAt sheet places) now (λ n. IsBefore sheet t n ⊎ (n ≡ node)) (IsBefore sheet (next t))
      (λ n live before. by n live (step-back sheet t n before))
      (known-put (reckoning_of factors sheet) (StandsAt sheet places) places.size numbers old now (IsBefore sheet t) node number known put)
    where
      by : (n : Node) → is_live sheet n ≡ true → IsBefore sheet t n ⊎ TakesTurn sheet t n → IsBefore sheet t n ⊎ (n ≡ node)
      by n live (inl before) = inl before
      by n live (inr own) = inr (same-turn sheet valid places numbered numbers t n node live own turn)

  -- the sources of a figure whose turn it is are known
  pub known-sources : (figures : List Figure) (node : Node) (row : ℕ) → is_live sheet node ≡ true
      → slice_get (names_in sheet (table_of node)) row ≡ Some (name_of node) → 2 ≤ stage_of node
      → AreKnownOf (reckoning_of factors sheet) (StandsAt sheet places) figures (IsBefore sheet (turn_of node row)) → (sources : List ℕ)
      → AreAt (StandsAt sheet places) sources (sources_of sheet node)
      → HaveFigures (reckoning_of factors sheet) figures sources (sources_of sheet node)
  known-sources figures node row live named high known sources are =
      known-have (reckoning_of factors sheet) (StandsAt sheet places) figures (IsBefore sheet (turn_of node row)) known sources
      (sources_of sheet node) are
      (both (sources_of sheet node) (sources-live sheet valid node live) (sources-before sheet valid node live row named high))
    where
      both : (list : List Node) → AllByRecursion (IsLive sheet) list → AllByRecursion (IsBefore sheet (turn_of node row)) list
          → AllByRecursion (λ n. (is_live sheet n ≡ true) × IsBefore sheet (turn_of node row) n) list
      both [] a b = tt
      both (n ∷ list) a b = ((a.0, b.0), both list a.1 b.1)

  -- ---- the beginning

  pub none-reckoned : (figures : List Figure) → AreKnownOf (reckoning_of factors sheet) (StandsAt sheet places) figures (IsBefore sheet (turn 0 0 0))
  unfolding AreKnownOf
  none-reckoned figures = λ n m stands live before. absurd (none-done sheet n before)
