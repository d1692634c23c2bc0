-- A record that is taken up once rows and lists have followed: where figures stand, what is linked anew, and what is known yet.
use Rattle.std.proofs.Common.{◌≡◌, ◌⊎◌, inl, inr, ◌&&◌, ◌||◌, ℕ, ◌<◌, ◌≤◌, Bool, true, false, cond, not, nat_eq, List, [], ◌∷◌, length, map, Option, Some, None, Vec, Global, slice_get, Contains, IfSome, refl, sym, ap, subst, ◌∙◌, arith}
use Rattle.std.specs.Prelude.{IfNone}
use Rattle.std.specs.List.{AllByRecursion, IsDistinct}
use Rattle.std.specs.Option.{option_map_or}
use Rattle.scr_funds.proofs.Members.{All-from_members, IsMember, IsMember-from_Contains, IsMember-mapped, Contains-from_IsMember, at_member, each-from_members}
use Rattle.scr_links.specs.Edges.{Edge, Linked}
use Rattle.scr_reachability.specs.Marks.{MarkedNumbers}
use Rattle.scr_reachability.specs.declared.ranks.Due.{Due}
use Rattle.scr_factors.specs.Values.{FactorValues}
use Rattle.scr_sheet.specs.Records.{applied}
use Rattle.scr_sheet.specs.Validity.{Valid}
use Rattle.scr_sheet.specs.declared.edit.Edit.{Edit}
use Rattle.scr_sheet.specs.declared.sheet.BalanceSheet.{BalanceSheet}
use Rattle.scr_nodes.specs.Live.{is_live}
use Rattle.scr_nodes.specs.Sources.{sources_of}
use Rattle.scr_nodes.specs.declared.node.Node.{Node}
use Rattle.scr_book.specs.RolledSheets.{RolledSheet}
use Rattle.scr_figure_ids.specs.Numbers.{StandsAt}
use Rattle.scr_figure_ids.specs.declared.steps.Step.{Step}
use Rattle.scr_figure_ids.specs.declared.steps.Step.TheVariants as steps
use Rattle.scr_discounts.specs.declared.known.Rates.{Rates}
use Rattle.scr_discounts.specs.KeptRates.{all_rates, known_of}
use Rattle.scr_partial_sums.specs.declared.figure.Figure.{Figure}
use Rattle.scr_reachability.specs.LinkedDues.{AreDuesFor, AreRelinked, AreStarts, IsDueAt, IsLiveAt, numbers_of, sources_count}
use Rattle.scr_reachability.specs.Leading.{IsInReach}
use Rattle.scr_reachability.specs.Leading.Leads.{touched, above}
use Rattle.scr_reachability.specs.Linked.{AreAt, linked_to, sources_in as linked_in}
use Rattle.scr_reachability.specs.Relinking.{AreLinkable, IsWithin}
use Rattle.scr_reachability.proofs.Placed.{at-weaker, edge-from, number-or, source-of, standing}
use Rattle.scr_reachability.proofs.LinkedReaching.{or-left, or-right}
use Rattle.scr_reachability.proofs.Relinked.{due-linked, kept-sources, relinked-back}
use Rattle.scr_block_graph.specs.Books.{rolled_of}
use Rattle.scr_block_graph.specs.Changed.{IsSameIn}
use Rattle.scr_block_graph.specs.Graph.{AreRolls, Rolled, is_live_in, sources_in}
use Rattle.scr_block_graph.specs.declared.point.Point.{Point}
use Rattle.scr_block_graph.specs.declared.point.Point.TheVariants as points
use Rattle.scr_block_graph.proofs.Lives.{sources-live-in}
use Rattle.scr_block_graph.proofs.Once.{node_in}
use Rattle.scr_tree.specs.Changed.{AreGone, AreRowsFor, IsMoved, IsRelinkedFor, StandsYet}
use Rattle.scr_tree.specs.Figures.{AreKnownOf, AreSettled}
use Rattle.scr_tree.specs.Graphs.{graph_of}
use Rattle.scr_tree.specs.Points.{IsGraphOf, IsLinkedPoint, StandsIn, book_graph, book_reckoning, is_linked}
use Rattle.scr_tree.specs.Renewed.{AreSums}
use Rattle.scr_tree.specs.Starts.{AreFormer, IsLiveOrEmpty, keeps_links, relinked}
use Rattle.scr_tree.specs.declared.edits.State.{State}
use Rattle.scr_tree.specs.declared.edits.Taken.{Taken}
use Rattle.scr_tree.proofs.Ceiling.{ceiling-kept}
use Rattle.scr_tree.proofs.Held.{gone-held, holders-kept, new-held}
use Rattle.scr_tree.proofs.KeptRates.{rates-kept}
use Rattle.scr_tree.proofs.Leveled.{plain-sources}
use Rattle.scr_tree.proofs.PlainReaders.{not-summed}
use Rattle.scr_tree.proofs.SumsKnown.{sum-known}
use Rattle.scr_tree.proofs.TakenUp.{known-kept}
use Rattle.scr_tree.proofs.Unreached.{worth-kept}
use Rattle.scr_tree.proofs.Untouched.{untouched}
use Rattle.scr_tree.proofs.Upright.{rolls-are}

-- ---- figures whose links a record may change

both-true : (a b : Bool) → a ≡ true → b ≡ false → (a && not b) ≡ true
both-true true false e f = refl
both-true true true e f = absurd (cc)
both-true false b e f = absurd (cc)

first-true : (a b : Bool) → (a && b) ≡ true → a ≡ true
first-true true b e = refl
first-true false b e = absurd (cc)

module _ (edit : Edit) where
  member-relinked : (listed : List Point) (node : Node) → IsMember (points.Figure node) listed → is_linked node ≡ true → keeps_links edit node ≡ false
      → IsMember node (relinked edit listed)
  member-relinked [] node h linked keeps = absurd h
  member-relinked (points.Figure other ∷ listed) node (inl e) linked keeps =
      let same : node ≡ other = ap (node_in node) e in
      subst (λ n. IsMember node (cond (is_linked n && not (keeps_links edit n)) (n ∷ relinked edit listed) (relinked edit listed))) same
      (subst (λ t. IsMember node (cond t (node ∷ relinked edit listed) (relinked edit listed)))
      (sym (both-true (is_linked node) (keeps_links edit node) linked keeps)) (inl refl))
  member-relinked (points.Figure other ∷ listed) node (inr h) linked keeps =
      by (is_linked other && not (keeps_links edit other)) (member-relinked listed node h linked keeps)
    where
      by : (t : Bool) → IsMember node (relinked edit listed) → IsMember node (cond t (other ∷ relinked edit listed) (relinked edit listed))
      by true m = inr m
      by false m = m
  member-relinked (points.Block block ∷ listed) node (inl e) linked keeps = absurd (cc)
  member-relinked (points.Block block ∷ listed) node (inr h) linked keeps = member-relinked listed node h linked keeps

  relinked-linked : (listed : List Point) (node : Node) → IsMember node (relinked edit listed) → is_linked node ≡ true
  relinked-linked [] node h = absurd h
  relinked-linked (points.Figure other ∷ listed) node h =
      by (is_linked other && not (keeps_links edit other)) refl h (relinked-linked listed node)
    where
      by : (t : Bool) → (is_linked other && not (keeps_links edit other)) ≡ t
          → IsMember node (cond t (other ∷ relinked edit listed) (relinked edit listed))
          → (IsMember node (relinked edit listed) → is_linked node ≡ true) → is_linked node ≡ true
      by true e (inl same) rest = ap is_linked same ∙ first-true (is_linked other) (not (keeps_links edit other)) e
      by true e (inr m) rest = rest m
      by false e m rest = rest m
  relinked-linked (points.Block block ∷ listed) node h = relinked-linked listed node h

at-points : (At : Point → ℕ → Type 0) (numbers : List ℕ) (list : List Node) → AreAt (λ node number. At (points.Figure node) number) numbers list
    → AreAt At numbers (map points.Figure list)
at-points At [] [] at = tt
at-points At [] (m ∷ list) at = absurd at
at-points At (n ∷ numbers) [] at = absurd at
at-points At (n ∷ numbers) (m ∷ list) at = (at.0, at-points At numbers list at.1)

none-at : {N : Type 0} (At : N → ℕ → Type 0) (numbers : List ℕ) (list : List N) → AreAt At numbers list → list ≡ [] → numbers ≡ []
none-at At [] list at e = refl
none-at At (n ∷ numbers) [] at e = absurd at
none-at {N} At (n ∷ numbers) (m ∷ list) at e = absurd (cc)

none-members : (numbers : List ℕ) → ((q : ℕ) → IsMember q numbers → ⊥) → numbers ≡ []
none-members [] none = refl
none-members (q ∷ numbers) none = absurd (none q (inl refl))

-- ---- where figures stand

module _ (factors : FactorValues) (after : RolledSheet) (taken : Taken) (gone : Option (Vec ℕ Global)) (state : State)
    (mo : IsMoved factors after taken gone state) (later : Valid after.sheet) where
  abbrev was : Rolled
  was = rolled_of mo.before

  abbrev now : Rolled
  now = rolled_of after

  abbrev Was : Point → ℕ → Type 0
  Was = StandsIn mo.before mo.old mo.former

  abbrev Now : Point → ℕ → Type 0
  Now = StandsIn after state.places state.lists

  abbrev Yet : Node → ℕ → Type 0
  Yet node number = StandsYet taken.step mo.before.sheet mo.old after.sheet state.places node number

  abbrev edit : Edit
  edit = taken.edit.now

  abbrev edges : List Edge
  edges = state.links.edges

  rolls_was : AreRolls was
  rolls_was = rolls-are mo.before mo.graph.numbers_of.rolls

  rolls_now : AreRolls now
  rolls_now = rolls-are after mo.numbers.rolls

  same-untouched : (point : Point) → (Contains taken.touched.now point → ⊥) → (is_live_in was point || is_live_in now point) ≡ true
      → IsSameIn factors was now point
  same-untouched = untouched factors mo.before after taken mo.by later rolls_was

  -- what lives before and after stands where it stood
  stands-yet : (point : Point) (number : ℕ) → Was point number → is_live_in was point ≡ true → is_live_in now point ≡ true → Now point number
  stands-yet point number at live live_now =
      let own = mo.numbers.numbers.live point live_now in
      subst (Now point) (mo.graph.numbers_of.numbers.only point own.0 number (mo.keeps point own.0 own.1 live) at) own.1

  yet-exact : (s : Step) (number : ℕ) (a b : Node) → StandsYet s mo.before.sheet mo.old after.sheet state.places a number
      → StandsYet s mo.before.sheet mo.old after.sheet state.places b number → a ≡ b
  yet-exact steps.Stays number a b x y = ap (node_in a) (mo.numbers.numbers.exact number (points.Figure a) (points.Figure b) x y)
  yet-exact (steps.Comes table) number a b x y = ap (node_in a) (mo.numbers.numbers.exact number (points.Figure a) (points.Figure b) x y)
  yet-exact (steps.Goes table k) number a b x y = ap (node_in a) (mo.graph.numbers_of.numbers.exact number (points.Figure a) (points.Figure b) x y)

  yet-within : (s : Step) (node : Node) (number : ℕ) → StandsYet s mo.before.sheet mo.old after.sheet state.places node number → number < state.places.size
  yet-within steps.Stays node number at = mo.numbers.numbers.within (points.Figure node) number at
  yet-within (steps.Comes table) node number at = mo.numbers.numbers.within (points.Figure node) number at
  yet-within (steps.Goes table k) node number at =
      let low = mo.graph.numbers_of.numbers.within (points.Figure node) number at in
      let grown = mo.grown in omega (arith, low, grown)

  -- no figure stands where another stood
  one-figure : (a b : Node) (number : ℕ) → Now (points.Figure a) number → Was (points.Figure b) number → a ≡ b
  one-figure a b number x y = yet-exact taken.step number a b (mo.still_after a number x) (mo.still_before b number y)

  -- ---- the numbers of the figures whose links may change

  starts-gone : (s : Step) (numbers : Vec ℕ Global) → AreGone s edit mo.before.sheet mo.old taken.touched.now gone → gone ≡ Some numbers
      → AreStarts (λ node number. StandsYet s mo.before.sheet mo.old after.sheet state.places node number) (relinked edit taken.touched.now) numbers.items
      × IsDistinct nat_eq numbers.items
  starts-gone steps.Stays numbers are is = let clash : None ≡ Some numbers = sym are ∙ is in absurd (cc)
  starts-gone (steps.Comes table) numbers are is = let clash : None ≡ Some numbers = sym are ∙ is in absurd (cc)
  starts-gone (steps.Goes table k) numbers are is =
      let one : are.0 ≡ numbers = (let both : Some are.0 ≡ Some numbers = sym are.1 ∙ is in cc) in
      subst (λ (list : Vec ℕ Global). AreStarts (StandsAt mo.before.sheet mo.old) (relinked edit taken.touched.now) list.items × IsDistinct nat_eq list.items) one
      (are.3, are.2)

  starts-come : (s : Step) (numbers : List ℕ) → AreGone s edit mo.before.sheet mo.old taken.touched.now gone → gone ≡ None
      → AreStarts (StandsAt after.sheet state.places) (relinked edit taken.touched.now) numbers
      → AreStarts (λ node number. StandsYet s mo.before.sheet mo.old after.sheet state.places node number) (relinked edit taken.touched.now) numbers
  starts-come steps.Stays numbers are is starts = starts
  starts-come (steps.Comes table) numbers are is starts = starts
  starts-come (steps.Goes table k) numbers are is starts = let clash : Some are.0 ≡ None = sym are.1 ∙ is in absurd (cc)

  pub starts-yet : (numbers : List ℕ) → IfSome gone (λ list. numbers ≡ list.items)
      → IfNone gone (AreStarts (StandsAt after.sheet state.places) (relinked edit taken.touched.now) numbers)
      → IfNone gone (IsDistinct nat_eq numbers)
      → AreStarts Yet (relinked edit taken.touched.now) numbers × IsDistinct nat_eq numbers
  starts-yet numbers some are once = by gone refl some are once
    where
      by : (found : Option (Vec ℕ Global)) → gone ≡ found → IfSome found (λ list. numbers ≡ list.items)
          → IfNone found (AreStarts (StandsAt after.sheet state.places) (relinked edit taken.touched.now) numbers)
          → IfNone found (IsDistinct nat_eq numbers)
          → AreStarts Yet (relinked edit taken.touched.now) numbers × IsDistinct nat_eq numbers
      by None e some are once = (starts-come taken.step numbers mo.gone_numbers e are, once)
      by (Some list) e some are once =
          subst (λ xs. AreStarts Yet (relinked edit taken.touched.now) xs × IsDistinct nat_eq xs) (sym some)
          (starts-gone taken.step list mo.gone_numbers e)

  -- ---- what is due there

  module _ (numbers : List ℕ) (starts : AreStarts Yet (relinked edit taken.touched.now) numbers) where
    start-linked : (number : ℕ) → Contains numbers number → (node : Node) × (is_linked node ≡ true) × Yet node number
    start-linked number h =
        let n = starts.only number h in
        (n.0, relinked-linked edit taken.touched.now n.0 (IsMember-from_Contains (relinked edit taken.touched.now) n.0 n.1), n.2)

    -- what stands elsewhere is not touched, or keeps its links
    elsewhere : (node : Node) (number : ℕ) → Yet node number → is_linked node ≡ true → (Contains numbers number → ⊥) → keeps_links edit node ≡ false
        → Contains taken.touched.now (points.Figure node) → ⊥
    elsewhere node number at linked none keeps has =
        none (starts.each node
        (Contains-from_IsMember (relinked edit taken.touched.now) node
        (member-relinked edit taken.touched.now node (IsMember-from_Contains taken.touched.now (points.Figure node) has) linked keeps)) number at)

    -- the sources of a figure that stays are linked to it as they were
    done-as-before : (node : Node) (number : ℕ) → Now (points.Figure node) number → is_linked node ≡ true → is_live_in was (points.Figure node) ≡ true
        → is_live_in now (points.Figure node) ≡ true → sources_in was (points.Figure node) ≡ sources_in now (points.Figure node)
        → AreAt Now (linked_in edges number) (sources_in now (points.Figure node))
    done-as-before node number at linked live live_now same =
        at-weaker Was Now (linked_in edges number) (sources_in now (points.Figure node))
        (λ source q h there.
        let has = Contains-from_IsMember (sources_in now (points.Figure node)) source h in
        let had : Contains (sources_in was (points.Figure node)) source = subst (λ list. Contains list source) (sym same) has in
        stands-yet source q there (sources-live-in was mo.by.valid rolls_was (points.Figure node) source live had)
        (sources-live-in now later rolls_now (points.Figure node) source live_now has))
        (subst (AreAt Was (linked_in edges number)) same
        (mo.graph.linked.done (points.Figure node) number (mo.keeps (points.Figure node) number at live) live linked))

    -- nothing is linked to the number of a figure that was not there
    new-free : (node : Node) (number : ℕ) → Now (points.Figure node) number → is_live_in was (points.Figure node) ≡ false → linked_in edges number ≡ []
    new-free node number at dead =
        none-members (linked_in edges number) (λ q h.
        let e = edge-from edges number q h in
        let p = mo.graph.linked.only e.0 (Contains-from_IsMember edges e.0 e.1) in
        never p.0 (subst (Was p.0) e.3 p.1) p.2 p.3)
      where
        never : (point : Point) → Was point number → is_live_in was point ≡ true → IsLinkedPoint point → ⊥
        never (points.Figure other) stood live linked =
            let one = one-figure node other number at stood in
            let clash : false ≡ true = sym dead ∙ ap (λ n. is_live_in was (points.Figure n)) one ∙ live in absurd (cc)
        never (points.Block block) stood live linked = linked

    rest-done : (node : Node) (number : ℕ) → Now (points.Figure node) number → is_linked node ≡ true → is_live_in now (points.Figure node) ≡ true
        → (Contains numbers number → ⊥) → AreAt Now (linked_in edges number) (sources_in now (points.Figure node))
    rest-done node number at linked live none = by (keeps_links edit node) refl
      where
        plain : (book : Rolled) → sources_in book (points.Figure node) ≡ map points.Figure (sources_of book.sheet node)
        plain book = plain-sources book node (not-summed node linked)

        kept-list : keeps_links edit node ≡ true → sources_of after.sheet node ≡ sources_of mo.before.sheet node
        kept-list keeps =
            ap (λ sheet. sources_of sheet node) mo.by.sheet ∙ holders-kept edit mo.before.sheet node linked keeps

        old-or-new : keeps_links edit node ≡ true → (b : Bool) → is_live_in was (points.Figure node) ≡ b
            → AreAt Now (linked_in edges number) (sources_in now (points.Figure node))
        old-or-new keeps true e =
            done-as-before node number at linked e live
            (plain was ∙ ap (map points.Figure) (sym (kept-list keeps)) ∙ sym (plain now))
        old-or-new keeps false e =
            let live_then : is_live (applied edit mo.before.sheet) node ≡ true = subst (λ sheet. is_live sheet node ≡ true) mo.by.sheet live in
            let none_then = new-held edit mo.before.sheet mo.by.valid (subst Valid mo.by.sheet later) node linked keeps e live_then in
            let empty : sources_in now (points.Figure node) ≡ [] =
            plain now ∙ ap (map points.Figure) (kept-list keeps ∙ none_then) in
            subst (λ list. AreAt Now list (sources_in now (points.Figure node))) (sym (new-free node number at e))
            (subst (AreAt Now []) (sym empty) tt)

        by : (b : Bool) → keeps_links edit node ≡ b → AreAt Now (linked_in edges number) (sources_in now (points.Figure node))
        by true keeps = old-or-new keeps (is_live_in was (points.Figure node)) refl
        by false keeps =
            let same = same-untouched (points.Figure node)
            (elsewhere node number (mo.still_after node number at) linked none keeps)
            (or-right (is_live_in was (points.Figure node)) (is_live_in now (points.Figure node)) live) in
            done-as-before node number at linked (same.live ∙ live) live same.sources

    -- where something is linked yet the figure is there yet
    rest-only : (node : Node) (number : ℕ) → Was (points.Figure node) number → is_live_in was (points.Figure node) ≡ true → is_linked node ≡ true
        → (Contains numbers number → ⊥) → (q : ℕ) → IsMember q (linked_in edges number) → is_live_in now (points.Figure node) ≡ true
    rest-only node number at live linked none q h = by (keeps_links edit node) refl
      where
        plain : (book : Rolled) → sources_in book (points.Figure node) ≡ map points.Figure (sources_of book.sheet node)
        plain book = plain-sources book node (not-summed node linked)

        there-or-gone : keeps_links edit node ≡ true → (b : Bool) → is_live_in now (points.Figure node) ≡ b → is_live_in now (points.Figure node) ≡ true
        there-or-gone keeps true e = e
        there-or-gone keeps false e =
            let dead : is_live (applied edit mo.before.sheet) node ≡ false = subst (λ sheet. is_live sheet node ≡ false) mo.by.sheet e in
            let none_after = gone-held edit mo.before.sheet mo.by.valid (subst Valid mo.by.sheet later) node linked keeps live dead in
            let empty : sources_in was (points.Figure node) ≡ [] =
            plain was ∙ ap (map points.Figure) (sym (holders-kept edit mo.before.sheet node linked keeps) ∙ none_after) in
            let free = none-at Was (linked_in edges number) (sources_in was (points.Figure node))
            (mo.graph.linked.done (points.Figure node) number at live linked) empty in
            absurd (subst (IsMember q) free h)

        by : (b : Bool) → keeps_links edit node ≡ b → is_live_in now (points.Figure node) ≡ true
        by true keeps = there-or-gone keeps (is_live_in now (points.Figure node)) refl
        by false keeps =
            let same = same-untouched (points.Figure node)
            (elsewhere node number (mo.still_before node number at) linked none keeps)
            (or-left (is_live_in was (points.Figure node)) (is_live_in now (points.Figure node)) live) in
            sym same.live ∙ live

    -- ---- once they are linked

    module _ (dues : List Due) (are : AreDuesFor (graph_of after.sheet) (StandsAt after.sheet state.places) numbers dues)
        (filled : AllByRecursion (IsLiveOrEmpty (graph_of after.sheet) (StandsAt after.sheet state.places)) dues)
      where
        pub due-linkable : IsDistinct nat_eq numbers → (links : Linked) → state.places.size ≤ links.size → sources_count dues ≤ links.spare → AreLinkable links dues
        due-linkable once links room spare = record {
          once = subst (IsDistinct nat_eq) (sym are.numbers) once;
          within = each-from_members (IsWithin links.size) dues within;
          spare = spare;
        }
          where
            below : (due : Due) → IsMember due dues
                → IsLiveAt (graph_of after.sheet) (StandsAt after.sheet state.places) due.number ⊎ (due.sources.items ≡ [])
                → (q : ℕ) → IsMember q due.sources.items → q < links.size
            below due h (inl node) q m =
                let to = at_member (IsDueAt (graph_of after.sheet) (StandsAt after.sheet state.places)) dues due are.each h node.0 node.1 in
                let s = standing (StandsAt after.sheet state.places) due.sources.items (linked_to (graph_of after.sheet) node.0) to q m in
                let low = mo.numbers.numbers.within (points.Figure s.0) q s.2 in omega (arith, low, room)
            below due h (inr none) q m = absurd (subst (IsMember q) none m)

            within : (due : Due) → IsMember due dues → IsWithin links.size due
            within due h =
                let start : Contains numbers due.number = subst (λ ns. Contains ns due.number) are.numbers
                (Contains-from_IsMember (numbers_of dues) due.number (IsMember-mapped (λ (due : Due). due.number) dues due h)) in
                let n = start-linked due.number start in
                let low = yet-within taken.step n.0 due.number n.2 in record {
                  number = omega (arith, low, room);
                  sources = All-from_members (λ source. source < links.size) due.sources.items
                      (λ q m. below due h (at_member (IsLiveOrEmpty (graph_of after.sheet) (StandsAt after.sheet state.places)) dues due filled h) q m);
                }

        module _ (new : List Edge) (anew : AreRelinked dues edges new) where
          at-start : (node : Node) (number : ℕ) → Now (points.Figure node) number → is_linked node ≡ true → is_live_in now (points.Figure node) ≡ true
              → Contains numbers number → AreAt Now (linked_in new number) (sources_in now (points.Figure node))
          at-start node number at linked live h =
              let is = due-linked dues edges new anew (IsDueAt (graph_of after.sheet) (StandsAt after.sheet state.places)) are.each number
              (subst (λ ns. Contains ns number) (sym are.numbers) h) in
              let to : AreAt (StandsAt after.sheet state.places) (is.0).sources.items (linked_to (graph_of after.sheet) node) =
              is.3 node (subst (StandsAt after.sheet state.places node) (sym is.1) at) in
              let own : AreAt (StandsAt after.sheet state.places) (is.0).sources.items (sources_of after.sheet node) =
              subst (AreAt (StandsAt after.sheet state.places) (is.0).sources.items) (ap (λ b. cond b (sources_of after.sheet node) []) live) to in
              subst (λ list. AreAt Now list (sources_in now (points.Figure node))) (sym is.2)
              (subst (AreAt Now (is.0).sources.items) (sym (plain-sources now node (not-summed node linked)))
              (at-points Now (is.0).sources.items (sources_of after.sheet node) own))

          unlisted : (number : ℕ) → (Contains numbers number → ⊥) → Contains (numbers_of dues) number → ⊥
          unlisted number none h = none (subst (λ ns. Contains ns number) are.numbers h)

          done-anew : (point : Point) (number : ℕ) → Now point number → is_live_in now point ≡ true → IsLinkedPoint point
              → AreAt Now (linked_in new number) (sources_in now point)
          done-anew (points.Figure node) number at live linked = by (number-or numbers number)
            where
              by : Contains numbers number ⊎ (Contains numbers number → ⊥) → AreAt Now (linked_in new number) (sources_in now (points.Figure node))
              by (inl h) = at-start node number at linked live h
              by (inr none) =
                  subst (λ list. AreAt Now list (sources_in now (points.Figure node)))
                  (sym (kept-sources dues edges new anew number (unlisted number none))) (rest-done node number at linked live none)
          done-anew (points.Block block) number at live linked = absurd linked

          only-start : (number q : ℕ) → Contains numbers number → IsMember q (linked_in new number)
              → (point : Point) × Now point number × (is_live_in now point ≡ true) × IsLinkedPoint point
          only-start number q h m =
              let is = due-linked dues edges new anew
              (IsLiveOrEmpty (graph_of after.sheet) (StandsAt after.sheet state.places)) filled number
              (subst (λ ns. Contains ns number) (sym are.numbers) h) in
              by is.0 is.1 (subst (IsMember q) is.2 m) is.3
            where
              by : (due : Due) → due.number ≡ number → IsMember q due.sources.items
                  → IsLiveAt (graph_of after.sheet) (StandsAt after.sheet state.places) due.number ⊎ (due.sources.items ≡ [])
                  → (point : Point) × Now point number × (is_live_in now point ≡ true) × IsLinkedPoint point
              by due e s (inl node) =
                  let n = start-linked number h in
                  let at : Now (points.Figure node.0) number = subst (StandsAt after.sheet state.places node.0) e node.1 in
                  let one = yet-exact taken.step number n.0 node.0 n.2 (mo.still_after node.0 number at) in
                  (points.Figure node.0, at, node.2, ap is_linked (sym one) ∙ n.1)
              by due e s (inr none) = absurd (subst (IsMember q) none s)

          only-rest : (number : ℕ) → (Contains numbers number → ⊥) → (point : Point) → Was point number → is_live_in was point ≡ true → IsLinkedPoint point
              → (q : ℕ) → IsMember q (linked_in edges number)
              → (found : Point) × Now found number × (is_live_in now found ≡ true) × IsLinkedPoint found
          only-rest number none (points.Figure node) at live linked q m =
              let live_now = rest-only node number at live linked none q m in
              (points.Figure node, stands-yet (points.Figure node) number at live live_now, live_now, linked)
          only-rest number none (points.Block block) at live linked q m = absurd linked

          only-anew : (edge : Edge) → Contains new edge
              → (point : Point) × Now point edge.dependant × (is_live_in now point ≡ true) × IsLinkedPoint point
          only-anew edge h = by (number-or numbers edge.dependant)
            where
              from : IsMember edge.source (linked_in new edge.dependant)
              from = source-of new edge.dependant edge (IsMember-from_Contains new edge h) refl

              by : Contains numbers edge.dependant ⊎ (Contains numbers edge.dependant → ⊥)
                  → (point : Point) × Now point edge.dependant × (is_live_in now point ≡ true) × IsLinkedPoint point
              by (inl start) = only-start edge.dependant edge.source start from
              by (inr none) =
                  let had : IsMember edge.source (linked_in edges edge.dependant) =
                  subst (IsMember edge.source) (kept-sources dues edges new anew edge.dependant (unlisted edge.dependant none)) from in
                  let d = edge-from edges edge.dependant edge.source had in
                  let p = mo.graph.linked.only d.0 (Contains-from_IsMember edges d.0 d.1) in
                  only-rest edge.dependant none p.0 (subst (Was p.0) d.3 p.1) p.2 p.3 edge.source had

          pub graph-anew : IsGraphOf after state.places state.lists new
          graph-anew = record {
            numbers_of = mo.numbers;
            linked = record { done = done-anew; only = only-anew };
          }

        -- ---- once the former links are made again

        module _ (former : List Due) (as_they_were : AreFormer numbers edges former) where
          pub former-linkable : IsDistinct nat_eq numbers → (links : Linked) → state.places.size ≤ links.size → sources_count former ≤ links.spare
              → AreLinkable links former
          former-linkable once links room spare = record {
            once = subst (IsDistinct nat_eq) (sym as_they_were.numbers) once;
            within = each-from_members (IsWithin links.size) former within;
            spare = spare;
          }
            where
              low-source : (number q : ℕ) → IsMember q (linked_in edges number) → q < links.size
              low-source number q m =
                  let e = edge-from edges number q m in
                  let p = mo.graph.linked.only e.0 (Contains-from_IsMember edges e.0 e.1) in
                  let list = mo.graph.linked.done p.0 (e.0).dependant p.1 p.2 p.3 in
                  let s = standing Was (linked_in edges (e.0).dependant) (sources_in was p.0) list q
                  (subst (λ n. IsMember q (linked_in edges n)) (sym e.3) m) in
                  let low = mo.graph.numbers_of.numbers.within s.0 q s.2 in
                  let grown = mo.grown in omega (arith, low, grown, room)

              within : (due : Due) → IsMember due former → IsWithin links.size due
              within due h =
                  let start : Contains numbers due.number = subst (λ ns. Contains ns due.number) as_they_were.numbers
                  (Contains-from_IsMember (numbers_of former) due.number (IsMember-mapped (λ (due : Due). due.number) former due h)) in
                  let n = start-linked due.number start in
                  let low = yet-within taken.step n.0 due.number n.2 in
                  let same = at_member (λ (due : Due). due.sources.items ≡ linked_in edges due.number) former due as_they_were.each h in record {
                    number = omega (arith, low, room);
                    sources = All-from_members (λ source. source < links.size) due.sources.items
                        (λ q m. low-source due.number q (subst (IsMember q) same m));
                  }

          pub back-again : (mid new : List Edge) → AreRelinked dues edges mid → AreRelinked former mid new → (number : ℕ)
              → linked_in new number ≡ linked_in edges number
          back-again mid new there back = relinked-back edges mid new dues former there (as_they_were.numbers ∙ sym are.numbers) as_they_were.each back

  -- ---- what is known yet

  -- the book has it after the record, which does not reach it
  abbrev Left : Point → Type 0
  Left point = (is_live_in now point ≡ true) × (IsInReach (book_graph now) (Contains taken.touched.now) point → ⊥)

  left-closed : (point source : Point) → Left point → Contains (sources_in now point) source → Left source
  left-closed point source left has = (
    sources-live-in now later rolls_now point source left.0 has,
    λ reach. left.1 (record { live = left.0; leads = above point source has reach.leads }),
  )

  left-same : (point : Point) → Left point → IsSameIn factors was now point
  left-same point left =
      same-untouched point (λ has. left.1 (record { live = left.0; leads = touched point has }))
      (or-right (is_live_in was point) (is_live_in now point) left.0)

  pub left-known : AreKnownOf (book_reckoning factors now) Now state.figures
      (λ point. IsInReach (book_graph now) (Contains taken.touched.now) point → ⊥)
  unfolding AreKnownOf
  left-known = λ point number at live none.
      let left : Left point = (live, none) in
      let lived : is_live_in was point ≡ true = (left-same point left).live ∙ live in
      mo.figures point number (mo.keeps point number at lived) lived tt
      ∙ ap Some (worth-kept factors was now mo.by.valid later rolls_was rolls_now Left left-closed left-same point left)

  -- what a Block that it does not touch came to is the sum of what those came to that it adds up
  blocks-left : (figures : List Figure) → AreSettled (book_reckoning factors was) Was figures
      → AreSums now Now figures (λ point. Contains taken.touched.now point → ⊥)
  blocks-left figures known block number numbers live untouched at ats =
      let point = points.Block block in
      let same = same-untouched point untouched (or-right (is_live_in was point) (is_live_in now point) live) in
      let lived : is_live_in was point ≡ true = same.live ∙ live in
      let there : AreAt Was numbers (sources_in now point) =
      at-weaker Now Was numbers (sources_in now point)
      (λ source q h stands. mo.keeps source q stands
      (sources-live-in was mo.by.valid rolls_was point source lived
      (subst (λ list. Contains list source) (sym same.sources) (Contains-from_IsMember (sources_in now point) source h)))) ats in
      sum-known factors mo.before mo.by.valid rolls_was Was figures known block lived number numbers (mo.keeps point number at lived)
      (subst (AreAt Was numbers) (sym same.sources) there)

  -- ---- what the reckoning is handed

  pub rates-after : (rates : Option Rates) → AreRowsFor edit after.sheet rates
      → option_map_or known_of rates (known_of state.rates) ≡ all_rates after.sheet
  rates-after None keeps = mo.rates ∙ sym (rates-kept edit mo.before.sheet keeps) ∙ ap all_rates (sym mo.by.sheet)
  rates-after (Some rows) are = are

  pub relinked-for : (figures : List Figure) (marks : MarkedNumbers) (links : Linked) (rates : Option Rates)
      → ((n : ℕ) → n < length state.figures → slice_get figures n ≡ slice_get state.figures n)
      → state.places.size ≤ length figures → marks.list ≡ [] → state.places.size ≤ marks.size
      → IsGraphOf after state.places state.lists links.edges → AreRowsFor edit after.sheet rates
      → IsRelinkedFor factors after taken.touched.now rates (record state { figures = figures; marks = marks; links = links })
  relinked-for figures marks links rates kept room none marked graph rows = record {
    valid = later;
    graph = graph;
    rates_after = rates-after rates rows;
    others = known-kept (book_reckoning factors now) Now (λ point. IsInReach (book_graph now) (Contains taken.touched.now) point → ⊥)
        state.figures figures kept left-known;
    blocks = blocks-left figures (known-kept (book_reckoning factors was) Was (λ point. Unit {0}) state.figures figures kept mo.figures);
    room = room;
    ceiling = ceiling-kept state.places state.places state.figures figures state.scratch.ceiling refl (λ k. refl) kept mo.ceiling;
    marks = none;
    marked = marked;
  }

  -- ---- all that an edit has gathered before it links anew

  pub record AreGathered (numbers : List ℕ) (dues former : List Due) : Type 0 where
    pub starts : AreStarts Yet (relinked edit taken.touched.now) numbers
    pub once : IsDistinct nat_eq numbers
    pub are : AreDuesFor (graph_of after.sheet) (StandsAt after.sheet state.places) numbers dues
    pub filled : AllByRecursion (IsLiveOrEmpty (graph_of after.sheet) (StandsAt after.sheet state.places)) dues
    pub as_they_were : AreFormer numbers edges former

  -- as it was told of the balance sheet and of the numbers as they were lent
  pub gathered : (sheet : BalanceSheet) → sheet ≡ after.sheet → (numbers lent lent_again : List ℕ) → lent ≡ numbers → lent_again ≡ numbers
      → IfSome gone (λ list. numbers ≡ list.items)
      → IfNone gone (AreStarts (StandsAt sheet state.places) (relinked edit taken.touched.now) numbers)
      → IfNone gone (IsDistinct nat_eq numbers) → (dues former : List Due)
      → AreDuesFor (graph_of sheet) (StandsAt sheet state.places) lent dues
      → AllByRecursion (IsLiveOrEmpty (graph_of sheet) (StandsAt sheet state.places)) dues
      → AreFormer lent_again edges former → AreGathered numbers dues former
  gathered sheet same numbers lent lent_again is is_again some come once dues former are filled as_they_were =
      let yet = starts-yet numbers some
      (subst (λ (s : BalanceSheet). IfNone gone (AreStarts (StandsAt s state.places) (relinked edit taken.touched.now) numbers)) same come) once in record {
        starts = yet.0;
        once = yet.1;
        are = subst (λ list. AreDuesFor (graph_of after.sheet) (StandsAt after.sheet state.places) list dues) is
            (subst (λ (s : BalanceSheet). AreDuesFor (graph_of s) (StandsAt s state.places) lent dues) same are);
        filled = subst (λ (s : BalanceSheet). AllByRecursion (IsLiveOrEmpty (graph_of s) (StandsAt s state.places)) dues) same filled;
        as_they_were = subst (λ list. AreFormer list edges former) is_again as_they_were;
      }

  module _ (numbers : List ℕ) (dues former : List Due) (all : AreGathered numbers dues former) where
    pub can-link : (links : Linked) → state.places.size ≤ links.size → sources_count dues ≤ links.spare → AreLinkable links dues
    can-link = due-linkable numbers all.starts dues all.are all.filled all.once

    pub can-link-back : (links : Linked) → state.places.size ≤ links.size → sources_count former ≤ links.spare → AreLinkable links former
    can-link-back = former-linkable numbers all.starts dues all.are all.filled former all.as_they_were all.once

    pub linked-anew : (new : List Edge) → AreRelinked dues edges new → IsGraphOf after state.places state.lists new
    linked-anew = graph-anew numbers all.starts dues all.are all.filled

    pub linked-again : (mid new : List Edge) → AreRelinked dues edges mid → AreRelinked former mid new → (number : ℕ)
        → linked_in new number ≡ linked_in edges number
    linked-again = back-again numbers all.starts dues all.are all.filled former all.as_they_were
