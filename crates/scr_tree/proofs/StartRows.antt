-- What is due at single numbers, and which are marked, one after another.
use Rattle.std.proofs.Common.{◌≡◌, ◌⊎◌, inl, inr, ℕ, zero, suc, ◌+◌, ◌<◌, ◌++◌, ◌&&◌, Bool, true, false, cond, if◌then◌else◌, List, [], ◌∷◌, length, take, get_or, nat_eq, Contains, Some, slice_get, refl, sym, ap, subst, ◌∙◌, arith}
use Rattle.std.specs.Prelude.{not}
use Rattle.std.specs.List.{IsDistinct, list_any}
use Rattle.std.proofs.lemmas.List.{append-nil, map-append, take_more}
use Rattle.std.proofs.lemmas.Option.{slice_get-get_or}
use Rattle.scr_funds.proofs.Members.{IsMember, IsMember-cases, IsMember-from_Contains, IsMember-left, IsMember-right, Contains-from_IsMember, each_push}
use Rattle.scr_sum_tree.specs.Blocks.{HasEachOnce}
use Rattle.scr_links.specs.Edges.{Edge}
use Rattle.scr_reachability.specs.declared.ranks.Due.{Due}
use Rattle.scr_sheet.specs.declared.edit.Edit.{Edit}
use Rattle.scr_nodes.specs.declared.node.Node.{Node}
use Rattle.scr_reachability.specs.Graph.{Graph}
use Rattle.scr_reachability.specs.LinkedDues.{AreDuesFor, AreStarts, IsDueAt, IsLiveAt}
use Rattle.scr_reachability.specs.Linked.{AreAt, AreNumbers, linked_to, sources_in}
use Rattle.scr_reachability.proofs.DistinctDues.{has-member}
use Rattle.scr_reachability.proofs.Starting.{starts-more, starts-once, starts-skip}
use Rattle.scr_block_graph.specs.declared.point.Block.{Block}
use Rattle.scr_block_graph.specs.declared.point.Point.{Point}
use Rattle.scr_block_graph.specs.declared.point.Point.TheVariants as points
use Rattle.scr_tree.specs.Points.{is_linked}
use Rattle.scr_tree.specs.Starts.{AreFormer, AreMarked, IsMarkedOf, IsNumberPushed, IsPointPushed, IsPushedIf, keeps_links, relinked}

-- what was linked to one number more
pub former-next : (edges : List Edge) (list done : List ℕ) (dues : List Due) (due : Due) → AreFormer done edges dues
    → due.sources.items ≡ sources_in edges due.number → list ≡ done ++ due.number ∷ [] → AreFormer list edges (dues ++ due ∷ [])
former-next edges list done dues due are own is = record {
  numbers = map-append (λ (due : Due). due.number) dues (due ∷ []) ∙ ap (λ xs. xs ++ due.number ∷ []) are.numbers ∙ sym is;
  each = each_push (λ (due : Due). due.sources.items ≡ sources_in edges due.number) dues due are.each own;
}

-- ---- numbers, one after another

-- what stands in front of a place stands at an earlier one
in-front : {A : Type 0} (xs : List A) (i : ℕ) (x : A) → IsMember x (take i xs) → (j : ℕ) × (j < i) × (slice_get xs j ≡ Some x)
in-front [] zero x h = absurd h
in-front [] (suc i) x h = absurd h
in-front (y ∷ xs) zero x h = absurd h
in-front (y ∷ xs) (suc i) x (inl e) = (0, omega arith, ap Some (sym e))
in-front (y ∷ xs) (suc i) x (inr h) =
    let r = in-front xs i x h in let l : r.0 < i = r.1 in (suc r.0, omega (arith, l), r.2)

module _ {Node : Type 0} (graph : Graph Node) (At : Node → ℕ → Type 0) (size : ℕ) (numbers : AreNumbers graph At size) where
  -- those of one figure more
  pub numbers-next : (done : List Node) (n : Node) (old new : List ℕ) → (Contains done n → ⊥) → AreStarts At done old × IsDistinct nat_eq old
      → IsNumberPushed At n old new → AreStarts At (done ++ n ∷ []) new × IsDistinct nat_eq new
  numbers-next done n old new fresh so (inl told) =
      subst (λ list. AreStarts At (done ++ n ∷ []) list × IsDistinct nat_eq list) (sym told.2) (
        starts-more At done n old so.0 told.0 (λ p at. numbers.only n p told.0 at told.1) told.1,
        starts-once At done n old so.0 numbers.exact fresh told.0 told.1 so.1,
      )
  numbers-next done n old new fresh so (inr none) =
      subst (λ list. AreStarts At (done ++ n ∷ []) list × IsDistinct nat_eq list) (sym none.1) (starts-skip At done n old so.0 none.0, so.1)

-- ---- figures whose links a record may change

abbrev is_changed : Edit → Node → Bool
is_changed edit node = is_linked node && not (keeps_links edit node)

relinked-append : (edit : Edit) (xs ys : List Point) → relinked edit (xs ++ ys) ≡ relinked edit xs ++ relinked edit ys
relinked-append edit [] ys = refl
relinked-append edit (points.Figure node ∷ xs) ys = by (is_changed edit node) (relinked-append edit xs ys)
  where
    by : (t : Bool) → relinked edit (xs ++ ys) ≡ relinked edit xs ++ relinked edit ys
        → cond t (node ∷ relinked edit (xs ++ ys)) (relinked edit (xs ++ ys)) ≡ cond t (node ∷ relinked edit xs) (relinked edit xs) ++ relinked edit ys
    by true rest = ap (λ list. node ∷ list) rest
    by false rest = rest
relinked-append edit (points.Block block ∷ xs) ys = relinked-append edit xs ys

relinked-in : (edit : Edit) (xs : List Point) (node : Node) → IsMember node (relinked edit xs) → IsMember (points.Figure node) xs
relinked-in edit [] node h = absurd h
relinked-in edit (points.Figure first ∷ xs) node h = by (is_changed edit first) h (relinked-in edit xs node)
  where
    by : (t : Bool) → IsMember node (cond t (first ∷ relinked edit xs) (relinked edit xs))
        → (IsMember node (relinked edit xs) → IsMember (points.Figure node) xs) → IsMember (points.Figure node) (points.Figure first ∷ xs)
    by true (inl e) later = inl (ap points.Figure e)
    by true (inr m) later = inr (later m)
    by false m later = inr (later m)
relinked-in edit (points.Block block ∷ xs) node h = inr (relinked-in edit xs node h)

module _ (graph : Graph Node) (At : Node → ℕ → Type 0) (size : ℕ) (numbers : AreNumbers graph At size) (edit : Edit) (touched : List Point)
    (k : ℕ) (point : Point) (once : HasEachOnce touched) (low : k < length touched) (is : point ≡ get_or touched k point)
    (old new : List ℕ) (so : AreStarts At (relinked edit (take k touched)) old × IsDistinct nat_eq old) where
  abbrev Next : Type 0
  Next = AreStarts At (relinked edit (take (k + 1) touched)) new × IsDistinct nat_eq new

  more : take (k + 1) touched ≡ take k touched ++ point ∷ []
  more = take_more touched k point low ∙ ap (λ p. take k touched ++ p ∷ []) (sym is)

  all-more : (p : Point) → point ≡ p → relinked edit (take (k + 1) touched) ≡ relinked edit (take k touched) ++ relinked edit (p ∷ [])
  all-more p same = ap (relinked edit) (more ∙ ap (λ q. take k touched ++ q ∷ []) same) ∙ relinked-append edit (take k touched) (p ∷ [])

  -- the figure is none of those before
  fresh : (node : Node) → point ≡ points.Figure node → Contains (relinked edit (take k touched)) node → ⊥
  fresh node same h =
      let r = in-front touched k (points.Figure node)
      (relinked-in edit (take k touched) node (IsMember-from_Contains (relinked edit (take k touched)) node h)) in
      let here : slice_get touched k ≡ Some (points.Figure node) = slice_get-get_or touched k point low ∙ ap Some (sym is ∙ same) in
      once r.0 k r.1 low (r.2 ∙ sym here)

  figure-next : (node : Node) → point ≡ points.Figure node → IsPushedIf At edit node old new → Next
  figure-next node same pushed =
      subst (λ list. AreStarts At list new × IsDistinct nat_eq new) (sym (all-more (points.Figure node) same)) (by (is_changed edit node) refl)
    where
      by : (t : Bool) → is_changed edit node ≡ t
          → AreStarts At (relinked edit (take k touched) ++ cond t (node ∷ []) []) new × IsDistinct nat_eq new
      by true e = numbers-next graph At size numbers (relinked edit (take k touched)) node old new (fresh node same) so (pushed.0 e)
      by false e =
          subst (λ list. AreStarts At (relinked edit (take k touched) ++ []) list × IsDistinct nat_eq list) (sym (pushed.1 e))
          (subst (λ list. AreStarts At list old × IsDistinct nat_eq old) (sym (append-nil (relinked edit (take k touched)))) so)

  block-next : (block : Block) → point ≡ points.Block block → new ≡ old → Next
  block-next block same e =
      subst (λ list. AreStarts At list new × IsDistinct nat_eq new)
      (sym (all-more (points.Block block) same ∙ append-nil (relinked edit (take k touched))))
      (subst (λ list. AreStarts At (relinked edit (take k touched)) list × IsDistinct nat_eq list) (sym e) so)

  pub point-next : IsPointPushed At edit point old new → Next
  point-next pushed = by point refl pushed
    where
      by : (p : Point) → point ≡ p → IsPointPushed At edit p old new → Next
      by (points.Figure node) same pushed = figure-next node same pushed
      by (points.Block block) same e = block-next block same e

-- ---- a number that is pushed

pub push-some : (At : Node → ℕ → Type 0) (edit : Edit) (node : Node) (old new : List ℕ) → is_changed edit node ≡ true
    → IsNumberPushed At node old new → IsPushedIf At edit node old new
push-some At edit node old new changed pushed =
    (λ t. pushed, λ kept. absurd (let clash : true ≡ false = sym changed ∙ kept in cc))

pub links-change : (edit : Edit) (node : Node) → is_linked node ≡ true → keeps_links edit node ≡ false → is_changed edit node ≡ true
links-change edit node linked changes = ap (λ b. b && not (keeps_links edit node)) linked ∙ ap not changes

-- ---- what is due at a number

module _ {Node : Type 0} (graph : Graph Node) (At : Node → ℕ → Type 0) (due : Due) where
  pub due-live : ((number : ℕ) (a b : Node) → At a number → At b number → a ≡ b) → (node : Node) (before more : List ℕ)
      → At node due.number → graph.live node ≡ true → before ≡ [] → due.sources.items ≡ before ++ more → AreAt At more (graph.sources node)
      → IsDueAt graph At due
  due-live exact node before more at live none pushed are = λ other other_at.
      subst (λ n. AreAt At due.sources.items (linked_to graph n)) (exact due.number node other at other_at)
      (subst (AreAt At due.sources.items) (sym (ap (λ b. cond b (graph.sources node) []) live))
      (subst (λ list. AreAt At list (graph.sources node)) (sym (pushed ∙ ap (λ xs. xs ++ more) none)) are))

  pub due-dead : due.sources.items ≡ [] → (IsLiveAt graph At due.number → ⊥) → IsDueAt graph At due
  due-dead none absent = λ node at. by node at (graph.live node) refl
    where
      by : (node : Node) → At node due.number → (b : Bool) → graph.live node ≡ b → AreAt At due.sources.items (linked_to graph node)
      by node at true live = absurd (absent (node, at, live))
      by node at false dead =
          subst (AreAt At due.sources.items) (sym (ap (λ b. cond b (graph.sources node) []) dead))
          (subst (λ list. AreAt At list []) (sym none) tt)

  -- and at those before
  pub dues-next : (old : List Due) (done list : List ℕ) → AreDuesFor graph At done old → IsDueAt graph At due → list ≡ done ++ due.number ∷ []
      → AreDuesFor graph At list (old ++ due ∷ [])
  dues-next old done list are own is = record {
    numbers = map-append (λ (d : Due). d.number) old (due ∷ []) ∙ ap (λ xs. xs ++ due.number ∷ []) are.numbers ∙ sym is;
    each = each_push (IsDueAt graph At) old due are.each own;
  }

-- ---- marks

-- the number stands last, where it was none of these
abbrev with_number : List ℕ → ℕ → List ℕ
with_number keys n = if list_any (nat_eq n) keys then keys else keys ++ n ∷ []

inserted-cases : (keys : List ℕ) (n x : ℕ) → IsMember x (with_number keys n) → IsMember x keys ⊎ (x ≡ n)
inserted-cases keys n x h = by (list_any (nat_eq n) keys) h
  where
    last : IsMember x keys ⊎ IsMember x (n ∷ []) → IsMember x keys ⊎ (x ≡ n)
    last (inl m) = inl m
    last (inr (inl e)) = inr e
    last (inr (inr none)) = absurd none

    by : (b : Bool) → IsMember x (cond b keys (keys ++ n ∷ [])) → IsMember x keys ⊎ (x ≡ n)
    by true m = inl m
    by false m = last (IsMember-cases keys (n ∷ []) x m)

inserted-stays : (keys : List ℕ) (n x : ℕ) → IsMember x keys → IsMember x (with_number keys n)
inserted-stays keys n x h = by (list_any (nat_eq n) keys)
  where
    by : (b : Bool) → IsMember x (cond b keys (keys ++ n ∷ []))
    by true = h
    by false = IsMember-left keys (n ∷ []) x h

inserted-there : (keys : List ℕ) (n : ℕ) → IsMember n (with_number keys n)
inserted-there keys n = by (list_any (nat_eq n) keys) refl
  where
    by : (b : Bool) → list_any (nat_eq n) keys ≡ b → IsMember n (cond b keys (keys ++ n ∷ []))
    by true e = has-member n keys e
    by false e = IsMember-right keys (n ∷ []) n (inl refl)

module _ {Node : Type 0} (graph : Graph Node) (At : Node → ℕ → Type 0) where
  pub marked-first : (list : List ℕ) → AreMarked graph At [] list list
  marked-first list number = (λ h. inl h, λ h. by h)
    where
      by : Contains list number ⊎ ((node : Node) × Contains [] node × (graph.live node ≡ true) × At node number) → Contains list number
      by (inl h) = h
      by (inr s) = absurd (IsMember-from_Contains [] s.0 s.1)

  module _ (touched : List Node) (k : ℕ) (node : Node) (low : k < length touched) (is : node ≡ get_or touched k node) (begun old : List ℕ)
      (are : AreMarked graph At (take k touched) begun old) where
    abbrev done : List Node
    done = take k touched

    abbrev Starts : List Node → ℕ → Type 0
    Starts list number = (n : Node) × Contains list n × (graph.live n ≡ true) × At n number

    further : take (k + 1) touched ≡ done ++ node ∷ []
    further = take_more touched k node low ∙ ap (λ m. done ++ m ∷ []) (sym is)

    still : (x : ℕ) → Contains begun x ⊎ Starts done x → Contains begun x ⊎ Starts (done ++ node ∷ []) x
    still x (inl h) = inl h
    still x (inr s) =
        inr (s.0, Contains-from_IsMember (done ++ node ∷ []) s.0 (IsMember-left done (node ∷ []) s.0 (IsMember-from_Contains done s.0 s.1)), s.2, s.3)

    -- one of those before, or this one
    before-or : (x : ℕ) (s : Starts (done ++ node ∷ []) x) → Starts done x ⊎ (s.0 ≡ node)
    before-or x s = by (IsMember-cases done (node ∷ []) s.0 (IsMember-from_Contains (done ++ node ∷ []) s.0 s.1))
      where
        by : IsMember s.0 done ⊎ IsMember s.0 (node ∷ []) → Starts done x ⊎ (s.0 ≡ node)
        by (inl m) = inl (s.0, Contains-from_IsMember done s.0 m, s.2, s.3)
        by (inr (inl e)) = inr e
        by (inr (inr none)) = absurd none

    pub marked-next : (new : List ℕ) → IsMarkedOf graph At node old new → AreMarked graph At (take (k + 1) touched) begun new
    marked-next new one = subst (λ list. AreMarked graph At list begun new) (sym further) (λ x. (from x, to x))
      where
        from : (x : ℕ) → Contains new x → Contains begun x ⊎ Starts (done ++ node ∷ []) x
        from x h = by ((one x).0 h)
          where
            by : Contains old x ⊎ ((graph.live node ≡ true) × At node x) → Contains begun x ⊎ Starts (done ++ node ∷ []) x
            by (inl m) = still x ((are x).0 m)
            by (inr own) = inr (
              node,
              Contains-from_IsMember (done ++ node ∷ []) node (IsMember-right done (node ∷ []) node (inl refl)),
              own.0,
              own.1,
            )

        to : (x : ℕ) → Contains begun x ⊎ Starts (done ++ node ∷ []) x → Contains new x
        to x (inl h) = (one x).1 (inl ((are x).1 (inl h)))
        to x (inr s) = by (before-or x s)
          where
            by : Starts done x ⊎ (s.0 ≡ node) → Contains new x
            by (inl earlier) = (one x).1 (inl ((are x).1 (inr earlier)))
            by (inr e) = (one x).1 (inr (subst (λ n. graph.live n ≡ true) e s.2, subst (λ n. At n x) e s.3))

  -- the graph has the point, at this number alone
  pub marked-one : (node : Node) (old new : List ℕ) (number : ℕ) → At node number → graph.live node ≡ true → ((p : ℕ) → At node p → p ≡ number)
      → new ≡ with_number old number → IsMarkedOf graph At node old new
  marked-one node old new number at live one e =
      subst (IsMarkedOf graph At node old) (sym e) (λ x. (from x, to x))
    where
      from : (x : ℕ) → Contains (with_number old number) x → Contains old x ⊎ ((graph.live node ≡ true) × At node x)
      from x h = by (inserted-cases old number x (IsMember-from_Contains (with_number old number) x h))
        where
          by : IsMember x old ⊎ (x ≡ number) → Contains old x ⊎ ((graph.live node ≡ true) × At node x)
          by (inl m) = inl (Contains-from_IsMember old x m)
          by (inr same) = inr (live, subst (At node) (sym same) at)

      to : (x : ℕ) → Contains old x ⊎ ((graph.live node ≡ true) × At node x) → Contains (with_number old number) x
      to x (inl h) = Contains-from_IsMember (with_number old number) x (inserted-stays old number x (IsMember-from_Contains old x h))
      to x (inr own) =
          subst (Contains (with_number old number)) (sym (one x own.1))
          (Contains-from_IsMember (with_number old number) number (inserted-there old number))

  -- the graph does not have it, or it has no number
  pub marked-none : (node : Node) (old : List ℕ) → ((number : ℕ) → graph.live node ≡ true → At node number → ⊥) → IsMarkedOf graph At node old old
  marked-none node old none x = (λ h. inl h, λ h. by h)
    where
      by : Contains old x ⊎ ((graph.live node ≡ true) × At node x) → Contains old x
      by (inl h) = h
      by (inr own) = absurd (none x own.0 own.1)
