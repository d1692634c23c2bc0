-- How far what is reached along edges is found.
use Rattle.std.proofs.Common.{◌≡◌, ◌⊎◌, ℕ, ◌+◌, ◌<◌, ◌≤◌, suc, zero, Bool, true, false, List, [], ◌∷◌, ◌++◌, nat_eq, Contains, filter, if◌then◌else◌, length, map, slice_get, take, Some, get_or, refl, sym, ap, subst, ◌∙◌, inl, inr, arith}
use Rattle.std.specs.List.{IsDistinct, list_any}
use Rattle.std.proofs.lemmas.Bool.{cases_lt}
use Rattle.std.proofs.lemmas.Bool.Decides.{eqb_tells}
use Rattle.std.proofs.lemmas.Option.{slice_get_within}
use Rattle.std.proofs.lemmas.List.{append_assoc, append-nil, length-take, take-append-le, take_all}
use Rattle.indexmap.specs.IndexSet.{insert_all, insert_key}
use Rattle.scr_links.specs.Edges.{Edge, Linked, dependants_of}
use Rattle.scr_reachability.specs.Reached.{AreReached, IsReached}
use Rattle.scr_reachability.specs.Reached.IsReached.{begins, follows}
use Rattle.scr_reachability.proofs.Members.{IsMember, IsMember-from_Contains, Contains-from_IsMember, IsMember-left, IsMember-right, IsMember-map, IsMember-mapped, IsMember-from_place, place_of, inserted, inserted_cases, member-from_any}

-- ---- what is entered

grown_one : (keys : List ℕ) (x : ℕ) → (more : List ℕ) × (insert_key nat_eq keys x ≡ keys ++ more)
grown_one keys x = by (list_any (nat_eq x) keys)
  where
    by : (b : Bool) → (more : List ℕ) × ((if b then keys else keys ++ x ∷ []) ≡ keys ++ more)
    by true = ([], sym (append-nil keys))
    by false = (x ∷ [], refl)

-- what was there keeps its place
grown : (keys xs : List ℕ) → (more : List ℕ) × (insert_all nat_eq keys xs ≡ keys ++ more)
grown keys [] = ([], sym (append-nil keys))
grown keys (x ∷ xs) =
    let one = grown_one keys x in
    let on = grown (insert_key nat_eq keys x) xs in
    (one.0 ++ on.0, on.1 ∙ ap (λ ks. ks ++ on.0) one.1 ∙ append_assoc keys one.0 on.0)

stays : (keys xs : List ℕ) (x : ℕ) → IsMember x keys → IsMember x (insert_all nat_eq keys xs)
stays keys xs x m =
    let on = grown keys xs in
    subst (IsMember x) (sym on.1) (IsMember-left keys on.0 x m)

there : (keys : List ℕ) (x : ℕ) → IsMember x (insert_key nat_eq keys x)
there keys x = by (list_any (nat_eq x) keys) (member-from_any x keys)
  where
    by : (b : Bool) → (b ≡ true → IsMember x keys) → IsMember x (if b then keys else keys ++ x ∷ [])
    by true known = known refl
    by false known = IsMember-right keys (x ∷ []) x (inl refl)

pub entered : (keys xs : List ℕ) (x : ℕ) → IsMember x xs → IsMember x (insert_all nat_eq keys xs)
entered keys [] x m = absurd m
entered keys (y ∷ ys) x (inl e) =
    stays (insert_key nat_eq keys y) ys x (subst (λ z. IsMember x (insert_key nat_eq keys z)) e (there keys x))
entered keys (y ∷ ys) x (inr m) = entered (insert_key nat_eq keys y) ys x m

pub entered_cases : (keys xs : List ℕ) (x : ℕ) → IsMember x (insert_all nat_eq keys xs)
    → IsMember x keys ⊎ IsMember x xs
entered_cases keys [] x m = inl m
entered_cases keys (y ∷ ys) x m = by (entered_cases (insert_key nat_eq keys y) ys x m)
  where
    old : IsMember x keys ⊎ (x ≡ y) → IsMember x keys ⊎ IsMember x (y ∷ ys)
    old (inl k) = inl k
    old (inr e) = inr (inl e)

    by : IsMember x (insert_key nat_eq keys y) ⊎ IsMember x ys → IsMember x keys ⊎ IsMember x (y ∷ ys)
    by (inl k) = old (inserted_cases keys y x k)
    by (inr k) = inr (inr k)

-- what differs from all is entered as it stands
all_entered : (keys xs : List ℕ) → IsDistinct nat_eq (keys ++ xs) → insert_all nat_eq keys xs ≡ keys ++ xs
all_entered keys [] once = sym (append-nil keys)
all_entered keys (x ∷ xs) once =
    let one = inserted keys xs (keys ++ x ∷ xs) x once refl in
    all_entered (insert_key nat_eq keys x) xs (subst (IsDistinct nat_eq) (sym one) once) ∙ one

-- ---- the starts come first

pub first_entered : (starts : List ℕ) → IsDistinct nat_eq starts
    → take (length starts) (insert_all nat_eq [] starts) ≡ starts
first_entered starts once =
    ap (take (length starts)) (all_entered [] starts once) ∙ take_all (length starts) starts (omega arith)

pub first_stays : (starts keys xs later : List ℕ) → take (length starts) keys ≡ starts
    → later ≡ insert_all nat_eq keys xs → take (length starts) later ≡ starts
first_stays starts keys xs later first is =
    let on = grown keys xs in
    let long : length starts ≤ length keys =
    omega (arith, length-take (length starts) keys, ap length first) in
    ap (take (length starts)) (is ∙ on.1) ∙ take-append-le (length starts) keys on.0 long ∙ first

-- ---- the dependants of a number

from_source : (edges : List Edge) (n : ℕ) (edge : Edge) → IsMember edge (filter (λ e. nat_eq e.source n) edges)
    → IsMember edge edges × (edge.source ≡ n)
from_source [] n edge m = absurd m
from_source (e ∷ es) n edge m = by (eqb_tells e.source n) (from_source es n edge)
  where
    Rest : Type 0
    Rest = IsMember edge (filter (λ x. nat_eq x.source n) es) → IsMember edge es × (edge.source ≡ n)

    pick : e.source ≡ n → Rest → IsMember edge (e ∷ filter (λ x. nat_eq x.source n) es)
        → IsMember edge (e ∷ es) × (edge.source ≡ n)
    pick k later (inl same) = (inl same, ap (λ (x : Edge). x.source) same ∙ k)
    pick k later (inr i) = let on = later i in (inr on.0, on.1)

    by : ((nat_eq e.source n ≡ true) × (e.source ≡ n)) ⊎ ((nat_eq e.source n ≡ false) × (e.source ≡ n → ⊥)) → Rest
        → IsMember edge (e ∷ es) × (edge.source ≡ n)
    by (inl t) later =
        pick t.1 later (subst (λ b. IsMember edge (if b then e ∷ filter (λ x. nat_eq x.source n) es
        else filter (λ x. nat_eq x.source n) es)) t.0 m)
    by (inr f) later =
        let on = later (subst (λ b. IsMember edge (if b then e ∷ filter (λ x. nat_eq x.source n) es
        else filter (λ x. nat_eq x.source n) es)) f.0 m) in
        (inr on.0, on.1)

of_source : (edges : List Edge) (n : ℕ) (edge : Edge) → IsMember edge edges → edge.source ≡ n
    → IsMember edge (filter (λ e. nat_eq e.source n) edges)
of_source [] n edge m k = absurd m
of_source (e ∷ es) n edge m k = by (eqb_tells e.source n) m (of_source es n edge)
  where
    Rest : Type 0
    Rest = IsMember edge es → edge.source ≡ n → IsMember edge (filter (λ x. nat_eq x.source n) es)

    Kept : Bool → Type 0
    Kept b = IsMember edge (if b then e ∷ filter (λ x. nat_eq x.source n) es else filter (λ x. nat_eq x.source n) es)

    by : ((nat_eq e.source n ≡ true) × (e.source ≡ n)) ⊎ ((nat_eq e.source n ≡ false) × (e.source ≡ n → ⊥))
        → IsMember edge (e ∷ es) → Rest → Kept (nat_eq e.source n)
    by (inl t) (inl same) later = subst Kept (sym t.0) (inl same)
    by (inl t) (inr i) later = subst Kept (sym t.0) (inr (later i k))
    by (inr f) (inl same) later = absurd (f.1 (sym (ap (λ (x : Edge). x.source) same) ∙ k))
    by (inr f) (inr i) later = subst Kept (sym f.0) (later i k)

abbrev pub dependants_in : Linked → ℕ → List ℕ
dependants_in links n = map (λ (edge : ℕ × ℕ). edge.0) (dependants_of links n)

pub dependant_edge : (links : Linked) (n d : ℕ) → IsMember d (dependants_in links n)
    → (edge : Edge) × IsMember edge links.edges × (edge.source ≡ n) × (edge.dependant ≡ d)
dependant_edge links n d m =
    let pair = IsMember-map (λ (edge : ℕ × ℕ). edge.0) (dependants_of links n) d m in
    let edge = IsMember-map (λ (e : Edge). (e.dependant, e.id)) (filter (λ e. nat_eq e.source n) links.edges)
    pair.0 pair.1 in
    let from = from_source links.edges n edge.0 edge.1 in
    (edge.0, from.0, from.1, ap (λ (p : ℕ × ℕ). p.0) edge.2 ∙ pair.2)

pub edge_dependant : (links : Linked) (n : ℕ) (edge : Edge) → IsMember edge links.edges → edge.source ≡ n
    → IsMember edge.dependant (dependants_in links n)
edge_dependant links n edge m k =
    IsMember-mapped (λ (e : ℕ × ℕ). e.0) (dependants_of links n) (edge.dependant, edge.id)
    (IsMember-mapped (λ (e : Edge). (e.dependant, e.id)) (filter (λ e. nat_eq e.source n) links.edges) edge
    (of_source links.edges n edge m k))

-- ---- place by place

-- The keys are reached, the starts are among them, and so are the dependants of those before the place.
pub record IsClimbed (edges : List Edge) (starts keys : List ℕ) (place : ℕ) : Type 0 where
  pub begun : (n : ℕ) → IsMember n starts → IsMember n keys
  pub each : (n : ℕ) → IsMember n keys → IsReached edges starts n
  pub done : (k n : ℕ) → k < place → slice_get keys k ≡ Some n → (edge : Edge) → IsMember edge edges
      → edge.source ≡ n → IsMember edge.dependant keys

pub climbed_none : (edges : List Edge) (starts : List ℕ) → IsClimbed edges starts (insert_all nat_eq [] starts) 0
climbed_none edges starts = record {
  begun = λ n m. entered [] starts n m;
  each = λ n m. by n (entered_cases [] starts n m);
  done = λ k n l. absurd (omega (arith, l));
}
  where
    by : (n : ℕ) → IsMember n [] ⊎ IsMember n starts → IsReached edges starts n
    by n (inl m) = absurd m
    by n (inr m) = begins n (Contains-from_IsMember starts n m)

get_front : (xs ys : List ℕ) (k : ℕ) → k < length xs → slice_get (xs ++ ys) k ≡ slice_get xs k
get_front [] ys k l = absurd (omega arith)
get_front (x ∷ xs) ys zero l = refl
get_front (x ∷ xs) ys (suc k) l = get_front xs ys k (omega arith)

pub climbed_next : (links : Linked) (starts keys later : List ℕ) (place n : ℕ)
    → IsClimbed links.edges starts keys place → place < length keys → slice_get keys place ≡ Some n
    → later ≡ insert_all nat_eq keys (dependants_in links n) → IsClimbed links.edges starts later (place + 1)
climbed_next links starts keys later place n h l at is = record {
  begun = λ x m. kept x (h.begun x m);
  each = λ x m. each x (entered_cases keys (dependants_in links n) x (subst (IsMember x) is m));
  done = λ k x less e edge m from. done k x e edge m from (cases_lt k place) less;
}
  where
    kept : (x : ℕ) → IsMember x keys → IsMember x later
    kept x m = subst (IsMember x) (sym is) (stays keys (dependants_in links n) x m)

    each : (x : ℕ) → IsMember x keys ⊎ IsMember x (dependants_in links n) → IsReached links.edges starts x
    each x (inl m) = h.each x m
    each x (inr m) =
        let on = dependant_edge links n x m in
        let source = h.each n (IsMember-from_place keys place n at) in
        subst (IsReached links.edges starts) on.3
        (follows on.0 (Contains-from_IsMember links.edges on.0 on.1)
        (subst (IsReached links.edges starts) (sym on.2) source))

    before : (k x : ℕ) → k < length keys → slice_get later k ≡ Some x → slice_get keys k ≡ Some x
    before k x less e =
        let on = grown keys (dependants_in links n) in
        sym (get_front keys on.0 k less) ∙ ap (λ ks. slice_get ks k) (sym (is ∙ on.1)) ∙ e

    done : (k x : ℕ) → slice_get later k ≡ Some x → (edge : Edge) → IsMember edge links.edges → edge.source ≡ x
        → (k < place) ⊎ (place ≤ k) → k < place + 1 → IsMember edge.dependant later
    done k x e edge m from (inl less) _ =
        kept edge.dependant (h.done k x less (before k x (omega (arith, less, l)) e) edge m from)
    done k x e edge m from (inr past) less =
        let here : k ≡ place = omega (arith, past, less) in
        let same : slice_get keys place ≡ Some x =
        subst (λ j. slice_get keys j ≡ Some x) here (before k x (omega (arith, here, l)) e) in
        let number : x ≡ n = cc in
        subst (IsMember edge.dependant) (sym is)
        (entered keys (dependants_in links n) edge.dependant (edge_dependant links n edge m (from ∙ number)))

pub climbed_all : (edges : List Edge) (starts keys : List ℕ) (place : ℕ) → IsClimbed edges starts keys place
    → length keys ≤ place → IsDistinct nat_eq keys → AreReached edges starts keys
climbed_all edges starts keys place h l once = record {
  once = once;
  each = λ n c. h.each n (IsMember-from_Contains keys n c);
  all = λ n reached. Contains-from_IsMember keys n (all n reached);
}
  where
    closed : (edge : Edge) → Contains edges edge → IsMember edge.source keys → IsMember edge.dependant keys
    closed edge c m =
        let at = place_of keys edge.source m in
        let within = slice_get_within keys at.0 edge.source at.1 in
        h.done at.0 edge.source (omega (arith, l, within)) at.1 edge (IsMember-from_Contains edges edge c) refl

    all : (n : ℕ) → IsReached edges starts n → IsMember n keys
    all _ (begins n c) = h.begun n (IsMember-from_Contains starts n c)
    all _ (follows edge c reached) = closed edge c (all edge.source reached)

-- ---- what can be marked

-- the dependants of a number are below the number that those of every edge are below
pub dependants_below : (links : Linked) (n size : ℕ) → ((k : ℕ) (e : Edge) → k < length links.edges
    → get_or links.edges k e ≡ e → e.dependant < size) → (d : ℕ) → IsMember d (dependants_in links n) → d < size
dependants_below links n size below d m =
    let on = dependant_edge links n d m in
    let at = Contains-from_IsMember links.edges on.0 on.1 in
    subst (λ x. x < size) on.3 (below at.0 on.0 at.1 at.2)
