-- Deliveries counted by their sources: a node was reached from each of its sources at most once.
use Rattle.std.proofs.Common.{◌≡◌, ℕ, zero, suc, ◌<◌, ◌≤◌, ◌≢◌, ◌⊎◌, Bool, true, false, nat_eq, ◌&&◌, List, [], ◌∷◌, ◌++◌, Some, slice_get, refl, sym, ap, ◌∙◌, subst, inl, inr, arith}
use Rattle.std.proofs.lemmas.Bool.Decides.{eqb_tells}
use Rattle.std.specs.List.{AllByRecursion}
use Rattle.scr_board.specs.declared.lists.Delivery.{Delivery}
use Rattle.scr_board.specs.declared.lists.Progress.{Progress}
use Rattle.scr_board.specs.declared.lists.Round.{Round}
use Rattle.scr_board.specs.Counts.{one_if, times, total}
use Rattle.scr_board.specs.Rounds.{IsFormed, dependants_of, sources_of}
use Rattle.scr_board.specs.States.{arrived, deliveries, is_some_of, named, sent, target}
use Rattle.scr_board.specs.Sound.{IsOwn}
use Rattle.scr_board.proofs.Totals.{total_append, total_le, total_none, total_same, total_sum}
use Rattle.scr_board.proofs.Members.{is_some_of-Some, one-place, one_at_most, place-times, same_number, times-place}

-- all deliveries of all passes
abbrev pub all_of : List Progress → List Delivery
all_of [] = []
all_of (p ∷ ps) = p.delivered ++ all_of ps

pub total-all : (g : Delivery → ℕ) (ps : List Progress) → total (λ p. total g p.delivered) ps ≡ total g (all_of ps)
total-all g [] = refl
total-all g (p ∷ ps) = let more = total-all g ps in let here = total_append g p.delivered (all_of ps) in omega (arith, more, here)

-- how often a node was reached from another
abbrev pub from_to : Round → ℕ → ℕ → List Delivery → ℕ
from_to round m x ds = total (λ d. one_if (nat_eq d.node m && is_some_of x (target round d))) ds

module _ (round : Round) (form : IsFormed round) where
  -- what one delivery counts over the sources of the node that it reaches
  one_source : (x : ℕ) (d : Delivery)
      → total (λ m. one_if (nat_eq d.node m && is_some_of x (target round d))) (sources_of round x)
      ≡ one_if (is_some_of x (target round d))
  one_source x d = by (is_some_of x (target round d)) refl
    where
      none : (m : ℕ) → one_if (nat_eq d.node m && false) ≡ 0
      none m = on (nat_eq d.node m)
        where
          on : (b : Bool) → one_if (b && false) ≡ 0
          on true = refl
          on false = refl

      some_there : (m : ℕ) → one_if (nat_eq d.node m && true) ≡ one_if (nat_eq d.node m)
      some_there m = on (nat_eq d.node m)
        where
          on : (b : Bool) → one_if (b && true) ≡ one_if b
          on true = refl
          on false = refl

      by : (b : Bool) → is_some_of x (target round d) ≡ b
          → total (λ m. one_if (nat_eq d.node m && b)) (sources_of round x) ≡ one_if b
      by false e = total_none (λ m. one_if (nat_eq d.node m && false)) (sources_of round x) none
      by true e =
          let there = place-times x (dependants_of round d.node) d.place e in
          let pair = form.pairs x d.node in
          let once = form.once x d.node in
          let all = total_same (λ m. one_if (nat_eq d.node m && true)) (λ m. one_if (nat_eq d.node m)) (sources_of round x) some_there in
          omega (arith, there, pair, once, all)

  -- what reached a node reached it from its sources
  pub arrived-sources : (x : ℕ) (ds : List Delivery)
      → arrived round x ds ≡ total (λ m. from_to round m x ds) (sources_of round x)
  arrived-sources x [] = sym (total_none (λ m. 0) (sources_of round x) (λ m. refl))
  arrived-sources x (d ∷ ds) =
      let here = one_source x d in
      let later = arrived-sources x ds in
      let both = total_sum (λ m. one_if (nat_eq d.node m && is_some_of x (target round d))) (λ m. from_to round m x ds) (sources_of round x) in
      omega (arith, here, later, both)

  -- it is reached from a source by the one delivery to the place at which it stands there
  pub from_to-sent : (m x k : ℕ) (ds : List Delivery) → slice_get (dependants_of round m) k ≡ Some x
      → from_to round m x ds ≤ sent m k ds
  from_to-sent m x k ds at = total_le (λ d. one_if (nat_eq d.node m && is_some_of x (target round d)))
      (λ d. one_if (nat_eq m d.node && nat_eq k d.place)) ds one
    where
      one : (d : Delivery) → one_if (nat_eq d.node m && is_some_of x (target round d)) ≤ one_if (nat_eq m d.node && nat_eq k d.place)
      one d = by (eqb_tells d.node m)
        where
          by : ((nat_eq d.node m ≡ true) × (d.node ≡ m)) ⊎ ((nat_eq d.node m ≡ false) × (d.node ≢ m))
              → one_if (nat_eq d.node m && is_some_of x (target round d)) ≤ one_if (nat_eq m d.node && nat_eq k d.place)
          by (inr f) = subst (λ b. one_if (b && is_some_of x (target round d)) ≤ one_if (nat_eq m d.node && nat_eq k d.place)) (sym f.0) (omega arith)
          by (inl t) = on (is_some_of x (target round d)) refl
            where
              on : (b : Bool) → is_some_of x (target round d) ≡ b → one_if (nat_eq d.node m && b) ≤ one_if (nat_eq m d.node && nat_eq k d.place)
              on false e = subst (λ c. one_if (c && false) ≤ one_if (nat_eq m d.node && nat_eq k d.place)) (sym t.0) (omega arith)
              on true e =
                  let there : is_some_of x (slice_get (dependants_of round m) d.place) ≡ true
                  = ap (λ n. is_some_of x (slice_get (dependants_of round n) d.place)) (sym t.1) ∙ e in
                  let once : times x (dependants_of round m) ≤ 1 = let a = form.pairs x m in let b = form.once x m in omega (arith, a, b) in
                  let same = one-place x (dependants_of round m) k d.place once (is_some_of-Some x x (slice_get (dependants_of round m) k) at refl) there in
                  let node : nat_eq m d.node ≡ true = ap (λ n. nat_eq m n) t.1 ∙ same_number m in
                  let place : nat_eq k d.place ≡ true = ap (λ n. nat_eq k n) (sym same) ∙ same_number k in
                  let whole : one_if (nat_eq m d.node && nat_eq k d.place) ≡ 1 = ap (λ c. one_if (c && nat_eq k d.place)) node ∙ ap one_if place in
                  let least = one_at_most (nat_eq d.node m && true) in
                  omega (arith, whole, least)

  -- and where that was made, it is reached
  pub sent-from_to : (m x k : ℕ) (ds : List Delivery) → slice_get (dependants_of round m) k ≡ Some x → 0 < sent m k ds
      → 0 < from_to round m x ds
  sent-from_to m x k ds at pos =
      let le = total_le (λ d. one_if (nat_eq m d.node && nat_eq k d.place)) (λ d. one_if (nat_eq d.node m && is_some_of x (target round d))) ds one in
      omega (arith, le, pos)
    where
      one : (d : Delivery) → one_if (nat_eq m d.node && nat_eq k d.place) ≤ one_if (nat_eq d.node m && is_some_of x (target round d))
      one d = by (eqb_tells m d.node) (eqb_tells k d.place)
        where
          Less : Bool → Bool → Type 0
          Less b c = one_if (b && c) ≤ one_if (nat_eq d.node m && is_some_of x (target round d))

          apart : (b : Bool) → Less b false
          apart true = omega arith
          apart false = omega arith

          other : (c : Bool) → Less false c
          other c = omega arith

          by : ((nat_eq m d.node ≡ true) × (m ≡ d.node)) ⊎ ((nat_eq m d.node ≡ false) × (m ≢ d.node))
              → ((nat_eq k d.place ≡ true) × (k ≡ d.place)) ⊎ ((nat_eq k d.place ≡ false) × (k ≢ d.place)) → Less (nat_eq m d.node) (nat_eq k d.place)
          by (inl t) (inl u) =
              let node : nat_eq d.node m ≡ true = ap (λ n. nat_eq d.node n) t.1 ∙ same_number d.node in
              let there : is_some_of x (target round d) ≡ true
              = ap (λ n. is_some_of x (slice_get (dependants_of round n) d.place)) (sym t.1)
              ∙ ap (λ i. is_some_of x (slice_get (dependants_of round m) i)) (sym u.1)
              ∙ is_some_of-Some x x (slice_get (dependants_of round m) k) at refl in
              let whole : one_if (nat_eq d.node m && is_some_of x (target round d)) ≡ 1
              = ap (λ c. one_if (c && is_some_of x (target round d))) node ∙ ap one_if there in
              let least = one_at_most (nat_eq m d.node && nat_eq k d.place) in
              omega (arith, whole, least)
          by (inl t) (inr g) = subst (Less (nat_eq m d.node)) (sym g.0) (apart (nat_eq m d.node))
          by (inr f) u = subst (λ b. Less b (nat_eq k d.place)) (sym f.0) (other (nat_eq k d.place))

  -- and so at most once from each
  pub from_to-once : (m x : ℕ) (ds : List Delivery) → ((k : ℕ) → sent m k ds ≤ 1) → 0 < times m (sources_of round x)
      → from_to round m x ds ≤ 1
  from_to-once m x ds single pos =
      let at = times-place x (dependants_of round m) (let a = form.pairs x m in omega (arith, a, pos)) in
      let le = from_to-sent m x at.0 ds at.1 in
      let one = single at.0 in
      omega (arith, le, one)

-- ---- whose deliveries they are

-- a pass that names no node made no delivery from it
pub none_sent : (n k : ℕ) (ps : List Progress) → AllByRecursion IsOwn ps → total (named n) ps ≡ 0 → total (deliveries n k) ps ≡ 0
none_sent n k [] own none = refl
none_sent n k (p ∷ ps) own none =
    let later = none_sent n k ps own.1 (omega (arith, none)) in
    let here : deliveries n k p ≡ 0 = by (deliveries n k p) refl in
    omega (arith, later, here)
  where
    by : (x : ℕ) → deliveries n k p ≡ x → deliveries n k p ≡ 0
    by zero e = e
    by (suc x) e = let put = own.0 n k (omega (arith, e)) in absurd (omega (arith, put, none))

-- a delivery that was made was made by some pass that put its node
pub put_of : (n k : ℕ) (ps : List Progress) → AllByRecursion IsOwn ps → 0 < total (deliveries n k) ps → 0 < total (λ p. times n p.put) ps
put_of n k [] own pos = absurd (omega arith)
put_of n k (p ∷ ps) own pos = by (deliveries n k p) refl (put_of n k ps own.1)
  where
    by : (x : ℕ) → deliveries n k p ≡ x → (0 < total (deliveries n k) ps → 0 < total (λ q. times n q.put) ps)
        → 0 < total (λ q. times n q.put) (p ∷ ps)
    by zero e on = let later = on (omega (arith, pos, e)) in omega (arith, later)
    by (suc x) e on = let put = own.0 n k (omega (arith, e)) in omega (arith, put)
