-- Where one pass is at its end and has the whole share, every node was put, each once.
use Rattle.std.proofs.Common.{◌≡◌, ℕ, zero, suc, ◌+◌, ◌<◌, ◌≤◌, ◌≢◌, ◌⊎◌, Bool, true, false, nat_eq, ◌&&◌, if◌then◌else◌, List, [], ◌∷◌, ◌++◌, Some, length, set, take, slice_get, refl, ap, ◌∙◌, inl, inr, arith}
use Rattle.std.proofs.lemmas.Bool.Decides.{eqb_tells}
use Rattle.std.specs.List.{AllByRecursion}
use mathlib.Core.Option.{some}
use lib.ListN.{get_elem?}
use Rattle.scr_board.specs.declared.lists.Progress.{Progress}
use Rattle.scr_board.specs.declared.lists.Held.{Held}
use Rattle.scr_board.specs.declared.lists.Round.{Round}
use Rattle.scr_board.specs.Counts.{one_if, times, total}
use Rattle.scr_board.specs.Rounds.{IsFormed, count_of, dependants_of, sources_of}
use Rattle.scr_board.specs.States.{State, arrivals, arrived, deliveries, holds, mark_of, marked_share, named, sent, share_of, spent}
use Rattle.scr_board.specs.Events.{joins}
use Rattle.scr_board.specs.Sound.{IsAtEnd, IsKept, IsSound, freed}
use Rattle.scr_board.proofs.Totals.{each_set, total_append, total_le, total_part, total_set}
use Rattle.scr_board.proofs.Members.{other_number, same_number, take-whole, times-place, times-take, total-at_least}
use Rattle.scr_board.proofs.Arriving.{arrived-sources, from_to, sent-from_to}
use Rattle.scr_board.proofs.Standing.{freed-none, named_once}

-- ---- numbers below a count, each so often

abbrev pub sum_below : (ℕ → ℕ) → ℕ → ℕ
sum_below f zero = 0
sum_below f (suc n) = f n + sum_below f n

sum_below-sum : (f g : ℕ → ℕ) (n : ℕ) → sum_below (λ x. f x + g x) n ≡ sum_below f n + sum_below g n
sum_below-sum f g zero = refl
sum_below-sum f g (suc n) = let more = sum_below-sum f g n in omega (arith, more)

sum_below-none : (n x : ℕ) → n ≤ x → sum_below (λ i. one_if (nat_eq i x)) n ≡ 0
sum_below-none zero x le = refl
sum_below-none (suc n) x le =
    let here : one_if (nat_eq n x) ≡ 0 = ap one_if (other_number n x (λ e. omega (arith, e, le))) in
    let more = sum_below-none n x (omega (arith, le)) in
    omega (arith, here, more)

sum_below-one : (n x : ℕ) → x < n → sum_below (λ i. one_if (nat_eq i x)) n ≡ 1
sum_below-one zero x lt = absurd (omega (arith, lt))
sum_below-one (suc n) x lt = by (eqb_tells n x) (sum_below-one n x)
  where
    by : ((nat_eq n x ≡ true) × (n ≡ x)) ⊎ ((nat_eq n x ≡ false) × (n ≢ x)) → (x < n → sum_below (λ i. one_if (nat_eq i x)) n ≡ 1)
        → sum_below (λ i. one_if (nat_eq i x)) (suc n) ≡ 1
    by (inl t) on =
        let here : one_if (nat_eq n x) ≡ 1 = ap one_if t.0 in
        let same = t.1 in
        let more = sum_below-none n x (omega (arith, same)) in
        omega (arith, here, more)
    by (inr f) on =
        let here : one_if (nat_eq n x) ≡ 0 = ap one_if f.0 in
        let ne = f.1 in
        let more = on (omega (arith, lt, ne)) in
        omega (arith, here, more)

pub sum_below-most : (f : ℕ → ℕ) (n : ℕ) → ((x : ℕ) → f x ≤ 1) → sum_below f n ≤ n
sum_below-most f zero h = omega arith
sum_below-most f (suc n) h = let more = sum_below-most f n h in let here = h n in omega (arith, more, here)

pub sum_below-each : (f : ℕ → ℕ) (n : ℕ) → ((x : ℕ) → x < n → f x ≡ 1) → sum_below f n ≡ n
sum_below-each f zero h = refl
sum_below-each f (suc n) h = let more = sum_below-each f n (λ x lt. h x (omega (arith, lt))) in let here = h n (omega arith) in omega (arith, more, here)

-- items whose numbers are all below a count are as many as they come to over these numbers
pub length-below : {A : Type 0} (g : A → ℕ) (xs : List A) (n : ℕ) → ((x : ℕ) → 0 < total (λ a. one_if (nat_eq x (g a))) xs → x < n)
    → sum_below (λ x. total (λ a. one_if (nat_eq x (g a))) xs) n ≡ length xs
length-below g [] n low = none n
  where
    none : (k : ℕ) → sum_below (λ x. 0) k ≡ 0
    none zero = refl
    none (suc k) = let more = none k in omega (arith, more)
length-below g (a ∷ xs) n low =
    let same : one_if (nat_eq (g a) (g a)) ≡ 1 = ap one_if (same_number (g a)) in
    let one = sum_below-one n (g a) (low (g a) (omega (arith, same))) in
    let more = length-below g xs n (λ x pos. low x (omega (arith, pos))) in
    let both = sum_below-sum (λ x. one_if (nat_eq x (g a))) (λ x. total (λ b. one_if (nat_eq x (g b))) xs) n in
    omega (arith, one, more, both)

-- ---- nodes

module _ (round : Round) (form : IsFormed round) (workers : ℕ) (s : State) (sound : IsSound round workers s) where
  -- what is named is a node of the round
  pub named_node : (n : ℕ) → 0 < total (named n) s.passes → n < count_of round
  named_node n pos = by (times n round.starts) refl (sources_of round n) refl
    where
      names : total (named n) s.passes ≡ times n (take s.ticket round.starts) + freed (sources_of round n) (s.left n)
      names = sound.names n

      by : (x : ℕ) → times n round.starts ≡ x → (xs : List ℕ) → sources_of round n ≡ xs → n < count_of round
      by (suc x) e xs f = form.low n (omega (arith, e))
      by zero e [] f =
          let front = times-take n round.starts s.ticket in
          let free = ap (λ ys. freed ys (s.left n)) f in
          absurd (omega (arith, pos, names, front, free, e))
      by zero e (m ∷ xs) f =
          let one : one_if (nat_eq m m) ≡ 1 = ap one_if (same_number m) in
          let there : times m (sources_of round n) ≡ one_if (nat_eq m m) + times m xs = ap (times m) f in
          (form.within n m (omega (arith, one, there))).0

  -- a pass has no more nodes than the round
  pub few_named : (id : ℕ) (p : Progress) → get_elem? s.passes id ≡ some p → length p.hand + length p.put ≤ count_of round
  few_named id p at =
      let part : (n : ℕ) → named n p ≤ total (named n) s.passes = λ n. total_part (named n) s.passes id p at in
      let hand = length-below (λ (h : Held). h.node) p.hand (count_of round)
      (λ n pos. named_node n (let le = part n in omega (arith, pos, le))) in
      let puts = length-below (λ (x : ℕ). x) p.put (count_of round)
      (λ n pos. named_node n (let le = part n in omega (arith, pos, le))) in
      let both = sum_below-sum (λ n. holds n p.hand) (λ n. times n p.put) (count_of round) in
      let most = sum_below-most (λ n. holds n p.hand + times n p.put) (count_of round)
      (λ n. let le = part n in let once = named_once round form workers s sound n in omega (arith, le, once)) in
      omega (arith, hand, puts, both, most)

  module _ (id : ℕ) (p : Progress) (at : get_elem? s.passes id ≡ some p) (end : IsAtEnd round p) (whole : p.share ≡ workers) where
    -- the others have no share, and so nothing
    nothing : (ps : List Progress) → AllByRecursion IsKept ps → total share_of ps ≡ 0 → (f : Progress → ℕ)
        → ((q : Progress) → q.hand ≡ [] → q.put ≡ [] → q.delivered ≡ [] → f q ≡ 0) → total f ps ≡ 0
    nothing [] kept none f zero_of = refl
    nothing (q ∷ ps) kept none f zero_of =
        let empty = kept.0 (omega (arith, none)) in
        let here = zero_of q empty.0 empty.1 empty.2 in
        let later = nothing ps kept.1 (omega (arith, none)) f zero_of in
        omega (arith, here, later)

    alone : (f : Progress → ℕ) → ((q : Progress) → q.hand ≡ [] → q.put ≡ [] → q.delivered ≡ [] → f q ≡ 0) → total f s.passes ≡ f p
    alone f zero_of =
        let shares = total_set share_of s.passes id p spent at in
        let sum = sound.shares in
        let none = nothing (set s.passes id spent) (each_set IsKept s.passes id spent sound.kept (λ zero_share. (refl, refl, refl)))
        (omega (arith, shares, sum, whole)) f zero_of in
        let change = total_set f s.passes id p spent at in
        let spent_none = zero_of spent refl refl refl in
        omega (arith, none, change, spent_none)

    named_alone : (n : ℕ) → total (named n) s.passes ≡ times n p.put
    named_alone n =
        let all = alone (named n) (λ q hand put sent. let a = ap (holds n) hand in let b = ap (times n) put in omega (arith, a, b)) in
        let hand = ap (holds n) end.empty in
        omega (arith, all, hand)

    arrivals_alone : (n : ℕ) → total (arrivals round n) s.passes ≡ arrivals round n p
    arrivals_alone n = alone (arrivals round n) (λ q hand put sent. ap (arrived round n) sent)

    -- by the rank: a node whose sources were put is put
    put_below : (bound n : ℕ) → form.rank n < bound → n < count_of round → 0 < times n p.put
    put_below zero n low node = absurd (omega (arith, low))
    put_below (suc bound) n low node = by (sources_of round n) refl (λ m less there. put_below bound m less there)
      where
        names : total (named n) s.passes ≡ times n (take s.ticket round.starts) + freed (sources_of round n) (s.left n)
        names = sound.names n

        seen : length round.starts ≤ s.ticket
        seen =
            let one : mark_of p ≡ 1 = ap one_if end.marked in
            let part = total_part mark_of s.passes id p at in
            sound.marks (omega (arith, one, part))

        by : (xs : List ℕ) → sources_of round n ≡ xs
            → ((m : ℕ) → form.rank m < bound → m < count_of round → 0 < times m p.put) → 0 < times n p.put
        by [] e on =
            let begun = form.begins n node e in
            let front = ap (times n) (take-whole round.starts s.ticket seen) in
            let mine = named_alone n in
            omega (arith, names, begun, front, mine)
        by (x ∷ xs) e on =
            let each : (m : ℕ) → 0 < times m (sources_of round n) → 1 ≤ from_to round m n p.delivered
            = λ m source.
            let pair = form.pairs n m in
            let place = times-place n (dependants_of round m) (omega (arith, pair, source)) in
            let put = on m (let falls = form.falls n m source in omega (arith, falls, low)) (form.within n m source).1 in
            let made = end.all m place.0 n put place.1 in
            sent-from_to round form m n place.0 p.delivered place.1 made in
            let all = total-at_least (λ m. from_to round m n p.delivered) (sources_of round n) each in
            let arrived_is = arrived-sources round form n p.delivered in
            let mine = arrivals_alone n in
            let counts = sound.counts n in
            let none : s.left n ≡ 0 = omega (arith, all, arrived_is, mine, counts) in
            let some_source : length (sources_of round n) ≡ suc (length xs) = ap (λ (ys : List ℕ). length ys) e in
            let free = ap (freed (sources_of round n)) none ∙ freed-none (sources_of round n) (omega (arith, some_source)) in
            let named_is = named_alone n in
            omega (arith, names, free, named_is)

    pub all_put : (n : ℕ) → n < count_of round → times n p.put ≡ 1
    all_put n node =
        let put = put_below (suc (form.rank n)) n (omega arith) node in
        let once = named_once round form workers s sound n in
        let mine = named_alone n in
        omega (arith, put, once, mine)

    -- so the nodes put are as many as the round has
    pub count_put : length p.put ≡ count_of round
    count_put =
        let puts = length-below (λ (x : ℕ). x) p.put (count_of round) (λ n pos. named_node n (let mine = named_alone n in omega (arith, pos, mine))) in
        let each = sum_below-each (λ n. times n p.put) (count_of round) all_put in
        omega (arith, puts, each)

-- ---- two passes

-- a pass at its end that takes over another at its end is at its end
pub joined_end : (round : Round) (p o : Progress) → IsAtEnd round p → IsAtEnd round o → IsAtEnd round (joins p o)
joined_end round p o a b = record {
  marked = refl;
  empty = ap (λ hand. hand ++ o.hand) a.empty ∙ b.empty;
  all = λ n k d put at.
      let puts = total_append (λ x. one_if (nat_eq n x)) p.put o.put in
      let sent = total_append (λ e. one_if (nat_eq n e.node && nat_eq k e.place)) p.delivered o.delivered in
      by n k d at (times n p.put) refl (omega (arith, puts, put)) (omega (arith, sent));
}
  where
    by : (n k d : ℕ) → slice_get (dependants_of round n) k ≡ Some d → (x : ℕ) → times n p.put ≡ x → 0 < times n p.put + times n o.put
        → deliveries n k (joins p o) ≡ deliveries n k p + deliveries n k o → 0 < deliveries n k (joins p o)
    by n k d at zero e put sent = let made = b.all n k d (omega (arith, e, put)) at in omega (arith, made, sent)
    by n k d at (suc x) e put sent = let made = a.all n k d (omega (arith, e)) at in omega (arith, made, sent)

-- ---- bounds

-- there are no more starts than nodes
pub few_starts : (round : Round) → IsFormed round → length round.starts ≤ count_of round
few_starts round form =
    let all = length-below (λ (x : ℕ). x) round.starts (count_of round) form.low in
    let most = sum_below-most (λ n. times n round.starts) (count_of round) form.single in
    omega (arith, all, most)

-- the ticket exceeds the number of starts by no more than the number of workers
pub ticket_most : (round : Round) (workers : ℕ) (s : State) → IsSound round workers s → s.ticket ≤ length round.starts + workers
ticket_most round workers s sound =
    let less = total_le marked_share share_of s.passes (λ p. under p.marked p.share) in
    let ticket = sound.ticket in
    let shares = sound.shares in
    omega (arith, less, ticket, shares)
  where
    under : (b : Bool) (share : ℕ) → (if b then share else 0) ≤ share
    under true share = omega arith
    under false share = omega arith
