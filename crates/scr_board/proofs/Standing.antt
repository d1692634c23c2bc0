-- What holds in a sound state: a node is named once and only after all its sources were put, and a node of which a source
-- was not delivered has one left.
use Rattle.std.proofs.Common.{◌≡◌, ℕ, zero, suc, ◌+◌, ◌<◌, ◌≤◌, nat_eq, ◌&&◌, List, [], ◌∷◌, Some, length, set, take, slice_get, refl, ap, ◌∙◌, arith}
use mathlib.Core.Option.{some}
use lib.ListN.{get_elem?}
use Rattle.scr_board.specs.declared.lists.Progress.{Progress}
use Rattle.scr_board.specs.declared.lists.Round.{Round}
use Rattle.scr_board.specs.Counts.{one_if, times, total}
use Rattle.scr_board.specs.Rounds.{IsFormed, dependants_of, sources_of, word_of}
use Rattle.scr_board.specs.States.{State, arrivals, deliveries, is_some_of, named, sent, spent, target, written}
use Rattle.scr_board.specs.Sound.{IsOwn, IsSound, freed}
use Rattle.scr_board.proofs.Totals.{each_set, total_le, total_part, total_set}
use Rattle.scr_board.proofs.Members.{is_some_of-Some, place-times, times-place, times-take, total-below}
use Rattle.scr_board.proofs.Arriving.{all_of, arrived-sources, from_to, from_to-once, from_to-sent, none_sent, put_of, total-all}

pub freed-none : (xs : List ℕ) → 0 < length xs → freed xs 0 ≡ 1
freed-none [] pos = absurd (omega arith)
freed-none (x ∷ xs) pos = refl

pub freed-some : (xs : List ℕ) (left : ℕ) → 0 < left → freed xs left ≡ 0
freed-some [] left pos = refl
freed-some (x ∷ xs) zero pos = absurd (omega arith)
freed-some (x ∷ xs) (suc left) pos = refl

freed-most : (xs : List ℕ) (left : ℕ) → freed xs left ≤ 1
freed-most [] left = omega arith
freed-most (x ∷ xs) zero = omega arith
freed-most (x ∷ xs) (suc left) = omega arith

pub times-some : (n : ℕ) (xs : List ℕ) → 0 < times n xs → 0 < length xs
times-some n [] pos = absurd (omega arith)
times-some n (x ∷ xs) pos = omega arith

own-spent : IsOwn spent
own-spent n k pos = absurd (omega arith)

module _ (round : Round) (form : IsFormed round) (workers : ℕ) (s : State) (sound : IsSound round workers s) where
  -- a node with a source is no start
  no_start : (n : ℕ) → 0 < length (sources_of round n) → times n round.starts ≡ 0
  no_start n some_source = by (times n round.starts) refl
    where
      by : (x : ℕ) → times n round.starts ≡ x → times n round.starts ≡ 0
      by zero e = e
      by (suc x) e =
          let free = form.free n (omega (arith, e)) in
          let none : length (sources_of round n) ≡ 0 = ap (λ (xs : List ℕ). length xs) free in
          absurd (omega (arith, none, some_source))

  pub named_once : (n : ℕ) → total (named n) s.passes ≤ 1
  named_once n = by (length (sources_of round n)) refl
    where
      names : total (named n) s.passes ≡ times n (take s.ticket round.starts) + freed (sources_of round n) (s.left n)
      names = sound.names n

      front : times n (take s.ticket round.starts) ≤ times n round.starts
      front = times-take n round.starts s.ticket

      by : (x : ℕ) → length (sources_of round n) ≡ x → total (named n) s.passes ≤ 1
      by zero e = none (sources_of round n) e names
        where
          none : (xs : List ℕ) → length xs ≡ 0 → total (named n) s.passes ≡ times n (take s.ticket round.starts) + freed xs (s.left n)
              → total (named n) s.passes ≤ 1
          none [] f is = let single = form.single n in omega (arith, is, front, single)
          none (x ∷ xs) f is = absurd (omega (arith, f))
      by (suc x) e =
          let none = no_start n (omega (arith, e)) in
          let most = freed-most (sources_of round n) (s.left n) in
          omega (arith, names, front, none, most)

  -- a node with sources is named only where none of them is left
  pub none_left : (n : ℕ) → 0 < length (sources_of round n) → 0 < total (named n) s.passes → s.left n ≡ 0
  none_left n some_source pos = by (s.left n) refl
    where
      by : (x : ℕ) → s.left n ≡ x → s.left n ≡ 0
      by zero e = e
      by (suc x) e =
          let names = sound.names n in
          let front = times-take n round.starts s.ticket in
          let none = no_start n some_source in
          let zero_freed = freed-some (sources_of round n) (s.left n) (omega (arith, e)) in
          absurd (omega (arith, names, front, none, zero_freed, pos))

  sent_once : (n k : ℕ) → sent n k (all_of s.passes) ≤ 1
  sent_once n k =
      let all = total-all (λ d. one_if (nat_eq n d.node && nat_eq k d.place)) s.passes in
      let one = sound.single n k in
      omega (arith, all, one)

  arrivals_of : (x : ℕ) → total (arrivals round x) s.passes ≡ total (λ m. from_to round m x (all_of s.passes)) (sources_of round x)
  arrivals_of x = total-all (λ d. one_if (is_some_of x (target round d))) s.passes ∙ arrived-sources round form x (all_of s.passes)

  -- where a node has not been delivered by the pass that put it, nobody delivered it, and its dependant has a source left
  module _ (id : ℕ) (p : Progress) (at : get_elem? s.passes id ≡ some p) (n k d : ℕ) (put : 0 < times n p.put)
      (place : slice_get (dependants_of round n) k ≡ Some d) (new : deliveries n k p ≡ 0) where
    pub not_sent : total (deliveries n k) s.passes ≡ 0
    not_sent =
        let others = total_set (named n) s.passes id p spent at in
        let once = named_once n in
        let own = each_set IsOwn s.passes id spent sound.own own-spent in
        let none = none_sent n k (set s.passes id spent) own (omega (arith, others, once, put)) in
        let all = total_set (deliveries n k) s.passes id p spent at in
        omega (arith, none, all, new)

    pub is_source : 0 < times n (sources_of round d)
    is_source =
        let there = place-times d (dependants_of round n) k (is_some_of-Some d d (slice_get (dependants_of round n) k) place refl) in
        let pair = form.pairs d n in
        omega (arith, there, pair)

    pub some_left : 0 < s.left d
    some_left =
        let all = total-all (λ e. one_if (nat_eq n e.node && nat_eq k e.place)) s.passes in
        let le = from_to-sent round form n d k (all_of s.passes) place in
        let none : from_to round n d (all_of s.passes) ≡ 0 = let zero_sent = not_sent in omega (arith, all, le, zero_sent) in
        let below = total-below (λ m. from_to round m d (all_of s.passes)) (sources_of round d) n
        (λ m pos. from_to-once round form m d (all_of s.passes) (sent_once m) pos) is_source none in
        let counts = sound.counts d in
        let arrived_is = arrivals_of d in
        omega (arith, below, counts, arrived_is)

  -- each source of a node that is named was put
  pub source_put : (n m : ℕ) → 0 < times m (sources_of round n) → 0 < total (named n) s.passes → 0 < total (λ p. times m p.put) s.passes
  source_put n m source pos = by (from_to round m n (all_of s.passes)) refl
    where
      by : (x : ℕ) → from_to round m n (all_of s.passes) ≡ x → 0 < total (λ p. times m p.put) s.passes
      by zero e =
          let none = none_left n (times-some m (sources_of round n) source) pos in
          let below = total-below (λ i. from_to round i n (all_of s.passes)) (sources_of round n) m
          (λ i there. from_to-once round form i n (all_of s.passes) (sent_once i) there) source e in
          let counts = sound.counts n in
          let arrived_is = arrivals_of n in
          absurd (omega (arith, none, below, counts, arrived_is))
      by (suc x) e =
          let pair = form.pairs n m in
          let at = times-place n (dependants_of round m) (omega (arith, pair, source)) in
          let le = from_to-sent round form m n at.0 (all_of s.passes) at.1 in
          let all = total-all (λ d. one_if (nat_eq m d.node && nat_eq at.0 d.place)) s.passes in
          put_of m at.0 s.passes sound.own (omega (arith, all, le, e))

  -- and its words are the listed ones
  pub source_worked : (n m j : ℕ) → 0 < times m (sources_of round n) → 0 < total (named n) s.passes → j < 4
      → s.word m j ≡ word_of round m j
  source_worked n m j source pos below =
      let put = source_put n m source pos in
      let more = total_le (λ p. times m p.put) (written m j) s.passes (λ p. omega arith) in
      sound.worked m j below (omega (arith, put, more))

  -- the words of a node that was put are the listed ones
  pub put_worked : (id : ℕ) (p : Progress) (n j : ℕ) → get_elem? s.passes id ≡ some p → 0 < times n p.put → j < 4
      → s.word n j ≡ word_of round n j
  put_worked id p n j at put below =
      let part = total_part (written n j) s.passes id p at in
      sound.worked n j below (omega (arith, put, part))
