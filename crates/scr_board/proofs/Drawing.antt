-- A draw leads from a sound state to a sound state.
use Rattle.std.proofs.Common.{◌≡◌, ℕ, ◌+◌, ◌<◌, Bool, true, false, nat_eq, nat_lt, ◌&&◌, if◌then◌else◌, Option, Some, None, set, slice_get, refl, ap, arith}
use Rattle.std.proofs.lemmas.Bool.Decides.{nat_tests}
use mathlib.Core.Option.{some}
use lib.ListN.{get_elem?}
use Rattle.scr_board.specs.declared.lists.Progress.{Progress}
use Rattle.scr_board.specs.declared.lists.Round.{Round}
use Rattle.scr_board.specs.Counts.{one_if, times}
use Rattle.scr_board.specs.States.{State, arrivals, deliveries, mark_of, marked_share, named, share_of, written}
use Rattle.scr_board.specs.Events.{drawn, draws, enters}
use Rattle.scr_board.specs.Sound.{IsKept, IsOwn, IsSound}
use Rattle.scr_board.proofs.Totals.{each_at, each_set, total_set}
use Rattle.scr_board.proofs.Members.{get-below, get-past, take-whole, times-next}

-- a node that enters the hand has no word stored
pub none_stored : (b : Bool) (j : ℕ) → one_if (b && nat_lt j 0) ≡ 0
none_stored false j = refl
none_stored true j = grind (arith, nat_tests)

pub written-enters : (n m j : ℕ) (p : Progress) → written m j (enters n p) ≡ written m j p
written-enters n m j p = let none = none_stored (nat_eq m n) j in omega (arith, none)

module _ (round : Round) (workers : ℕ) (s : State) (sound : IsSound round workers s) (id : ℕ) (p : Progress)
    (at : get_elem? s.passes id ≡ some p) (unmarked : p.marked ≡ false) (part : 0 < p.share) where
  by_place : (o : Option ℕ) → slice_get round.starts s.ticket ≡ o
      → IsSound round workers (record s { ticket = s.ticket + 1; passes = set s.passes id (draws o p) })
  by_place (Some n) e =
      let q : Progress = enters n p in
      let below = get-below round.starts s.ticket n e in
      record {
        names = λ m.
            let next = times-next m round.starts s.ticket n e in
            let change = total_set (named m) s.passes id p q at in
            let before = sound.names m in
            omega (arith, next, change, before);
        counts = λ m. let change = total_set (arrivals round m) s.passes id p q at in let before = sound.counts m in omega (arith, change, before);
        single = λ m k. let change = total_set (deliveries m k) s.passes id p q at in let before = sound.single m k in omega (arith, change, before);
        own = each_set IsOwn s.passes id q sound.own (each_at IsOwn s.passes id p sound.own at);
        worked = λ m j low pos.
            let change = total_set (written m j) s.passes id p q at in
            let same = written-enters n m j p in
            sound.worked m j low (omega (arith, change, same, pos));
        marks = λ pos. let change = total_set mark_of s.passes id p q at in let before = sound.marks (omega (arith, change, pos)) in omega (arith, before);
        ticket = omega (arith, below);
        kept = each_set IsKept s.passes id q sound.kept (λ none. absurd (omega (arith, none, part)));
        shares = let change = total_set share_of s.passes id p q at in let before = sound.shares in omega (arith, change, before);
      }
  by_place None e =
      let q : Progress = record p { marked = true } in
      let past = get-past round.starts s.ticket e in
      let unshared : marked_share p ≡ 0 = ap (λ b. if b then p.share else 0) unmarked in
      let unseen : mark_of p ≡ 0 = ap one_if unmarked in
      record {
        names = λ m.
            let now = ap (times m) (take-whole round.starts s.ticket past) in
            let next = ap (times m) (take-whole round.starts (s.ticket + 1) (omega (arith, past))) in
            let change = total_set (named m) s.passes id p q at in
            let before = sound.names m in
            omega (arith, now, next, change, before);
        counts = λ m. let change = total_set (arrivals round m) s.passes id p q at in let before = sound.counts m in omega (arith, change, before);
        single = λ m k. let change = total_set (deliveries m k) s.passes id p q at in let before = sound.single m k in omega (arith, change, before);
        own = each_set IsOwn s.passes id q sound.own (each_at IsOwn s.passes id p sound.own at);
        worked = λ m j low pos. let change = total_set (written m j) s.passes id p q at in sound.worked m j low (omega (arith, change, pos));
        marks = λ pos. omega (arith, past);
        ticket =
            let change = total_set marked_share s.passes id p q at in
            let before = sound.ticket in
            omega (arith, change, before, unshared, part);
        kept = each_set IsKept s.passes id q sound.kept (λ none. absurd (omega (arith, none, part)));
        shares = let change = total_set share_of s.passes id p q at in let before = sound.shares in omega (arith, change, before);
      }

  pub draw_keeps : IsSound round workers (drawn round s id p)
  draw_keeps = by_place (slice_get round.starts s.ticket) refl
