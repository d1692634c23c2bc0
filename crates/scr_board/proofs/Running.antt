-- Every state that a run leads to is sound.
use Rattle.std.proofs.Common.{◌≡◌, ℕ, ◌<◌, List, [], ◌∷◌, length, take, refl, sym, ap, ◌∙◌, subst, arith}
use Rattle.std.specs.List.{AllByRecursion}
use Rattle.scr_board.specs.declared.lists.Round.{Round}
use Rattle.scr_board.specs.Counts.{times, total}
use Rattle.scr_board.specs.Rounds.{IsFormed, sources_of}
use Rattle.scr_board.specs.States.{State, arrivals, deliveries, mark_of, named, share_of, written}
use Rattle.scr_board.specs.Events.{IsStep, draw, load, store, deliver, split_off, join, first, final}
use Rattle.scr_board.specs.Sound.{IsKept, IsOpening, IsOwn, IsRun, IsSound, freed, opens, goes_on}
use Rattle.scr_board.proofs.Drawing.{draw_keeps}
use Rattle.scr_board.proofs.Storing.{store_keeps}
use Rattle.scr_board.proofs.Delivering.{deliver_keeps}
use Rattle.scr_board.proofs.Sharing.{join_keeps, split_keeps}

freed-whole : (xs : List ℕ) → freed xs (length xs) ≡ 0
freed-whole [] = refl
freed-whole (x ∷ xs) = refl

times-take-none : (n : ℕ) (xs : List ℕ) → times n (take 0 xs) ≡ 0
times-take-none n [] = refl
times-take-none n (x ∷ xs) = refl

module _ (round : Round) (workers : ℕ) where
  pub opening_sound : (s : State) → 0 < workers → IsOpening round workers s → IsSound round workers s
  opening_sound s some_workers h = record {
    names = λ n.
        let none = ap (total (named n)) h.passes in
        let front = ap (λ t. times n (take t round.starts)) h.ticket ∙ times-take-none n round.starts in
        let free = ap (freed (sources_of round n)) (h.left n) ∙ freed-whole (sources_of round n) in
        omega (arith, none, front, free);
    counts = λ n. let none = ap (total (arrivals round n)) h.passes in let left = h.left n in omega (arith, none, left);
    single = λ n k. let none = ap (total (deliveries n k)) h.passes in omega (arith, none);
    own = subst (AllByRecursion IsOwn) (sym h.passes) ((λ n k there. absurd (omega (arith, there))), tt);
    worked = λ n j low there. let none = ap (total (written n j)) h.passes in absurd (omega (arith, none, there));
    marks = λ there. let none = ap (total mark_of) h.passes in absurd (omega (arith, none, there));
    ticket = let zero_ticket = h.ticket in omega (arith, zero_ticket);
    kept = subst (AllByRecursion IsKept) (sym h.passes) ((λ none. absurd (omega (arith, none, some_workers))), tt);
    shares = let all = ap (total share_of) h.passes in omega (arith, all);
  }

  pub step_keeps : IsFormed round → (s t : State) → IsStep round s t → IsSound round workers s → IsSound round workers t
  step_keeps form s _ (draw id p at unmarked part) sound = draw_keeps round workers s sound id p at unmarked part
  step_keeps form s _ (load id p n j at may low) sound = sound
  step_keeps form s _ (store id p n at pos last) sound = store_keeps round workers s sound id p n at pos last
  step_keeps form s _ (deliver id p n k d at put place new) sound = deliver_keeps round form workers s sound id p n k d at put place new
  step_keeps form s _ (split_off id p at unmarked parts) sound = split_keeps round workers s sound id p at unmarked parts
  step_keeps form s _ (join id other p o at there apart marked too part part_too) sound =
      join_keeps round workers s sound id p at other o there apart marked too part
  step_keeps form s _ (first id p at) sound = sound
  step_keeps form s _ (final n j) sound = sound

  pub run_sound : IsFormed round → 0 < workers → (s : State) → IsRun round workers s → IsSound round workers s
  run_sound form some_workers _ (opens s h) = opening_sound s some_workers h
  run_sound form some_workers _ (goes_on s t run step) = step_keeps form s t step (run_sound form some_workers s run)
