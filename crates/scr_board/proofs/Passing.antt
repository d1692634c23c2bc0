-- What a pass knows stays known after each call.
use Rattle.std.proofs.Common.{◌≡◌, ℕ, ◌<◌, List, [], ◌∷◌, Option, Some, None, get_or, slice_get, refl, sym, ap, ◌∙◌, subst, arith}
use Rattle.std.specs.List.{AllByRecursion}
use Rattle.scr_num.specs.Rounding.{Ends}
use Rattle.scr_board.specs.declared.lists.Progress.{Progress}
use Rattle.scr_board.specs.Rounds.{word_of}
use Rattle.scr_board.specs.States.{holds, stored_of}
use Rattle.scr_board.specs.Events.{draws}
use Rattle.scr_board.specs.declared.board.Board.{Board}
use Rattle.scr_board.specs.declared.board.Pass.{Pass}
use Rattle.scr_board.specs.declared.views.View.{View}
use Rattle.scr_board.specs.Passes.{IsFigureAt, IsPassOf, IsSeatOf, IsUnstored, progress, puts, view}
use Rattle.scr_board.specs.Views.{view_drawn, view_stored, with_progress}
use Rattle.scr_board.specs.Words.{AreEnds, lower, upper}
use Rattle.scr_board.proofs.Figures.{figure-word}
use Rattle.scr_board.proofs.Fitting.{span-words}
use Rattle.scr_board.proofs.Puts.{first_left, none_yet, second_left, third_left, unstored-without, writes-four}

module _ (board : Board) (old new : Pass) (h : IsPassOf board old) (seat : IsSeatOf board new.seat) where
  kept : (p : Progress) → progress new ≡ p → p.share ≡ 1 → AllByRecursion IsUnstored p.hand → IsPassOf board new
  kept p is share unstored = record {
    seat = seat;
    share = ap (λ (q : Progress). q.share) is ∙ share;
    unstored = subst (λ (q : Progress). AllByRecursion IsUnstored q.hand) (sym is) unstored;
  }

  pub pass_drawn : (t : ℕ) → view new ≡ view_drawn t (view old) → IsPassOf board new
  pass_drawn t is = kept (draws (slice_get (view old).round.starts t) (progress old)) (ap (λ (v : View). v.progress) is)
      (share (slice_get (view old).round.starts t)) (unstored (slice_get (view old).round.starts t))
    where
      share : (o : Option ℕ) → (draws o (progress old)).share ≡ 1
      share (Some n) = h.share
      share None = h.share

      unstored : (o : Option ℕ) → AllByRecursion IsUnstored (draws o (progress old)).hand
      unstored (Some n) = (refl, h.unstored)
      unstored None = h.unstored

  pub pass_put : (n : ℕ) → view new ≡ with_progress (view old) (puts n (progress old)) → IsPassOf board new
  pass_put n is = kept (puts n (progress old)) (ap (λ (v : View). v.progress) is) h.share (unstored-without n (progress old).hand h.unstored)

-- ---- the stores of a put

module _ (v : View) (n : ℕ) (figure : Ends) (are : AreEnds figure) (at : IsFigureAt v.round n figure) where
  -- the listed word is that of the figure
  pub listed : (j x : ℕ) → x ≡ get_or (upper figure.low ∷ lower figure.low ∷ upper figure.high ∷ lower figure.high ∷ []) j 0 → x ≡ word_of v.round n j
  listed j x is =
      is ∙ sym (ap (λ (ws : List ℕ). get_or ws j 0) (span-words figure are)) ∙ sym (figure-word at.0 v.round n j figure at.1 at.2)

module _ (v : View) (n : ℕ) (h : AllByRecursion IsUnstored v.progress.hand) (pos : 0 < holds n v.progress.hand) where
  -- the views after each store of a put
  abbrev pub v1 : View
  v1 = view_stored n v

  abbrev pub v2 : View
  v2 = view_stored n (view_stored n v)

  abbrev pub v3 : View
  v3 = view_stored n (view_stored n (view_stored n v))

  pub stored_first : stored_of n v.progress.hand ≡ 0
  stored_first = none_yet n v.progress h pos

  pub held_second : 0 < holds n v1.progress.hand
  held_second = let same = (first_left n v.progress h pos).0 in omega (arith, same, pos)

  pub stored_second : stored_of n v1.progress.hand ≡ 1
  stored_second = (first_left n v.progress h pos).1

  pub held_third : 0 < holds n v2.progress.hand
  held_third = let same = (second_left n v.progress h pos).0 in omega (arith, same, pos)

  pub stored_third : stored_of n v2.progress.hand ≡ 2
  stored_third = (second_left n v.progress h pos).1

  pub held_fourth : 0 < holds n v3.progress.hand
  held_fourth = let same = (third_left n v.progress h pos).0 in omega (arith, same, pos)

  pub stored_fourth : stored_of n v3.progress.hand ≡ 3
  stored_fourth = (third_left n v.progress h pos).1

  pub stored_all : view_stored n (view_stored n (view_stored n (view_stored n v))) ≡ with_progress v (puts n v.progress)
  stored_all = ap (with_progress v) (writes-four n v.progress h pos)
