-- Where all is worked, the words of a node are those of its figure.
use Rattle.std.proofs.Common.{◌≡◌, ℕ, ◌+◌, ◌*◌, ◌<◌, List, [], Some, length, get_or, slice_get, refl, ap, ◌∙◌, subst, arith}
use Rattle.std.specs.Prelude.{slice_index, ⊤}
use Rattle.atomic_table.specs.Table.{Final, Seen}
use Rattle.atomic_table.specs.declared.shared.Seat.{Seat}
use Rattle.scr_num.specs.Rounding.{Ends}
use Rattle.scr_board.specs.declared.lists.Round.{Round}
use Rattle.scr_board.specs.Rounds.{count_of}
use Rattle.scr_board.specs.declared.board.Board.{Board}
use Rattle.scr_board.specs.declared.board.Pass.{Pass}
use Rattle.scr_board.specs.declared.views.View.{View}
use Rattle.scr_board.specs.Closing.{HasJoined, IsShown, puts_of, put_count}
use Rattle.scr_board.specs.BoardRounds.{BoardRound, IsBoardRound, lists_of}
use Rattle.scr_board.specs.Rule.{AreAllWorked, Holds}
use Rattle.scr_board.specs.Views.{word_at}
use Rattle.scr_board.specs.Words.{words_of}
use Rattle.scr_board.proofs.Allowed.{final_worked}
use Rattle.scr_board.proofs.Figures.{figure-word}
use Rattle.scr_board.proofs.Seats.{count-lists}

-- what the joined seat leaves
pub joined_worked : (board : Board) (round : BoardRound) (all : List Pass) (seat : Seat ⊤ View) (words : List ℕ) (slots : List ⊤)
    → HasJoined board round all [] seat → Final (Seen Holds seat.id seat.me.0) words slots → AreAllWorked (lists_of round) words seat.me.0.progress.put
joined_worked board round all seat words slots h final =
    let share = h.share in
    let workers = h.of_board.workers in
    let worked = final_worked final.0 seat.id seat.me.0 final.1.0 final.1.1 h.of_board.part (omega (arith, share, workers)) h.end in
    subst (λ ws. AreAllWorked (lists_of round) ws seat.me.0.progress.put) final.2
    (subst (λ (R : Round). AreAllWorked R final.0.words seat.me.0.progress.put) h.lists worked)

module _ (round : BoardRound) (words put : List ℕ) (worked : AreAllWorked (lists_of round) words put) where
  pub shown : (n : ℕ) (e : Ends) → IsBoardRound round → n < length round.places → slice_get round.worked n ≡ Some e → IsShown words n e
  shown n e formed node at =
      let count = count-lists round in
      let low : n < count_of (lists_of round) = omega (arith, count, node) in
      record {
        first = word n e at low 0 (5 * n + 2) (omega arith) (omega arith);
        second = word n e at low 1 (5 * n + 3) (omega arith) (omega arith);
        third = word n e at low 2 (5 * n + 4) (omega arith) (omega arith);
        fourth = word n e at low 3 (5 * n + 5) (omega arith) (omega arith);
      }
    where
      word : (m : ℕ) (f : Ends) → slice_get round.worked m ≡ Some f → m < count_of (lists_of round) → (j i : ℕ) → j < 4 → i ≡ word_at m j
          → slice_index words i ≡ get_or (words_of f) j 0
      word m f there low j i few is = ap (slice_index words) is ∙ worked.listed m j low few ∙ figure-word round (lists_of round) m j f refl there

module _ (board : Board) (round : BoardRound) (all : List Pass) (seat : Seat ⊤ View) (words : List ℕ) (h : HasJoined board round all [] seat)
    (worked : AreAllWorked (lists_of round) words seat.me.0.progress.put) where
  pub each_put : (n : ℕ) → n < length round.places → puts_of n all ≡ 1
  each_put n node =
      let each = h.each n in
      let count = count-lists round in
      let one = worked.each n (omega (arith, count, node)) in
      omega (arith, each, one)

  pub all_counted : put_count all ≡ length round.places
  all_counted =
      let sum = h.count in
      let count = count-lists round in
      let put = worked.count in
      omega (arith, sum, count, put)
