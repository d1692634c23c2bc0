-- What a hand has reckoned, piece by piece.
use Rattle.std.proofs.Common.{◌≡◌, ℕ, ◌+◌, false, List, [], ◌∷◌, ◌++◌, length, sym, ap, ◌∙◌, subst, arith}
use Rattle.std.specs.Prelude.{sum_by}
use Rattle.std.specs.List.{AllByRecursion}
use Rattle.std.proofs.lemmas.List.Sums.{sum_by-cons, sum_by_push}
use Rattle.scr_num.specs.declared.span.Span.{Span}
use Rattle.scr_board.specs.declared.lists.Progress.{Progress}
use Rattle.scr_board.specs.Counts.{times}
use Rattle.scr_board.specs.declared.board.Board.{Board}
use Rattle.scr_board.specs.declared.board.Pass.{Pass}
use Rattle.scr_board.specs.declared.views.View.{View}
use Rattle.scr_board.specs.Passes.{IsPassOf, IsSameRoom, progress, puts, view}
use Rattle.scr_board.specs.Plays.{AreNamedOnce}
use Rattle.scr_board.specs.BoardRounds.{lists_of}
use Rattle.scr_board.specs.Views.{with_progress}
use Rattle.scr_board.specs.Working.{IsDone, stacked}
use Rattle.scr_board.proofs.Delivered.{delivered_all, put_then}
use Rattle.scr_parallel.specs.declared.hands.Hand.{Hand}
use Rattle.scr_parallel.specs.declared.rows.Part.{Part}
use Rattle.scr_parallel.specs.declared.rows.Piece.{Piece}
use Rattle.scr_parallel.specs.declared.rows.Sort.{Sort}
use Rattle.scr_parallel.specs.Apart.{apart_round}
use Rattle.scr_parallel.specs.PieceForming.{no-dependants}
use Rattle.scr_parallel.specs.Hands.{AreSorted, HasDrawn, HasEnded, IsAtWork, IsOpen, IsReckoned, row_times}
use Rattle.scr_parallel.specs.Pieces.{IsPieceReckoned, piece_at}
use Rattle.scr_parallel.specs.Rows.{ArePiecesWithin, AreOfRows, IsPart, IsWithin, row_count, rows_in, rows_of, times_row}
use Rattle.scr_parallel.proofs.Counted.{times_row-append}
use Rattle.scr_parallel.proofs.Pushed.{each-push, of_rows-append, rows_of-push}

module _ (count : Sort → ℕ) (is_row : Sort → ℕ → List Span → Type 0) (pieces : List Piece) where
  -- ---- what a part holds

  reckoned-none : (part : Part) (put : List ℕ) → part.pieces.items ≡ [] → part.spans.items ≡ [] → put ≡ [] → IsReckoned count is_row pieces put part
  reckoned-none part put no_pieces no_spans none = record {
    part_is = subst (λ ps. AreOfRows is_row (rows_of ps) part.spans.items) (sym no_pieces) no_spans;
    within = subst (λ ps. AllByRecursion (IsWithin count) ps) (sym no_pieces) tt;
    rows = λ one. ap (λ ps. times_row one (rows_of ps)) no_pieces ∙ sym (ap (row_times one pieces) none);
  }

  reckoned-next : (put : List ℕ) (old now : Part) (n : ℕ) → IsReckoned count is_row pieces put old → IsPieceReckoned is_row (piece_at pieces n) old now
      → IsWithin count (piece_at pieces n) → IsReckoned count is_row pieces (n ∷ put) now
  reckoned-next put old now n so_far next low = record {
    part_is = subst (λ xs. AreOfRows is_row (rows_of now.pieces.items) xs) (sym next.spans)
        (subst (λ rows. AreOfRows is_row rows (old.spans.items ++ next.own)) (sym rows_are)
        (of_rows-append is_row (rows_of old.pieces.items) (rows_in (piece_at pieces n)) old.spans.items next.own so_far.part_is next.rows));
    within = subst (AllByRecursion (IsWithin count)) (sym next.pieces)
        (each-push (IsWithin count) old.pieces.items (piece_at pieces n) so_far.within low);
    rows = λ one.
        let all = ap (times_row one) rows_are in
        let both = times_row-append one (rows_of old.pieces.items) (rows_in (piece_at pieces n)) in
        let before = so_far.rows one in
        let sum = sum_by-cons (λ m. times_row one (rows_in (piece_at pieces m))) n put in
        omega (arith, all, both, before, sum);
  }
    where
      rows_are : rows_of now.pieces.items ≡ rows_of old.pieces.items ++ rows_in (piece_at pieces n)
      rows_are = ap rows_of next.pieces ∙ rows_of-push old.pieces.items (piece_at pieces n)

  -- ---- hands

  pub opened : (board : Board) (hand : Hand) → IsOpen board pieces hand → IsAtWork board count is_row pieces hand
  opened board hand is = record {
    between = record {
      ready = is.fresh.ready;
      unmarked = ap (λ (p : Progress). p.marked) is.fresh.fresh;
      hand = ap (λ (p : Progress). p.hand) is.fresh.fresh ∙ sym (ap (λ xs. stacked xs []) is.fresh.empty);
      all = λ m i d put at.
          let none : times m (progress hand.pass).put ≡ 0 = ap (λ (p : Progress). times m p.put) is.fresh.fresh in
          absurd (omega (arith, put, none));
      once = subst (λ (p : Progress). AreNamedOnce (lists_of (apart_round (length pieces))) p) (sym is.fresh.fresh)
          (record { once = λ n. omega arith; few = omega arith });
    };
    empty = is.fresh.empty;
    reckoned = reckoned-none hand.part (progress hand.pass).put is.no_pieces is.no_spans (ap (λ (p : Progress). p.put) is.fresh.fresh);
    not_full = is.not_full;
  }

  module _ (board : Board) (old : Hand) (n : ℕ) (drawn : HasDrawn board count is_row pieces old n) (pass : Pass) (part : Part)
      (pass_is : IsPassOf board pass) (room : IsSameRoom old.pass pass)
      (is : view pass ≡ with_progress (view old.pass) (puts n (progress old.pass)))
      (once : AreNamedOnce (view pass).round (progress pass)) where
    put_is : (progress pass).put ≡ n ∷ (progress old.pass).put
    put_is = ap (λ (v : View). v.progress.put) is

    pub put-longer : length (progress pass).put ≡ length (progress old.pass).put + 1
    put-longer = let long = ap (λ (xs : List ℕ). length xs) put_is in omega (arith, long)

    pub put-next : IsPieceReckoned is_row (piece_at pieces n) old.part part → IsWithin count (piece_at pieces n)
        → IsAtWork board count is_row pieces (record { pass = pass; part = part; full = old.full })
    put-next reckoned low = record {
      between =
          let none = ap (λ (xs : List ℕ). length xs) (no-dependants (length pieces) n) in
          delivered_all board (apart_round (length pieces)) pass n 0
          (put_then board (apart_round (length pieces)) old.pass pass n drawn.taken pass_is room is once) (omega (arith, none));
      empty = ap (λ v. v.items) room.hand ∙ drawn.empty;
      reckoned = subst (λ put. IsReckoned count is_row pieces put part) (sym put_is)
          (reckoned-next (progress old.pass).put old.part part n drawn.reckoned reckoned low);
      not_full = drawn.not_full;
    }

  -- ---- what was sorted

  pub sorted-none : (board : Board) (passes : List Pass) (parts : List Part) → passes ≡ [] → parts ≡ [] → AreSorted board count is_row pieces passes parts
  sorted-none board passes parts no_passes no_parts = record {
    done = subst (AllByRecursion (IsDone board (apart_round (length pieces)))) (sym no_passes) tt;
    each = subst (AllByRecursion (IsPart is_row)) (sym no_parts) tt;
    within = subst (AllByRecursion (ArePiecesWithin count)) (sym no_parts) tt;
    rows = λ one. ap (row_count one) no_parts ∙ sym (ap (sum_by (λ pass. row_times one pieces (progress pass).put)) no_passes);
  }

  pub sorted-next : (board : Board) (passes : List Pass) (parts : List Part) (hand : Hand) → AreSorted board count is_row pieces passes parts
      → HasEnded board count is_row pieces hand → hand.full ≡ false
      → AreSorted board count is_row pieces (passes ++ hand.pass ∷ []) (parts ++ hand.part ∷ [])
  sorted-next board passes parts hand so_far ended not_full =
      let reckoned = ended.reckoned not_full in
      record {
        done = each-push (IsDone board (apart_round (length pieces))) passes hand.pass so_far.done (ended.done not_full);
        each = each-push (IsPart is_row) parts hand.part so_far.each reckoned.part_is;
        within = each-push (ArePiecesWithin count) parts hand.part so_far.within reckoned.within;
        rows = λ one.
            let before = so_far.rows one in
            let own = reckoned.rows one in
            let a = sum_by_push (λ (part : Part). times_row one (rows_of part.pieces.items)) parts hand.part in
            let b = sum_by_push (λ (pass : Pass). row_times one pieces (progress pass).put) passes hand.pass in
            omega (arith, before, own, a, b);
      }
