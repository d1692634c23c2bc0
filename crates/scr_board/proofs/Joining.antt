-- What the passes that are joined did is what all of them did.
use Rattle.std.proofs.Common.{◌≡◌, ℕ, zero, suc, ◌+◌, ◌<◌, ◌&&◌, nat_eq, List, [], ◌∷◌, ◌++◌, length, refl, sym, ap, ◌∙◌, subst, arith}
use Rattle.scr_board.specs.declared.lists.Progress.{Progress}
use Rattle.scr_board.specs.declared.lists.Round.{Round}
use Rattle.scr_board.specs.Counts.{one_if, times}
use Rattle.scr_board.specs.States.{deliveries, named}
use Rattle.scr_board.specs.Events.{joins}
use Rattle.scr_board.specs.Sound.{IsAtEnd, IsOwn}
use Rattle.std.specs.Prelude.{⊤}
use Rattle.std.specs.List.{AllByRecursion}
use Rattle.std.proofs.lemmas.List.{length-append, length_push}
use Rattle.std.proofs.lemmas.List.Sums.{sum_by_push}
use Rattle.atomic_table.specs.declared.shared.Seat.{Seat}
use Rattle.scr_board.proofs.Ending.{joined_end}
use Rattle.scr_board.proofs.Totals.{total_append}
use Rattle.scr_board.specs.declared.board.Board.{Board}
use Rattle.scr_board.specs.declared.board.Pass.{Pass}
use Rattle.scr_board.specs.declared.views.View.{View}
use Rattle.scr_board.specs.Closing.{AreDone, HasJoined, puts_of, put_count}
use Rattle.scr_board.specs.Passes.{progress}
use Rattle.scr_board.specs.Plays.{Sat}
use Rattle.scr_board.specs.BoardRounds.{BoardRound}
use Rattle.scr_board.specs.Views.{view_joined}
use Rattle.scr_board.specs.Working.{IsDone}
use Rattle.scr_board.proofs.Seats.{count-lists}

own_joins : (p o : Progress) → IsOwn p → IsOwn o → IsOwn (joins p o)
own_joins p o a b n k pos =
    let puts = total_append (λ x. one_if (nat_eq n x)) p.put o.put in
    let sent = total_append (λ e. one_if (nat_eq n e.node && nat_eq k e.place)) p.delivered o.delivered in
    by (deliveries n k p) refl (omega (arith, sent, pos)) (omega (arith, puts))
  where
    by : (x : ℕ) → deliveries n k p ≡ x → 0 < deliveries n k p + deliveries n k o → times n (joins p o).put ≡ times n p.put + times n o.put
        → 0 < times n (joins p o).put
    by zero e some_sent puts = let put = b n k (omega (arith, e, some_sent)) in omega (arith, put, puts)
    by (suc x) e some_sent puts = let put = a n k (omega (arith, e)) in omega (arith, put, puts)

named_joins : (n : ℕ) (p o : Progress) → named n (joins p o) ≡ named n p + named n o
named_joins n p o =
    let hands = total_append (λ h. one_if (nat_eq n h.node)) p.hand o.hand in
    let puts = total_append (λ x. one_if (nat_eq n x)) p.put o.put in
    omega (arith, hands, puts)

each_front : (P : Pass → Type 0) (xs : List Pass) (y : Pass) → AllByRecursion P (xs ++ y ∷ []) → AllByRecursion P xs
each_front P [] y h = tt
each_front P (x ∷ xs) y h = (h.0, each_front P xs y h.1)

each_last : (P : Pass → Type 0) (xs : List Pass) (y : Pass) → AllByRecursion P (xs ++ y ∷ []) → P y
each_last P [] y h = h.0
each_last P (x ∷ xs) y h = each_last P xs y h.1

-- the last pass by itself
pub joined_first : (board : Board) (round : BoardRound) (all rest : List Pass) (first : Pass) → all ≡ rest ++ first ∷ [] → AreDone board round all
    → HasJoined board round all rest first.seat
joined_first board round all rest first is done =
    let last = each_last (IsDone board round) rest first (subst (AllByRecursion (IsDone board round)) is done.each) in
    let count = done.count in
    let long : length all ≡ length rest + 1 = ap (λ (xs : List Pass). length xs) is ∙ length_push rest first in
    let one = last.of_board.share in
    record {
      of_board = last.of_board.seat;
      formed = last.formed;
      lists = last.lists;
      end = last.end;
      share = omega (arith, count, long, one);
      each = λ n. sym (ap (puts_of n) is ∙ sum_by_push (λ pass. times n (progress pass).put) rest first);
      count = sym (ap put_count is ∙ sum_by_push (λ pass. length (progress pass).put) rest first);
    }

pub rest_done : (board : Board) (round : BoardRound) (all rest : List Pass) (last : Pass) → all ≡ rest ++ last ∷ []
    → AllByRecursion (IsDone board round) all → AllByRecursion (IsDone board round) rest
rest_done board round all rest last is each = each_front (IsDone board round) rest last (subst (AllByRecursion (IsDone board round)) is each)

pub last_done : (board : Board) (round : BoardRound) (all rest : List Pass) (last : Pass) → all ≡ rest ++ last ∷ []
    → AllByRecursion (IsDone board round) all → IsDone board round last
last_done board round all rest last is each = each_last (IsDone board round) rest last (subst (AllByRecursion (IsDone board round)) is each)

-- and one pass more
module _ (board : Board) (round : BoardRound) (all before rest : List Pass) (other : Pass) (old new : Seat ⊤ View) (is : before ≡ rest ++ other ∷ [])
    (h : HasJoined board round all before old) (done : IsDone board round other) (table : new.table_id ≡ old.table_id)
    (me : new.me ≡ (view_joined old.me.0 other.seat.me.0, old.me.1)) where
  abbrev both : Progress
  both = joins old.me.0.progress other.seat.me.0.progress

  now : new.me.0.progress ≡ both
  now = ap (λ (m : Sat). m.0.progress) me

  pub joined_next : HasJoined board round all rest new
  joined_next =
      let one = done.of_board.share in
      let share = h.share in
      let long : length before ≡ length rest + 1 = ap (λ (xs : List Pass). length xs) is ∙ length_push rest other in
      let share_is : new.me.0.progress.share ≡ old.me.0.progress.share + other.seat.me.0.progress.share = ap (λ (p : Progress). p.share) now in
      record {
        of_board = record {
          table = table ∙ h.of_board.table;
          slots = ap (λ (m : Sat). m.1) me ∙ h.of_board.slots;
          round = h.of_board.round;
          formed = h.of_board.formed;
          lists = ap (λ (m : Sat). m.0.round) me ∙ h.of_board.lists;
          starts = h.of_board.starts;
          dependants = h.of_board.dependants;
          words = h.of_board.words;
          slotless = h.of_board.slotless;
          workers = ap (λ (m : Sat). m.0.workers) me ∙ h.of_board.workers;
          part = let part = h.of_board.part in omega (arith, share_is, part);
          nodes = λ n there.
              let names = ap (named n) now ∙ named_joins n old.me.0.progress other.seat.me.0.progress in
              which n (named n old.me.0.progress) refl (omega (arith, names, there));
          own = subst IsOwn (sym now) (own_joins old.me.0.progress other.seat.me.0.progress h.of_board.own done.of_board.seat.own);
        };
        formed = h.formed;
        lists = ap (λ (m : Sat). m.0.round) me ∙ h.lists;
        end =
            let mine : IsAtEnd old.me.0.round other.seat.me.0.progress = subst (λ (R : Round). IsAtEnd R other.seat.me.0.progress) (done.lists ∙ sym h.lists) done.end in
            subst (λ (m : Sat). IsAtEnd m.0.round m.0.progress) (sym me) (joined_end old.me.0.round old.me.0.progress other.seat.me.0.progress h.end mine);
        share = omega (arith, one, share, long, share_is);
        each = λ n.
            let puts = ap (λ (p : Progress). times n p.put) now in
            let parts = total_append (λ x. one_if (nat_eq n x)) old.me.0.progress.put other.seat.me.0.progress.put in
            let rest_is = ap (puts_of n) is ∙ sum_by_push (λ pass. times n (progress pass).put) rest other in
            let each = h.each n in
            omega (arith, puts, parts, rest_is, each);
        count =
            let puts = ap (λ (p : Progress). length p.put) now in
            let parts = length-append old.me.0.progress.put other.seat.me.0.progress.put in
            let rest_is = ap put_count is ∙ sum_by_push (λ pass. length (progress pass).put) rest other in
            let count = h.count in
            omega (arith, puts, parts, rest_is, count);
      }
    where
      -- the two passes are of one round
      same_long : length done.of_board.seat.round.places ≡ length h.of_board.round.places
      same_long =
          let a = ap (λ (R : Round). length R.sources) (sym done.of_board.seat.lists ∙ done.lists ∙ sym h.lists ∙ h.of_board.lists) in
          let b = count-lists done.of_board.seat.round in
          let c = count-lists h.of_board.round in
          omega (arith, a, b, c)

      which : (n x : ℕ) → named n old.me.0.progress ≡ x → 0 < named n old.me.0.progress + named n other.seat.me.0.progress → n < length h.of_board.round.places
      which n zero e there = let low = done.of_board.seat.nodes n (omega (arith, e, there)) in let same = same_long in omega (arith, low, same)
      which n (suc x) e there = h.of_board.nodes n (omega (arith, e))
