-- The seats of a board that has just been opened.
use Rattle.std.proofs.Common.{◌≡◌, ℕ, suc, ◌+◌, ◌*◌, ◌<◌, ◌≤◌, [], length, sym, ap, ◌∙◌, subst, arith}
use Rattle.std.specs.Prelude.{⊤}
use Rattle.atomic_table.specs.declared.shared.Seat.{Seat}
use Rattle.atomic_table.specs.Table.{Allows, Splits, Step}
use Rattle.scr_board.specs.declared.lists.Progress.{Progress}
use Rattle.scr_board.specs.declared.lists.Round.{Round}
use Rattle.scr_board.specs.Sound.{IsOwn}
use Rattle.scr_board.specs.States.{fresh, named}
use Rattle.scr_board.specs.declared.board.Board.{Board}
use Rattle.scr_board.specs.declared.views.View.{View}
use Rattle.scr_board.specs.Making.{IsUnused, opening_words}
use Rattle.scr_board.specs.Plays.{Sat, begun}
use Rattle.scr_board.specs.BoardRounds.{BoardRound, IsBoardRound, lists_of}
use Rattle.scr_board.specs.Rule.{Holds}
use Rattle.scr_board.specs.Views.{blank, opened, view_fresh, view_split}
use Rattle.scr_board.proofs.Allowed.{first_allowed, split_allowed}
use Rattle.scr_board.proofs.Opening.{opening}
use Rattle.scr_board.proofs.Seats.{count-lists}

-- the first load of a board is allowed
pub opens : (slots id : ℕ) (me : Sat) (st : Step ⊤) (round : BoardRound) (lists : Round) (named_workers workers : ℕ) → IsBoardRound round
    → lists ≡ lists_of round → named_workers ≡ workers → 0 < workers → workers ≤ 64 → me ≡ (blank (opening_words round), [])
    → Allows Holds slots id me 0 (λ n. n) (begun lists named_workers st me)
opens slots id me st round lists named_workers workers formed is same some most me_is =
    subst (λ (m : Sat). Allows Holds slots id m 0 (λ n. n) (begun lists named_workers st m)) (sym me_is)
    (subst (λ (R : Round). Allows Holds slots id (blank (opening_words round), []) 0 (λ n. n) (begun R named_workers st (blank (opening_words round), []))) (sym is)
    (subst (λ w. Allows Holds slots id (blank (opening_words round), []) 0 (λ n. n) (begun (lists_of round) w st (blank (opening_words round), []))) (sym same)
    (first_allowed slots id (opening_words round) [] (lists_of round) workers st formed.form
    (let count = count-lists round in let few = formed.few in omega (arith, count, few)) some most (opening round))))

pub unused_opened : (board : Board) (round : BoardRound) (old new : Seat ⊤ View) (lists : Round) (named_workers : ℕ) → IsBoardRound round
    → lists ≡ lists_of round → named_workers ≡ board.workers → 0 < board.workers → new.table_id ≡ board.table.shared.table_id
    → board.table.shared.table_id.words ≡ 5 * length round.places + 1 → board.table.shared.table_id.slots ≡ 0 → board.starts.items ≡ round.starts
    → board.dependants ≡ round.dependants → old.me ≡ (blank (opening_words round), [])
    → new.me ≡ (opened lists named_workers, old.me.1) → IsUnused board round board.workers new
unused_opened board round old new lists named_workers formed is same some table words slotless starts dependants old_is me = record {
  of_board = record {
    table = table;
    slots = ap (λ (m : Sat). m.1) me ∙ ap (λ (m : Sat). m.1) old_is;
    round = round;
    formed = formed;
    lists = ap (λ (m : Sat). m.0.round) me ∙ is;
    starts = sym starts;
    dependants = sym dependants;
    words = words;
    slotless = slotless;
    workers = ap (λ (m : Sat). m.0.workers) me ∙ same;
    part = let share = ap (λ (m : Sat). m.0.progress.share) me in omega (arith, share, same, some);
    nodes = λ n there. let none = ap (λ (m : Sat). named n m.0.progress) me in absurd (omega (arith, none, there));
    own = subst (λ (m : Sat). IsOwn m.0.progress) (sym me) (λ n k there. absurd (omega (arith, there)));
  };
  lists = ap (λ (m : Sat). m.0.round) me ∙ is;
  fresh = ap (λ (m : Sat). m.0.progress) me ∙ ap fresh same;
}

-- a part of one may be cut off
pub unused_splits : (board : Board) (round : BoardRound) (share id : ℕ) (seat : Seat ⊤ View) → IsUnused board round (suc share) seat → 0 < share
    → Splits Holds id seat.me.0 (view_split seat.me.0) (view_fresh seat.me.0)
unused_splits board round share id seat h some =
    split_allowed id seat.me.0 (let is = ap (λ (p : Progress). p.share) h.fresh in omega (arith, is, some)) (ap (λ (p : Progress). p.marked) h.fresh)
