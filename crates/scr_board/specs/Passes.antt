-- The passes of a board.
use Rattle.std.specs.Prelude.{◌≡◌, ℕ, ◌+◌, ◌*◌, ◌<◌, List, [], ◌∷◌, Option, Some, None, ⊤, length, if◌then◌else◌, nat_eq}
use Rattle.std.specs.Prelude.{slice_get}
use Rattle.std.specs.List.{AllByRecursion}
use Rattle.atomic_table.specs.declared.shared.Seat.{Seat}
use Rattle.scr_num.specs.Rounding.{Ends}
use Rattle.scr_board.specs.declared.lists.Held.{Held}
use Rattle.scr_board.specs.declared.lists.Progress.{Progress}
use Rattle.scr_board.specs.declared.lists.Round.{Round}
use Rattle.scr_board.specs.States.{named}
use Rattle.scr_board.specs.Sound.{IsOwn}
use Rattle.scr_board.specs.declared.views.View.{View}
use Rattle.scr_board.specs.declared.board.Board.{Board}
use Rattle.scr_board.specs.declared.board.Pass.{Pass}
use Rattle.scr_board.specs.BoardRounds.{BoardRound, IsBoardRound, lists_of}

-- The view of the pass at a seat (own).
abbrev pub seen_by : Seat ⊤ View → View
seen_by seat = seat.me.0

-- what the pass knows
abbrev pub view : Pass → View
view pass = pass.seat.me.0

-- The progress of a pass, read from the view at its seat (own).
abbrev pub progress : Pass → Progress
progress pass = pass.seat.me.0.progress

-- no word of a node in the hand is stored
abbrev pub IsUnstored : Held → Type 0
IsUnstored h = h.stored ≡ 0

-- the seat is one of this board and knows the board's round, and its pass is not spent
pub record IsSeatOf (board : Board) (seat : Seat ⊤ View) : Type 0 where
  pub table : seat.table_id ≡ board.table.shared.table_id
  pub slots : seat.me.1 ≡ []
  pub round : BoardRound
  pub formed : IsBoardRound round
  pub lists : seat.me.0.round ≡ lists_of round
  pub starts : round.starts ≡ board.starts.items
  pub dependants : round.dependants ≡ board.dependants
  pub words : board.table.shared.table_id.words ≡ 5 * length round.places + 1
  pub slotless : board.table.shared.table_id.slots ≡ 0
  pub workers : seat.me.0.workers ≡ board.workers
  pub part : 0 < seat.me.0.progress.share
  pub nodes : (n : ℕ) → 0 < named n seat.me.0.progress → n < length round.places
  pub own : IsOwn seat.me.0.progress

-- a pass of this board: it has the share of one worker, and each node in its hand waits for its figure
pub record IsPassOf (board : Board) (pass : Pass) : Type 0 where
  pub seat : IsSeatOf board pass.seat
  pub share : (progress pass).share ≡ 1
  pub unstored : AllByRecursion IsUnstored (progress pass).hand

-- n leaves the hand
abbrev pub without : ℕ → List Held → List Held
without n [] = []
without n (h ∷ hand) = if nat_eq n h.node then hand else h ∷ without n hand

-- and is put
abbrev pub puts : ℕ → Progress → Progress
puts n p = record p { hand = without n p.hand; put = n ∷ p.put }

-- what a delivery tells: the dependant, where the source was the last that it waited for
abbrev pub last_of : ℕ → ℕ → Option ℕ
last_of left d = if nat_eq left 1 then Some d else None

-- the figure of node n in the round that has these lists
abbrev pub IsFigureAt : Round → ℕ → Ends → Type 0
IsFigureAt lists n figure = (round : BoardRound) × (lists ≡ lists_of round) × (slice_get round.worked n ≡ Some figure)

-- the room that a pass works in stays as it was
pub record IsSameRoom (old new : Pass) : Type 0 where
  pub hand : new.hand ≡ old.hand
  pub got : new.got ≡ old.got
