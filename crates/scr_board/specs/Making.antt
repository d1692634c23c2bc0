-- What a board is made from.
use Rattle.std.specs.Prelude.{◌≡◌, ℕ, ◌≤◌, List, [], ◌∷◌, ⊤, length}
use Rattle.std.specs.List.{AllByRecursion}
use Rattle.atomic_table.specs.declared.shared.Seat.{Seat}
use Rattle.scr_board.specs.States.{fresh}
use Rattle.scr_board.specs.declared.board.Board.{Board}
use Rattle.scr_board.specs.declared.views.View.{View}
use Rattle.scr_board.specs.Passes.{IsSeatOf}
use Rattle.scr_board.specs.BoardRounds.{BoardRound, Spot, lists_of, nodes_in}

-- the words of the nodes at the opening: how many sources each waits for, and room for its figure
abbrev pub node_words : List (List Spot) → List ℕ
node_words [] = []
node_words (row ∷ rows) = length (nodes_in row) ∷ 0 ∷ 0 ∷ 0 ∷ 0 ∷ node_words rows

-- The words of a board before its round: ticket 0, then five words a node: the number of its sources and a figure of four zeros
-- (own).
abbrev pub opening_words : BoardRound → List ℕ
opening_words round = 0 ∷ node_words round.places

-- no node has more places
abbrev pub AreWithin : ℕ → List (List Spot) → Type 0
AreWithin most places = AllByRecursion (λ row. length row ≤ most) places

-- the seat of a pass that has done nothing, with a share
pub record IsUnused (board : Board) (round : BoardRound) (share : ℕ) (seat : Seat ⊤ View) : Type 0 where
  pub of_board : IsSeatOf board seat
  pub lists : seat.me.0.round ≡ lists_of round
  pub fresh : seat.me.0.progress ≡ fresh share
