-- How far a worker has come with its pass.
use Rattle.std.specs.Prelude.{◌≡◌, ℕ, ◌<◌, ◌≤◌, ◌⊎◌, ◌≢◌, false, List, [], ◌∷◌, Some, length, slice_get, vec_capacity}
use Rattle.std.specs.List.{AllByRecursion}
use Rattle.scr_board.specs.declared.lists.Held.{Held}
use Rattle.scr_board.specs.declared.lists.Progress.{Progress}
use Rattle.scr_board.specs.Counts.{times}
use Rattle.scr_board.specs.Rounds.{dependants_of}
use Rattle.scr_board.specs.States.{deliveries, fresh, held}
use Rattle.scr_board.specs.Sound.{IsAtEnd}
use Rattle.scr_board.specs.declared.board.Board.{Board}
use Rattle.scr_board.specs.declared.board.Pass.{Pass}
use Rattle.scr_board.specs.Passes.{IsPassOf, progress, view}
use Rattle.scr_board.specs.Plays.{AreNamedOnce}
use Rattle.scr_board.specs.BoardRounds.{BoardRound, IsBoardRound, lists_of}

-- the nodes of a hand that is worked from its end, none of their words stored
abbrev pub stacked : List ℕ → List Held → List Held
stacked [] hand = hand
stacked (n ∷ nodes) hand = stacked nodes (held n 0 ∷ hand)

-- a pass of this board and round, with room for as many nodes as there are and as many figures as a node has places
pub record IsReady (board : Board) (round : BoardRound) (pass : Pass) : Type 0 where
  pub of_board : IsPassOf board pass
  pub formed : IsBoardRound round
  pub lists : (view pass).round ≡ lists_of round
  pub nodes : length round.places ≤ vec_capacity pass.hand
  pub places : AllByRecursion (λ row. length row ≤ vec_capacity pass.got) round.places

-- it has done nothing
pub record IsFresh (board : Board) (round : BoardRound) (pass : Pass) : Type 0 where
  pub ready : IsReady board round pass
  pub fresh : progress pass ≡ fresh 1
  pub empty : pass.hand.items ≡ []

-- it is at its end
pub record IsDone (board : Board) (round : BoardRound) (pass : Pass) : Type 0 where
  pub of_board : IsPassOf board pass
  pub formed : IsBoardRound round
  pub lists : (view pass).round ≡ lists_of round
  pub end : IsAtEnd (view pass).round (progress pass)

-- each delivery of a node that was put was made, but from place k on of the node n
abbrev pub AreDelivered : BoardRound → Progress → ℕ → ℕ → Type 0
AreDelivered round p n k = (m i d : ℕ) → 0 < times m p.put → slice_get (dependants_of (lists_of round) m) i ≡ Some d
    → (m ≢ n) ⊎ (i < k) → 0 < deliveries m i p

-- each delivery of the nodes that it put was made, and its hand is that of the room
pub record IsBetween (board : Board) (round : BoardRound) (pass : Pass) : Type 0 where
  pub ready : IsReady board round pass
  pub unmarked : (progress pass).marked ≡ false
  pub hand : (progress pass).hand ≡ stacked pass.hand.items []
  pub all : (m i d : ℕ) → 0 < times m (progress pass).put → slice_get (dependants_of (lists_of round) m) i ≡ Some d
      → 0 < deliveries m i (progress pass)
  pub once : AreNamedOnce (lists_of round) (progress pass)

-- and the node n was taken from the room
pub record HasTaken (board : Board) (round : BoardRound) (pass : Pass) (n : ℕ) : Type 0 where
  pub ready : IsReady board round pass
  pub unmarked : (progress pass).marked ≡ false
  pub hand : (progress pass).hand ≡ held n 0 ∷ stacked pass.hand.items []
  pub all : (m i d : ℕ) → 0 < times m (progress pass).put → slice_get (dependants_of (lists_of round) m) i ≡ Some d
      → 0 < deliveries m i (progress pass)
  pub once : AreNamedOnce (lists_of round) (progress pass)

-- the node n was put, and delivered to the dependants below place k
pub record IsDelivering (board : Board) (round : BoardRound) (pass : Pass) (n k : ℕ) : Type 0 where
  pub ready : IsReady board round pass
  pub unmarked : (progress pass).marked ≡ false
  pub hand : (progress pass).hand ≡ stacked pass.hand.items []
  pub put : 0 < times n (progress pass).put
  pub delivered : AreDelivered round (progress pass) n k
  pub new : (i : ℕ) → k ≤ i → deliveries n i (progress pass) ≡ 0
  pub once : AreNamedOnce (lists_of round) (progress pass)
