-- The rule of the board's table.
use Rattle.std.specs.Prelude.{◌≡◌, ℕ, ◌+◌, ◌*◌, ◌^◌, ◌<◌, ◌≤◌, ◌⊎◌, List, [], ◌∷◌, length, map, slice_index, ⊤}
use Rattle.std.specs.List.{AllByRecursion}
use Rattle.atomic_table.specs.Table as table
use Rattle.scr_board.specs.declared.lists.Round.{Round}
use Rattle.scr_board.specs.Counts.{times}
use Rattle.scr_board.specs.Rounds.{IsFormed, count_of, sources_of, word_of}
use Rattle.scr_board.specs.States.{State}
use Rattle.scr_board.specs.Sound.{IsRun}
use Rattle.scr_board.specs.declared.views.View.{View}
use Rattle.scr_board.specs.Views.{blank, count_at, progress_of, word_at}

-- a view is that of a pass of the round, or of a spent one
abbrev pub Carries : Round → ℕ → View → Type 0
Carries round workers v = (v ≡ blank []) ⊎ ((0 < v.progress.share) × (v.round ≡ round) × (v.workers ≡ workers))

-- the words show the state
pub record AreWordsOf (round : Round) (words : List ℕ) (s : State) : Type 0 where
  pub long : length words ≡ 5 * count_of round + 1
  pub ticket : s.ticket ≡ slice_index words 0
  pub left : (n : ℕ) → n < count_of round → s.left n ≡ slice_index words (count_at n)
  pub word : (n j : ℕ) → n < count_of round → j < 4 → s.word n j ≡ slice_index words (word_at n j)

-- The words and the views show the state of a run of events, and so each step on the board is one event.
pub record IsRunning (words : List ℕ) (views : List View) : Type 0 where
  pub round : Round
  pub workers : ℕ
  pub state : State
  pub form : IsFormed round
  pub few : count_of round < 2 ^ 32
  pub some : 0 < workers
  pub most : workers ≤ 64
  pub run : IsRun round workers state
  pub shown : AreWordsOf round words state
  pub passes : state.passes ≡ map progress_of views
  pub carried : AllByRecursion (Carries round workers) views

-- before the first load there is one seat, which knows the words
abbrev pub IsUnopened : List ℕ → List View → Type 0
IsUnopened words views = views ≡ blank words ∷ []

-- Invariant of a board: its words and views are unopened, or those of a round under way (own).
unfoldable pub Holds : table.State ⊤ View → Type 0
Holds s = IsUnopened s.words s.views ⊎ IsRunning s.words s.views

-- the words with which a round begins: the ticket 0, and the number of its sources for each node
pub record AreOpening (round : Round) (words : List ℕ) : Type 0 where
  pub long : length words ≡ 5 * count_of round + 1
  pub ticket : slice_index words 0 ≡ 0
  pub left : (n : ℕ) → n < count_of round → slice_index words (count_at n) ≡ length (sources_of round n)

-- where the one pass is at its end, the words of every node are the listed ones
pub record AreAllWorked (round : Round) (words : List ℕ) (put : List ℕ) : Type 0 where
  pub listed : (n j : ℕ) → n < count_of round → j < 4 → slice_index words (word_at n j) ≡ word_of round n j
  pub each : (n : ℕ) → n < count_of round → times n put ≡ 1
  pub count : length put ≡ count_of round
