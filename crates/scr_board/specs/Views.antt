-- What a seat at the board knows, and what a step makes of it.
use Rattle.std.specs.Prelude.{ℕ, ◌+◌, ◌*◌, List, [], slice_get}
use Rattle.scr_board.specs.declared.lists.Progress.{Progress}
use Rattle.scr_board.specs.declared.lists.Round.{Round}
use Rattle.scr_board.specs.States.{fresh, spent}
use Rattle.scr_board.specs.Events.{delivers, draws, joins, splits, writes}
use Rattle.scr_board.specs.declared.views.View.{View}

abbrev pub no_round : Round
no_round = record { sources = []; dependants = []; starts = []; words = [] }

-- a seat with no share; before the first load it knows the words that the board begins with
abbrev pub blank : List ℕ → View
blank words = record { progress = spent; round = no_round; workers = 0; opening = words }

-- the one pass at the opening of a round
abbrev pub opened : Round → ℕ → View
opened round workers = record { progress = fresh workers; round = round; workers = workers; opening = [] }

-- The progress of the pass with this view (own).
abbrev pub progress_of : View → Progress
progress_of v = v.progress

-- The view of the same round and number of workers, with this progress and no opening (own).
abbrev pub with_progress : View → Progress → View
with_progress v p = record { progress = p; round = v.round; workers = v.workers; opening = [] }

abbrev pub view_drawn : ℕ → View → View
view_drawn ticket v = with_progress v (draws (slice_get v.round.starts ticket) v.progress)

abbrev pub view_stored : ℕ → View → View
view_stored n v = with_progress v (writes n v.progress)

abbrev pub view_delivered : ℕ → ℕ → ℕ → ℕ → View → View
view_delivered n k d left v = with_progress v (delivers n k d left v.progress)

abbrev pub view_split : View → View
view_split v = with_progress v (splits v.progress)

abbrev pub view_fresh : View → View
view_fresh v = with_progress v (fresh 1)

abbrev pub view_joined : View → View → View
view_joined v w = with_progress v (joins v.progress w.progress)

-- ---- the words of the board: the ticket, and for each node its count and the four words of its figure

abbrev pub count_at : ℕ → ℕ
count_at n = 5 * n + 1

abbrev pub word_at : ℕ → ℕ → ℕ
word_at n j = 5 * n + 2 + j
