-- What each step on the board tells: of the step, the seat before, the number found and the seat after.
use Rattle.std.specs.Prelude.{◌≡◌, ℕ, ◌+◌, ◌-◌, ◌/◌, ◌%◌, ◌<◌, ◌≤◌, ◌⊎◌, Some, length, slice_get, ⊤}
use Rattle.atomic_table.specs.Table.{Me, Step}
use Rattle.scr_board.specs.declared.lists.Round.{Round}
use Rattle.scr_board.specs.declared.lists.Progress.{Progress}
use Rattle.scr_board.specs.Counts.{times}
use Rattle.scr_board.specs.Rounds.{count_of, dependants_of, sources_of, word_of}
use Rattle.scr_board.specs.States.{named}
use Rattle.scr_board.specs.declared.views.View.{View}
use Rattle.scr_board.specs.Views.{opened, view_delivered, view_drawn, view_stored}

abbrev pub Sat : Type 0
Sat = Me ⊤ View

abbrev pub PlayOf : Type 1
PlayOf = Step ⊤ → Sat → ℕ → Sat → Type 0

abbrev pub begun : Round → ℕ → PlayOf
begun round workers st m found n = n ≡ (opened round workers, m.1)

-- the word of a node's figure: the node and the word's number, by the word's place
abbrev pub loaded : PlayOf
loaded st m found n = (n ≡ m) × (found ≡ word_of m.0.round ((st.word - 1) / 5) ((st.word - 1) % 5 - 1))

-- a pass names no node twice, and no more nodes than the round has
pub record AreNamedOnce (round : Round) (p : Progress) : Type 0 where
  pub once : (n : ℕ) → named n p ≤ 1
  pub few : length p.hand + length p.put ≤ count_of round

abbrev pub drew : PlayOf
drew st m found n = (n ≡ (view_drawn found m.0, m.1)) × AreNamedOnce n.0.round n.0.progress

abbrev pub wrote : PlayOf
wrote st m found n = (n ≡ (view_stored ((st.word - 1) / 5) m.0, m.1)) × AreNamedOnce n.0.round n.0.progress

abbrev pub gave : ℕ → ℕ → PlayOf
gave node place st m found n = (d : ℕ) × (slice_get (dependants_of m.0.round node) place ≡ Some d) × (n ≡ (view_delivered node place d found m.0, m.1))
    × AreNamedOnce n.0.round n.0.progress

-- a pass can read what it put, and each source of a node that it names
abbrev pub CanRead : Round → Progress → ℕ → Type 0
CanRead round p n = (0 < times n p.put) ⊎ ((m : ℕ) × (0 < named m p) × (0 < times n (sources_of round m)))
