-- Slots of the dues (the figures to work out anew), and the round that they make (own).
use Rattle.std.specs.Prelude.{◌≡◌, ℕ, List, [], Option, Some, None, map, nat_eq, position, slice_index_or}
use Rattle.scr_reachability.specs.declared.ranks.Due.{Due}
use Rattle.scr_reachability.specs.Levels.{numbers_of}
use Rattle.scr_subgraph.specs.declared.round.Slot.{Slot}
use Rattle.scr_subgraph.specs.declared.round.Slot.TheVariants as slots
use Rattle.scr_subgraph.specs.Naming.{AreNamed, begun, dues_in}

-- A round as plain lists: the slots of each due, its dependants by position, and the dues without a due as source (own).
pub record Lists : Type 0 where
  pub slots : List (List Slot)
  pub dependants : List (List ℕ)
  pub starts : List ℕ

-- The slot of a source: its position if it is due, else the number of the figure that is kept (own).
abbrev pub slot_or : ℕ → Option ℕ → Slot
slot_or source None = slots.Kept source
slot_or source (Some place) = slots.Due place

-- The slot of a source, where `numbers` has the numbers of all dues by position from 0 (own).
abbrev pub slot_of : List ℕ → ℕ → Slot
slot_of numbers source = slot_or source (position (nat_eq source) numbers)

-- A row of slots for each due, one slot a source in order, where `numbers` are the numbers that are due (own).
abbrev pub slots_with : List ℕ → List Due → List (List Slot)
slots_with numbers dues = map (λ (due : Due). map (slot_of numbers) due.sources.items) dues

-- A row of slots for each due of the list, with positions in this list from 0 (own).
abbrev pub slots_of : List Due → List (List Slot)
slots_of dues = slots_with (numbers_of dues) dues

-- The round of a list of dues: its slots by source, the dependants of each due, and the dues without a due as source (own).
pub record IsRoundOf (dues : List Due) (round : Lists) : Type 0 where
  pub slots : round.slots ≡ slots_of dues
  pub dependants : AreNamed (slots_of dues) round.dependants
  pub starts : round.starts ≡ begun (slots_of dues) 0

-- Positions of the dues from which the due at `place` is worked out; none past the last due (own).
abbrev pub sources_at : Lists → ℕ → List ℕ
sources_at round place = dues_in (slice_index_or round.slots place [])
