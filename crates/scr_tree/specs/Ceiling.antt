-- A ceiling of what is held of each group, which is kept from one edit to the next (this project's own).
use Rattle.std.specs.Prelude.{◌≡◌, ℕ, ◌<◌, List, Option, Some, None}
use Rattle.scr_figure_ids.specs.declared.steps.Step.{Step}
use Rattle.scr_figure_ids.specs.declared.steps.Step.TheVariants as steps
use Rattle.scr_ids.specs.Ranges.{IsAt, Numbered, count, first}
use Rattle.scr_ids.specs.declared.table.Table.TheVariants as ranged
use Rattle.scr_partial_sums.specs.Tables.{IsAmountBeforeNothing}
use Rattle.scr_partial_sums.specs.declared.figure.Figure.{Figure}
use Rattle.scr_tree.specs.Order.{IsJournaled}
use Rattle.scr_tree.specs.declared.journal.Former.{Former}

-- Where there is one, the total of each group is an amount of at most so many cents, and the group's square comes to nothing.
pub record IsCeiling (places : Numbered) (figures : List Figure) (ceiling : Option ℕ) : Type 0 where
  pub each : (most : ℕ) → ceiling ≡ Some most → (row : ℕ) → row < count places ranged.Group
      → IsAmountBeforeNothing most figures (first places ranged.Group row)

-- it is kept by a record that leaves each row where it is
abbrev pub ceiling_after : Step → Option ℕ → Option ℕ
ceiling_after steps.Stays ceiling = ceiling
ceiling_after (steps.Comes table) ceiling = None
ceiling_after (steps.Goes table k) ceiling = None

-- it was one of the figures as they were before, which are kept of those that became others
pub record IsCeilingBefore (places : Numbered) (kept : Option ℕ) (former : List Former) (figures : List Figure) : Type 0 where
  pub before : List Figure
  pub journaled : IsJournaled former before figures
  pub ceiling : IsCeiling places before kept

-- where a figure of a group stands at the number, the group's total is an amount of at most so many cents, and its square comes to nothing
abbrev pub IsWithinAt : Numbered → List Figure → ℕ → ℕ → Type 0
IsWithinAt places figures most number =
    (row family : ℕ) → IsAt places ranged.Group row family number → IsAmountBeforeNothing most figures (first places ranged.Group row)
