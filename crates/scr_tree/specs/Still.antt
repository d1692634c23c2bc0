-- Squares of groups that came to nothing before and do so now, and stay as they are (this project's own).
use Rattle.std.specs.Prelude.{◌≡◌, ℕ, ◌+◌, ◌<◌, ◌≤◌, false, List, Some, length, slice_get, slice_index}
use Rattle.scr_conc.specs.Scales.{IsFree}
use Rattle.scr_ids.specs.Ranges.{first}
use Rattle.scr_ids.specs.declared.table.Table.TheVariants as ranged
use Rattle.scr_partial_sums.specs.Tables.{IsAmountBeforeNothing, IsOneAmount, nothing}
use Rattle.scr_partial_sums.specs.declared.figure.Figure.{Figure}
use Rattle.scr_tree.specs.Ready.{IsRightOn, IsSquareOn}
use Rattle.scr_tree.specs.declared.basis.Basis.{Basis}
use Rattle.scr_tree.specs.declared.reckoning.AssetScale.{AssetScale}
use Rattle.scr_tree.specs.declared.reckoning.Stillness.{Stillness}

-- The squares of the first groups with these first numbers, so many, come first among the numbers, and are still.
pub record ComeStill (figures : List Figure) (most : ℕ) (firsts numbers : List ℕ) (many : ℕ) : Type 0 where
  pub few : many ≤ length firsts
  pub left : many ≤ length numbers
  pub come : (row : ℕ) → row < many → slice_get numbers row ≡ Some (slice_index firsts row + 1)
  pub each : (row : ℕ) → row < many → IsAmountBeforeNothing most figures (slice_index firsts row)

-- The same, and no more: that of the next is not still, or does not come.
pub record AreFirstStill (figures : List Figure) (most : ℕ) (firsts numbers : List ℕ) (many : ℕ) : Type 0 where
  pub still : ComeStill figures most firsts numbers many
  pub last : many < length firsts → slice_get numbers many ≡ Some (slice_index firsts many + 1) → IsAmountBeforeNothing most figures (slice_index firsts many) → ⊥

-- the totals of all groups with these first numbers are amounts of at most so many cents, and the squares of all come to nothing
abbrev pub AreAllWithin : List Figure → List ℕ → ℕ → Type 0
AreAllWithin figures firsts most = (row : ℕ) → row < length firsts → IsAmountBeforeNothing most figures (slice_index firsts row)

-- the squares of all groups with these first numbers come first among the numbers
abbrev pub AreNext : List ℕ → List ℕ → Type 0
AreNext firsts numbers = (row : ℕ) → row < length firsts → slice_get numbers row ≡ Some (slice_index firsts row + 1)

-- The same of so many by what the concentrations of all groups are measured by: no square is still where the assets rest on an open choice.
pub record ArePassed (assets : AssetScale) (figures : List Figure) (firsts numbers : List ℕ) (stood : Stillness) : Type 0 where
  pub settled : (row : ℕ) → row < stood.many → assets.close ≡ false
  pub free : IsFree assets.scale stood.most
  pub still : ComeStill figures stood.most firsts numbers stood.many

-- the squares of all groups come to nothing
abbrev pub AreNothingOn : Basis → Type 0
AreNothingOn b = (row number : ℕ) → IsSquareOn b row number → IsRightOn b number nothing

-- the total of the group in a row comes to an amount of at most so many cents
abbrev pub IsTotalWithin : Basis → ℕ → ℕ → Type 0
IsTotalWithin b most row = (total : Figure) × IsOneAmount most total × IsRightOn b (first b.places.now ranged.Group row) total

-- so it is of all groups, and the square of each comes to nothing
pub record AreStillOn (b : Basis) (most : ℕ) : Type 0 where
  pub totals : (row : ℕ) → row < length b.inputs.book.now.sheet.groups → IsTotalWithin b most row
  pub squares : AreNothingOn b
