-- What an engine stands on, and when it refuses a record (this project's own).
use Rattle.std.specs.Prelude.{◌≡◌, ℕ, ◌+◌, Option, Some, None, Result, Ok, Err, OnOk}
use Rattle.scr_factors.specs.Values.{FactorValues}
use Rattle.scr_sheet.specs.declared.edit.Edit.{Edit}
use Rattle.scr_sheet.specs.declared.sheet.BalanceSheet.{BalanceSheet}
use Rattle.scr_sheet.specs.declared.fault.Fault.{Fault}
use Rattle.scr_sheet.specs.declared.fault.Fault.TheVariants as faults
use Rattle.scr_sheet.specs.Records.{applied}
use Rattle.scr_book.specs.RolledSheets.{RolledSheet}
use Rattle.scr_book.specs.Rolls.{AreMoved, AreSame, KeptRolls}
use Rattle.scr_block_graph.specs.Books.{rolled_of}
use Rattle.scr_block_graph.specs.Graph.{Rolled}
use Rattle.scr_block_graph.specs.Touched.{IsTouchedIn, applied_in}
use Rattle.scr_block_graph.specs.declared.point.Point.{Point}
use Rattle.scr_tree.specs.Points.{book_graph}
use Rattle.scr_reachability.specs.Leading.{IsCountOf, IsInReach}
use Rattle.scr_tree.specs.declared.refusal.Refusal.{Refusal}
use Rattle.scr_tree.specs.declared.refusal.Refusal.TheVariants as refusals

-- the factors of the formula, the balance sheet of today, and the member lists that the book keeps
pub record Standing : Type 0 where
  pub factors : FactorValues
  pub sheet : BalanceSheet
  pub rolls : KeptRolls

-- Factors, balance sheet and member lists of an engine with these factors and this book (own).
abbrev pub standing_on : FactorValues → RolledSheet → Standing
standing_on factors book = record { factors = factors; sheet = book.sheet; rolls = book.rolls }

-- the book as its graph sees it
abbrev pub book_of : Standing → Rolled
book_of standing = rolled_of (record { sheet = standing.sheet; rolls = standing.rolls })

-- the factors are as they were, and the balance sheet is this one
pub record HasSheet (due : BalanceSheet) (old new : Standing) : Type 0 where
  pub factors : new.factors ≡ old.factors
  pub sheet : new.sheet ≡ due

-- the factors are as they were, and the balance sheet and each member list as the record leaves them
pub record IsAfter (edit : Edit) (old new : Standing) : Type 0 where
  pub factors : new.factors ≡ old.factors
  pub sheet : new.sheet ≡ applied edit old.sheet
  pub rolls : AreMoved edit old.sheet old.rolls new.rolls

-- the factors, the balance sheet and each member list are as they were
pub record IsAsBefore (old new : Standing) : Type 0 where
  pub factors : new.factors ≡ old.factors
  pub sheet : new.sheet ≡ old.sheet
  pub rolls : AreSame old.rolls new.rolls

-- want of memory is told apart from the faults
abbrev pub refusal_of : Fault → Refusal
refusal_of faults.NoMemory = refusals.NoMemory
refusal_of (faults.Syntax k) = refusals.Fault (faults.Syntax k)
refusal_of (faults.UnknownName name) = refusals.Fault (faults.UnknownName name)
refusal_of (faults.WrongKind name) = refusals.Fault (faults.WrongKind name)
refusal_of (faults.InUse name user) = refusals.Fault (faults.InUse name user)
refusal_of (faults.Cycle path) = refusals.Fault (faults.Cycle path)
refusal_of (faults.Range quantity value limit) = refusals.Fault (faults.Range quantity value limit)

-- An answer is the refusal for the fault that is due, or none where none is due. Want of memory may come in place of either.
abbrev pub Refuses : Option Fault → Result (Unit {0}) Refusal → Type 0
Refuses due (Ok done) = due ≡ None
Refuses due (Err refusals.NoMemory) = Unit {0}
Refuses due (Err (refusals.Fault fault)) = due ≡ Some fault

-- the figures and Blocks that a record reaches: those of the book after it that it touches, or that are reckoned from such
abbrev pub IsReachedBy : FactorValues → Rolled → Edit → Point → Type 0
IsReachedBy factors book edit point = IsInReach (book_graph (applied_in edit book)) (IsTouchedIn factors book edit) point

-- A record that is accepted takes as many steps as it reaches figures and Blocks. One that has a fault takes none.
pub record TakesSteps (factors : FactorValues) (book : Rolled) (edit : Edit) (before after : ℕ) (result : Result (Unit {0}) Refusal) : Type 0 where
  pub accepted : OnOk result ((count : ℕ) × IsCountOf (IsReachedBy factors book edit) count × (after ≡ before + count))
  pub refused : (fault : Fault) → result ≡ Err (refusals.Fault fault) → after ≡ before
