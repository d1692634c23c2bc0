-- The figure of each cell is one of every balance sheet, and it is in grains.
use Rattle.std.proofs.Common.{◌≡◌, ℕ, zero, suc, true, false, Bool, List, [], ◌∷◌, length, ◌&&◌, Some, is_some, refl, subst}
use Rattle.std.specs.Prelude.{◌==◌, slice_get}
use Rattle.std.proofs.lemmas.Bool.{eqb-true}
use Rattle.std.specs.List.{AllByRecursion, list_all}
use Rattle.scr_tables.proofs.TableRows.{All-map}
use Rattle.scr_sheet.specs.declared.sheet.BalanceSheet.{BalanceSheet}
use Rattle.scr_nodes.specs.Live.{is_live}
use Rattle.scr_exact.specs.Exact.{unit_of}
use Rattle.scr_cells.specs.Table.{NamedFigure, table}
use Rattle.scr_widths.specs.Widths.{stated_width}

abbrev pub IsLive : BalanceSheet → NamedFigure → Type 0
IsLive sheet cell = is_live sheet cell.node ≡ true

-- each element passes a test that all pass
pub all-pass : {X : Type 0} (test : X → Bool) (xs : List X) → list_all test xs ≡ true → AllByRecursion (λ x. test x ≡ true) xs
all-pass test [] passed = tt
all-pass test (x ∷ xs) passed = let two = both (test x) (list_all test xs) passed in (two.0, all-pass test xs two.1)
  where
    both : (a b : Bool) → (a && b) ≡ true → (a ≡ true) × (b ≡ true)
    both true b h = (refl, h)
    both false b h = absurd (cc)

-- what is so of each element is so of the one at a place
pub All-at : {X : Type 0} (P : X → Type 0) (xs : List X) (k : ℕ) (x : X) → slice_get xs k ≡ Some x → AllByRecursion P xs → P x
All-at P [] k x is all = absurd (cc)
All-at P (y ∷ ys) zero x is all = let same : y ≡ x = cc in subst P same all.0
All-at P (y ∷ ys) (suc k) x is all = All-at P ys k x is all.1

pub length-table : length table ≡ 102
unfolding table
length-table = refl

pub all_live : (sheet : BalanceSheet) → AllByRecursion (IsLive sheet) table
unfolding table
all_live sheet = all-pass (λ (cell : NamedFigure). is_live sheet cell.node) table refl

-- the figure at a place of the table is one of the balance sheet
pub live_at : (sheet : BalanceSheet) (k : ℕ) (cell : NamedFigure) → slice_get table k ≡ Some cell → is_live sheet cell.node ≡ true
live_at sheet k cell is = All-at (IsLive sheet) table k cell is (all_live sheet)

pub in_grains : AllByRecursion (λ (cell : NamedFigure). unit_of cell.node ≡ 1000) table
unfolding table
in_grains =
    All-map (λ (cell : NamedFigure). (unit_of cell.node == 1000) ≡ true) (λ cell. unit_of cell.node ≡ 1000) table
    (λ cell same. eqb-true (unit_of cell.node) 1000 same)
    (all-pass (λ (cell : NamedFigure). unit_of cell.node == 1000) table refl)

-- its width is stated
abbrev pub IsStated : BalanceSheet → NamedFigure → Type 0
IsStated sheet cell = is_some (stated_width sheet cell.node) ≡ true

pub all_stated : (sheet : BalanceSheet) → AllByRecursion (IsStated sheet) table
unfolding table
all_stated sheet = all-pass (λ (cell : NamedFigure). is_some (stated_width sheet cell.node)) table refl

pub stated_at : (sheet : BalanceSheet) (k : ℕ) (cell : NamedFigure) → slice_get table k ≡ Some cell
    → is_some (stated_width sheet cell.node) ≡ true
stated_at sheet k cell is = All-at (IsStated sheet) table k cell is (all_stated sheet)
