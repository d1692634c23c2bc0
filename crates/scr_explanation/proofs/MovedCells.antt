-- The bounds of all cells, and the lines of those that moved, one cell after another.
use Rattle.std.proofs.Common.{◌≡◌, ◌∙◌, ℕ, ◌+◌, ◌≤◌, ◌++◌, List, [], ◌∷◌, Option, None, Some, slice_get, drop, length, map, refl, ap, sym, append_assoc, arith}
use Rattle.std.proofs.lemmas.List.{append-nil, drop_all, drop_more, length-map}
use Rattle.std.proofs.lemmas.Option.{get_or_from_slice_get, none-some, slice_get_within, slice_get-map}
use Rattle.std.specs.Prelude.{option_map}
use Rattle.scr_factors.specs.Values.{FactorValues}
use Rattle.scr_sheet.specs.declared.sheet.BalanceSheet.{BalanceSheet}
use Rattle.scr_cells.specs.Table.{NamedFigure, table}
use Rattle.scr_explanation.specs.Moves.{all_bounds, cell_bounds, move_text, moves_in}
use Rattle.scr_amounts.specs.declared.bounds.Bounds.{Bounds}

-- from a place on: the element there, and those after it
from-place : {X : Type 0} (xs : List X) (k : ℕ) (x : X) → slice_get xs k ≡ Some x → drop k xs ≡ x ∷ drop (k + 1) xs
from-place xs k x is =
    drop_more xs k x (slice_get_within xs k x is) ∙ ap (λ first. first ∷ drop (k + 1) xs) (get_or_from_slice_get xs k x x is)

pub length_table : length table ≡ 102
unfolding table
length_table = refl

module _ (shown : NamedFigure → Bounds) where
  more-of : (before : List Bounds) (k : ℕ) (new : Bounds) (cell : Option NamedFigure) → slice_get table k ≡ cell
      → option_map shown cell ≡ Some new
      → (before ++ new ∷ []) ++ map shown (drop (k + 1) table) ≡ before ++ map shown (drop k table)
  more-of before k new None there same = absurd (none-some new same)
  more-of before k new (Some cell) there same =
      let first : new ≡ shown cell = cc in
      append_assoc before (new ∷ []) (map shown (drop (k + 1) table))
      ∙ ap (λ (b : Bounds). before ++ b ∷ map shown (drop (k + 1) table)) first
      ∙ ap (λ (cells : List NamedFigure). before ++ map shown cells) (sym (from-place table k cell there))

  -- the bounds of the cell at a place, and of those after it
  pub bounds-more : (before : List Bounds) (k : ℕ) (new : Bounds) → option_map shown (slice_get table k) ≡ Some new
      → (before ++ new ∷ []) ++ map shown (drop (k + 1) table) ≡ before ++ map shown (drop k table)
  bounds-more before k new is = more-of before k new (slice_get table k) refl is

  -- past the last cell there are none
  bounds-end : (before : List Bounds) (k : ℕ) → 102 ≤ k → before ++ map shown (drop k table) ≡ before
  bounds-end before k past =
      ap (λ (cells : List NamedFigure). before ++ map shown cells) (drop_all k table (omega (arith, length_table)))
      ∙ append-nil before

module _ (factors : FactorValues) (sheet : BalanceSheet) where
  -- those of all cells
  pub all-there : (bounds : List Bounds) (k : ℕ) → 102 ≤ k
      → bounds ++ map (cell_bounds factors sheet) (drop k table) ≡ all_bounds factors sheet
      → bounds ≡ all_bounds factors sheet
  all-there bounds k past are = sym (bounds-end (cell_bounds factors sheet) bounds k past) ∙ are

  count : length (all_bounds factors sheet) ≡ length table
  unfolding all_bounds
  count = length-map table (cell_bounds factors sheet)

  pub as-many : (bounds : List Bounds) (k : ℕ) → 102 ≤ k
      → bounds ++ map (cell_bounds factors sheet) (drop k table) ≡ all_bounds factors sheet
      → length bounds ≡ length table
  as-many bounds k past are = ap length (all-there bounds k past are) ∙ count

  -- those of the cell at a place
  pub bounds-place : (k : ℕ) (new : Bounds) → option_map (cell_bounds factors sheet) (slice_get table k) ≡ Some new
      → slice_get (all_bounds factors sheet) k ≡ Some new
  unfolding all_bounds
  bounds-place k new is = slice_get-map (cell_bounds factors sheet) table k ∙ is

-- ---- the lines of those that moved
first-line : (cell : NamedFigure) (cells : List NamedFigure) (old new : Bounds) (olds news : List Bounds)
    → moves_in (cell ∷ cells) (old ∷ olds) (new ∷ news) ≡ move_text cell.name old new ++ moves_in cells olds news
first-line cell cells old new olds news = refl

module _ (before : List ℕ) (k : ℕ) (olds news : List Bounds) (name : List ℕ) (old new : Bounds) where
  line-of : (cell : Option NamedFigure) → slice_get table k ≡ cell
      → option_map (λ (c : NamedFigure). c.name) cell ≡ Some name
      → slice_get olds k ≡ Some old → slice_get news k ≡ Some new
      → (before ++ move_text name old new) ++ moves_in (drop (k + 1) table) (drop (k + 1) olds) (drop (k + 1) news)
      ≡ before ++ moves_in (drop k table) (drop k olds) (drop k news)
  line-of None there same was is = absurd (none-some name same)
  line-of (Some cell) there same was is =
      let called : name ≡ cell.name = cc in
      let rest = moves_in (drop (k + 1) table) (drop (k + 1) olds) (drop (k + 1) news) in
      append_assoc before (move_text name old new) rest
      ∙ ap (λ (n : List ℕ). before ++ (move_text n old new ++ rest)) called
      ∙ ap (λ (lines : List ℕ). before ++ lines)
      (sym (first-line cell (drop (k + 1) table) old new (drop (k + 1) olds) (drop (k + 1) news)))
      ∙ ap (λ (cells : List NamedFigure). before ++ moves_in cells (old ∷ drop (k + 1) olds) (new ∷ drop (k + 1) news))
      (sym (from-place table k cell there))
      ∙ ap (λ (list : List Bounds). before ++ moves_in (drop k table) list (new ∷ drop (k + 1) news)) (sym (from-place olds k old was))
      ∙ ap (λ (list : List Bounds). before ++ moves_in (drop k table) (drop k olds) list) (sym (from-place news k new is))

  -- the line of the cell at a place, and those of the cells after it
  pub moves-more : option_map (λ (cell : NamedFigure). cell.name) (slice_get table k) ≡ Some name
      → slice_get olds k ≡ Some old → slice_get news k ≡ Some new
      → (before ++ move_text name old new) ++ moves_in (drop (k + 1) table) (drop (k + 1) olds) (drop (k + 1) news)
      ≡ before ++ moves_in (drop k table) (drop k olds) (drop k news)
  moves-more named was is = line-of (slice_get table k) refl named was is

-- past the last cell there is none
pub moves-end : (before : List ℕ) (k : ℕ) (olds news : List Bounds) → 102 ≤ k
    → before ++ moves_in (drop k table) (drop k olds) (drop k news) ≡ before
moves-end before k olds news past =
    ap (λ (cells : List NamedFigure). before ++ moves_in cells (drop k olds) (drop k news))
    (drop_all k table (omega (arith, length_table)))
    ∙ append-nil before
