-- Rows of the drawing, one below another.
use Rattle.std.proofs.Common.{◌≡◌, ◌∙◌, ℕ, ◌+◌, ◌*◌, ◌≤◌, ◌++◌, List, ◌∷◌, Some, slice_get, drop, length, refl, ap, sym, append_assoc, arith}
use Rattle.std.proofs.lemmas.List.{append-nil, drop_all, drop_more}
use Rattle.std.proofs.lemmas.Option.{get_or_from_slice_get, slice_get_within}
use Rattle.scr_amounts.specs.declared.bounds.Bounds.{Bounds}
use Rattle.scr_drawing.specs.Drawing.{row_text, rows_text}
use Rattle.scr_drawing.specs.Rows.{Shown, rows}

length_rows : length rows ≡ 33
unfolding rows
length_rows = refl

module _ (cells : List Bounds) (whole : ℕ) where
  -- the row at a place, and those below it
  pub rows-more : (before : List ℕ) (k : ℕ) (row : Shown) → slice_get rows k ≡ Some row
      → (before ++ row_text cells whole (50 + 40 * k) row) ++ rows_text cells whole (50 + 40 * (k + 1)) (drop (k + 1) rows)
      ≡ before ++ rows_text cells whole (50 + 40 * k) (drop k rows)
  rows-more before k row is =
      let here : drop k rows ≡ row ∷ drop (k + 1) rows =
      drop_more rows k row (slice_get_within rows k row is)
      ∙ ap (λ (r : Shown). r ∷ drop (k + 1) rows) (get_or_from_slice_get rows k row row is) in
      let height : 50 + 40 * (k + 1) ≡ (50 + 40 * k) + 40 = omega arith in
      append_assoc before (row_text cells whole (50 + 40 * k) row) (rows_text cells whole (50 + 40 * (k + 1)) (drop (k + 1) rows))
      ∙ ap (λ (y : ℕ). before ++ (row_text cells whole (50 + 40 * k) row ++ rows_text cells whole y (drop (k + 1) rows))) height
      ∙ ap (λ (list : List Shown). before ++ rows_text cells whole (50 + 40 * k) list) (sym here)

  -- below the last there is none
  pub rows-end : (before : List ℕ) (k y : ℕ) → 33 ≤ k → before ++ rows_text cells whole y (drop k rows) ≡ before
  rows-end before k y past =
      ap (λ (list : List Shown). before ++ rows_text cells whole y list) (drop_all k rows (omega (arith, length_rows)))
      ∙ append-nil before
