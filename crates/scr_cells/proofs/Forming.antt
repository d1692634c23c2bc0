-- A block that is formed from the former one, cell by cell, in its place.
use Rattle.std.proofs.Common.{◌≡◌, ◌∙◌, ℕ, suc, ◌+◌, ◌-◌, ◌≤◌, ◌++◌, ◌∷◌, List, [], None, Some, drop, length, take, slice_get, refl, sym, ap, ap₂, subst, append_assoc, arith}
use Rattle.std.specs.Prelude.{flat_map}
use Rattle.std.proofs.lemmas.List.{append-nil, drop-drop, drop_all, drop_at, drop_more, flat_map_more, length-append, length-drop, length-take-le, take-append-drop, take_all, take_at, take_more}
use Rattle.std.proofs.lemmas.Option.{get_or_from_slice_get, slice_get_within}
use Rattle.scr_factors.specs.Values.{FactorValues}
use Rattle.scr_sheet.specs.declared.sheet.BalanceSheet.{BalanceSheet}
use Rattle.scr_partial_sums.specs.Marks.{figure_of}
use Rattle.scr_partial_sums.specs.declared.cell.Mark.{Mark}
use Rattle.scr_cells.specs.Block.{block_text, cell_line}
use Rattle.scr_cells.specs.Lines.{AreLines, IsBlock, IsLineOf, LineList, figure_line}
use Rattle.scr_cells.specs.Table.{NamedFigure, table}
use Rattle.scr_cells.specs.declared.lines.Line.{Line}
use Rattle.scr_cells.proofs.LineLists.{IsBlank, IsNext, got-behind, line-alone, lines-append, lines-none, next-is}

next-place : (k : ℕ) → k + 1 ≡ suc k
next-place k = omega arith

-- from a place on: the cell there, and those after it
cells-ahead : (k : ℕ) (cell : NamedFigure) → slice_get table k ≡ Some cell → drop k table ≡ cell ∷ drop (suc k) table
cells-ahead k cell is =
    drop_more table k cell (slice_get_within table k cell is)
    ∙ ap (λ (c : NamedFigure). c ∷ drop (k + 1) table) (get_or_from_slice_get table k cell cell is)
    ∙ ap (λ (n : ℕ). cell ∷ drop n table) (next-place k)

-- up to a place and with it
cells-so-far : (k : ℕ) (cell : NamedFigure) → slice_get table k ≡ Some cell → take (suc k) table ≡ take k table ++ cell ∷ []
cells-so-far k cell is =
    ap (λ (n : ℕ). take n table) (sym (next-place k))
    ∙ take_more table k cell (slice_get_within table k cell is)
    ∙ ap (λ (c : NamedFigure). take k table ++ c ∷ []) (get_or_from_slice_get table k cell cell is)

-- Of each cell so far stands today's line, with its text in front; behind them stand the former lines of the cells that come yet, whose
-- text is so long.
pub record IsForming (factors : FactorValues) (sheet : BalanceSheet) (lines : LineList) (text : List ℕ) (left k : ℕ) : Type 0 where
  pub done : LineList
  pub rest : LineList
  pub front : List ℕ
  pub back : List ℕ
  pub lines_is : lines ≡ done ++ rest
  pub text_is : text ≡ front ++ back
  pub many : length done ≡ k
  pub few : k ≤ length table
  pub size : length back ≡ left
  pub so_far : AreLines done (take k table) front
  pub ahead : AreLines rest (drop k table) back
  pub today : front ≡ flat_map (cell_line factors sheet) (take k table)

module _ (factors : FactorValues) (sheet : BalanceSheet) where
  pub forming-starts : (lines : LineList) (text : List ℕ) → IsBlock lines text → IsForming factors sheet lines text (length text) 0
  forming-starts lines text is = record {
    done = [];
    rest = lines;
    front = [];
    back = text;
    lines_is = refl;
    text_is = refl;
    many = refl;
    few = omega arith;
    size = refl;
    so_far = refl;
    ahead = is;
    today = refl;
  }

  -- what the former lines have of the next cell, by what was found at its place
  pub forming-next : (lines : LineList) (text : List ℕ) (left k : ℕ) (cell : NamedFigure) (line : Line)
      → (forming : IsForming factors sheet lines text left k) → slice_get table k ≡ Some cell
      → ((x : Line) → slice_get lines k ≡ Some x → line ≡ x) → (slice_get lines k ≡ None → IsBlank cell line)
      → IsNext forming.rest cell (drop (suc k) table) forming.back line
  forming-next lines text left k cell line forming at there absent =
      let found : slice_get lines k ≡ slice_get forming.rest 0 =
      ap (λ (items : LineList). slice_get items k) forming.lines_is ∙ got-behind forming.done forming.rest k forming.many in
      next-is forming.rest cell (drop (suc k) table) forming.back line
      (subst (λ (cells : List NamedFigure). AreLines forming.rest cells forming.back) (cells-ahead k cell at) forming.ahead)
      (λ x is. there x (found ∙ is)) (λ none. absent (found ∙ none))

  -- today's line of the next cell
  forming-more : (lines now : LineList) (text text_now : List ℕ) (left k : ℕ) (cell : NamedFigure) (former line : Line)
      → (forming : IsForming factors sheet lines text left k) → slice_get table k ≡ Some cell
      → (next : IsNext forming.rest cell (drop (suc k) table) forming.back former) → now ≡ forming.done ++ line ∷ next.rest
      → text_now ≡ forming.front ++ (cell_line factors sheet cell ++ drop former.bytes forming.back)
      → IsLineOf cell line (cell_line factors sheet cell) → IsForming factors sheet now text_now (left - former.bytes) (suc k)
  forming-more lines now text text_now left k cell former line forming at next put more of = record {
    done = forming.done ++ line ∷ [];
    rest = next.rest;
    front = forming.front ++ cell_line factors sheet cell;
    back = drop former.bytes forming.back;
    lines_is = put ∙ sym (append_assoc forming.done (line ∷ []) next.rest);
    text_is = more ∙ sym (append_assoc forming.front (cell_line factors sheet cell) (drop former.bytes forming.back));
    many = let long = length-append forming.done (line ∷ []) in let many = forming.many in omega (arith, long, many);
    few = let room = slice_get_within table k cell at in omega (arith, room);
    size = let cut = length-drop former.bytes forming.back in let size = forming.size in omega (arith, cut, size);
    so_far =
        subst (λ (cells : List NamedFigure). AreLines (forming.done ++ line ∷ []) cells (forming.front ++ cell_line factors sheet cell))
        (sym (cells-so-far k cell at))
        (lines-append forming.done (line ∷ []) (take k table) (cell ∷ []) forming.front (cell_line factors sheet cell)
        (forming.many ∙ sym (length-take-le k table forming.few)) forming.so_far (line-alone cell line (cell_line factors sheet cell) of));
    ahead = next.behind;
    today =
        ap (λ (items : List ℕ). items ++ cell_line factors sheet cell) forming.today
        ∙ flat_map_more (cell_line factors sheet) [] (take k table) cell
        ∙ ap (flat_map (cell_line factors sheet)) (sym (cells-so-far k cell at));
  }

  -- the line stays
  pub forming-stays : (lines : LineList) (text : List ℕ) (left k : ℕ) (cell : NamedFigure) (line : Line)
      → (forming : IsForming factors sheet lines text left k) → slice_get table k ≡ Some cell
      → IsNext forming.rest cell (drop (suc k) table) forming.back line
      → (mark : Mark) × (line.mark ≡ Some mark) × (figure_line cell (figure_of mark) ≡ cell_line factors sheet cell)
      → IsForming factors sheet lines text (left - line.bytes) (suc k)
  forming-stays lines text left k cell line forming at next (mark, some, same) =
      let here = next.here mark some in
      let own : take line.bytes forming.back ≡ cell_line factors sheet cell = here.1.marked mark some ∙ same in
      forming-more lines lines text text left k cell line line forming at next
      (forming.lines_is ∙ ap (λ (rest : LineList). forming.done ++ rest) here.0)
      (forming.text_is
      ∙ ap (λ (back : List ℕ). forming.front ++ back)
      (sym (take-append-drop line.bytes forming.back) ∙ ap (λ (items : List ℕ). items ++ drop line.bytes forming.back) own))
      (subst (IsLineOf cell line) own here.1)

  -- the line is formed anew
  pub forming-anew : (lines now : LineList) (text text_now : List ℕ) (left k : ℕ) (cell : NamedFigure) (former line : Line)
      → (forming : IsForming factors sheet lines text left k) → slice_get table k ≡ Some cell
      → IsNext forming.rest cell (drop (suc k) table) forming.back former → now ≡ take k lines ++ line ∷ drop (k + 1) lines
      → text_now ≡ (take (length text - (former.bytes + (left - former.bytes))) text ++ cell_line factors sheet cell)
      ++ drop (length text - (left - former.bytes)) text
      → IsLineOf cell line (cell_line factors sheet cell) → IsForming factors sheet now text_now (left - former.bytes) (suc k)
  forming-anew lines now text text_now left k cell former line forming at next put more of =
      forming-more lines now text text_now left k cell former line forming at next
      (put ∙ ap₂ (λ (done rest : LineList). done ++ line ∷ rest) lines-before lines-behind)
      (more ∙ ap₂ (λ (front back : List ℕ). (front ++ cell_line factors sheet cell) ++ back) text-before text-behind
      ∙ append_assoc forming.front (cell_line factors sheet cell) (drop former.bytes forming.back)) of
    where
      lines-before : take k lines ≡ forming.done
      lines-before = ap (take k) forming.lines_is ∙ take_at forming.done forming.rest k forming.many

      lines-behind : drop (k + 1) lines ≡ next.rest
      lines-behind =
          sym (drop-drop 1 k lines)
          ∙ ap (drop 1) (ap (drop k) forming.lines_is ∙ drop_at forming.done forming.rest k forming.many)
          ∙ next.tail

      long : length text ≡ length forming.front + length forming.back
      long = ap length forming.text_is ∙ length-append forming.front forming.back

      before : length text - (former.bytes + (left - former.bytes)) ≡ length forming.front
      before = let size = forming.size in let room = next.room in omega (arith, long, size, room)

      behind : length text - (left - former.bytes) ≡ length forming.front + former.bytes
      behind = let size = forming.size in let room = next.room in omega (arith, long, size, room)

      text-before : take (length text - (former.bytes + (left - former.bytes))) text ≡ forming.front
      text-before =
          ap (λ (n : ℕ). take n text) before
          ∙ ap (take (length forming.front)) forming.text_is
          ∙ take_at forming.front forming.back (length forming.front) refl

      text-behind : drop (length text - (left - former.bytes)) text ≡ drop former.bytes forming.back
      text-behind =
          ap (λ (n : ℕ). drop n text) behind
          ∙ sym (drop-drop former.bytes (length forming.front) text)
          ∙ ap (drop former.bytes)
          (ap (drop (length forming.front)) forming.text_is ∙ drop_at forming.front forming.back (length forming.front) refl)

  -- past the last cell the text is the block
  pub forming-ends : (lines : LineList) (text : List ℕ) (left k : ℕ) → IsForming factors sheet lines text left k → length table ≤ k
      → text ≡ block_text factors sheet
  unfolding block_text
  forming-ends lines text left k forming past =
      forming.text_is
      ∙ ap (λ (back : List ℕ). forming.front ++ back)
      (lines-none forming.rest forming.back
      (subst (λ (cells : List NamedFigure). AreLines forming.rest cells forming.back) (drop_all k table past) forming.ahead))
      ∙ append-nil forming.front
      ∙ forming.today
      ∙ ap (flat_map (cell_line factors sheet)) (take_all k table past)

  -- and the lines are those of the text at all times
  pub forming-block : (lines : LineList) (text : List ℕ) (left k : ℕ) → IsForming factors sheet lines text left k → IsBlock lines text
  forming-block lines text left k forming =
      subst (λ (text : List ℕ). AreLines lines table text) (sym forming.text_is)
      (subst (λ (lines : LineList). AreLines lines table (forming.front ++ forming.back)) (sym forming.lines_is)
      (subst (λ (cells : List NamedFigure). AreLines (forming.done ++ forming.rest) cells (forming.front ++ forming.back))
      (take-append-drop k table)
      (lines-append forming.done forming.rest (take k table) (drop k table) forming.front forming.back
      (forming.many ∙ sym (length-take-le k table forming.few)) forming.so_far forming.ahead)))
