-- Lines in their places, and which part of the text is that of each.
use Rattle.std.proofs.Common.{◌≡◌, ◌∙◌, ℕ, zero, suc, ◌≤◌, ◌++◌, List, [], ◌∷◌, length, take, drop, Some, None, slice_get, refl, sym, ap, subst, arith}
use Rattle.std.proofs.lemmas.List.{drop-append-le, drop_all, length-take, take-append-le, take_all}
use Rattle.scr_figure_ids.specs.Families.{family_of}
use Rattle.scr_partial_sums.specs.declared.cell.Mark.{Mark}
use Rattle.scr_cells.specs.Lines.{AreLines, IsLineOf, LineList}
use Rattle.scr_cells.specs.Table.{NamedFigure}
use Rattle.scr_cells.specs.declared.lines.Line.{Line}

-- the one behind the first ones
pub got-behind : {A : Type 0} (done rest : List A) (k : ℕ) → length done ≡ k → slice_get (done ++ rest) k ≡ slice_get rest 0
got-behind [] rest zero long = refl
got-behind [] rest (suc k) long = absurd (cc)
got-behind (x ∷ done) rest zero long = absurd (cc)
got-behind (x ∷ done) rest (suc k) long = got-behind done rest k (omega (arith, long))

-- the text of a line is as long as is kept
text-room : (cell : NamedFigure) (line : Line) (text : List ℕ) → IsLineOf cell line (take line.bytes text) → line.bytes ≤ length text
text-room cell line text is = let size = is.long in let cut = length-take line.bytes text in omega (arith, size, cut)

-- lines and, behind them, the lines of the cells after theirs
pub lines-append : (done rest : LineList) (cells more : List NamedFigure) (front back : List ℕ) → length done ≡ length cells
    → AreLines done cells front → AreLines rest more back → AreLines (done ++ rest) (cells ++ more) (front ++ back)
lines-append [] rest [] more front back long is behind = subst (λ (text : List ℕ). AreLines rest more (text ++ back)) (sym is) behind
lines-append [] rest (cell ∷ cells) more front back long is behind = absurd (cc)
lines-append (line ∷ done) rest [] more front back long is behind = absurd (cc)
lines-append (line ∷ done) rest (cell ∷ cells) more front back long is behind =
    let room = text-room cell line front is.0 in (
      subst (IsLineOf cell line) (sym (take-append-le line.bytes front back room)) is.0,
      subst (AreLines (done ++ rest) (cells ++ more)) (sym (drop-append-le line.bytes front back room))
          (lines-append done rest cells more (drop line.bytes front) back (omega (arith, long)) is.1 behind),
    )

-- one line alone
pub line-alone : (cell : NamedFigure) (line : Line) (text : List ℕ) → IsLineOf cell line text → AreLines (line ∷ []) (cell ∷ []) text
line-alone cell line text is =
    let all : length text ≤ line.bytes = (let long = is.long in omega (arith, long)) in
    (subst (IsLineOf cell line) (sym (take_all line.bytes text all)) is, drop_all line.bytes text all)

-- no text is left where no cell is
pub lines-none : (lines : LineList) (text : List ℕ) → AreLines lines [] text → text ≡ []
lines-none [] text is = is
lines-none (line ∷ lines) text is = is

-- What the former lines have of the next cell, and behind it: nothing where its line is not formed yet.
pub record IsNext (left : LineList) (cell : NamedFigure) (cells : List NamedFigure) (text : List ℕ) (line : Line) : Type 0 where
  pub rest : LineList
  pub tail : drop 1 left ≡ rest
  pub family : family_of cell.node ≡ line.family
  pub room : line.bytes ≤ length text
  pub behind : AreLines rest cells (drop line.bytes text)
  pub here : (mark : Mark) → line.mark ≡ Some mark → (left ≡ line ∷ rest) × IsLineOf cell line (take line.bytes text)

-- a line that is not formed
abbrev pub IsBlank : NamedFigure → Line → Type 0
IsBlank cell line = (line.mark ≡ None) × (family_of cell.node ≡ line.family) × (line.bytes ≡ 0)

pub next-is : (left : LineList) (cell : NamedFigure) (cells : List NamedFigure) (text : List ℕ) (line : Line)
    → AreLines left (cell ∷ cells) text → ((x : Line) → slice_get left 0 ≡ Some x → line ≡ x)
    → (slice_get left 0 ≡ None → IsBlank cell line) → IsNext left cell cells text line
next-is [] cell cells text line are there absent = record {
  rest = [];
  tail = refl;
  family = (absent refl).1;
  room = let nothing = (absent refl).2 in omega (arith, nothing);
  behind = ap (λ (n : ℕ). drop n text) (absent refl).2 ∙ are;
  here = λ mark some. let clash : None ≡ Some mark = sym (absent refl).0 ∙ some in absurd (cc);
}
next-is (x ∷ rest) cell cells text line are there absent =
    subst (λ (l : Line). IsNext (x ∷ rest) cell cells text l) (sym (there x refl)) (record {
      rest = rest;
      tail = refl;
      family = are.0.family;
      room = text-room cell x text are.0;
      behind = are.1;
      here = λ mark some. (refl, are.0);
    })
