-- Rows of pieces, and their spans, one after another.
use Rattle.std.proofs.Common.{◌≡◌, ℕ, zero, suc, ◌+◌, ◌-◌, ◌<◌, ◌≤◌, List, [], ◌∷◌, ◌++◌, length, append_assoc, append-nil, refl, sym, ap, ◌∙◌, subst, arith}
use Rattle.std.specs.List.{AllByRecursion, range_with_len}
use Rattle.std.proofs.lemmas.List.{length_push}
use Rattle.scr_num.specs.declared.span.Span.{Span}
use Rattle.scr_parallel.specs.declared.rows.Piece.{Piece}
use Rattle.scr_parallel.specs.declared.rows.Sort.{Sort}
use Rattle.scr_parallel.specs.Pieces.{piece_at}
use Rattle.scr_parallel.specs.Rows.{AreOfRows, IsPushed, IsWithin, Row, row, rows_from, rows_in, rows_of}

-- ---- what holds of each piece

pub long-push : {A : Type 0} (xs now : List A) (x : A) → now ≡ xs ++ x ∷ [] → length now ≡ length xs + 1
long-push xs now x is = let all = ap (λ ys. length ys) is in let push = length_push xs x in omega (arith, all, push)

module _ {A : Type 0} (P : A → Type 0) where
  pub each-push : (xs : List A) (x : A) → AllByRecursion P xs → P x → AllByRecursion P (xs ++ x ∷ [])
  each-push [] x all last = (last, tt)
  each-push (y ∷ xs) x all last = (all.0, each-push xs x all.1 last)

  pub each-first : (xs : List A) (x : A) → AllByRecursion P (xs ++ x ∷ []) → AllByRecursion P xs × P x
  each-first [] x all = (tt, all.0)
  each-first (y ∷ xs) x all = let rest = each-first xs x all.1 in ((all.0, rest.0), rest.1)

-- ---- rows one after another

pub range-more : (from many at : ℕ) → from + many ≡ at → range_with_len from (many + 1) ≡ range_with_len from many ++ at ∷ []
range-more from zero at e =
    let one : 0 + 1 ≡ suc 0 = omega arith in
    let start : from ≡ at = omega (arith, e) in
    ap (range_with_len from) one ∙ ap (λ k. k ∷ []) start
range-more from (suc many) at e =
    let next : suc many + 1 ≡ suc (many + 1) = omega arith in
    ap (range_with_len from) next ∙ ap (λ ks. from ∷ ks) (range-more (from + 1) many at (omega (arith, e)))

pub rows_from-join : (sort : Sort) (from many more at : ℕ) → from + many ≡ at
    → rows_from sort from (many + more) ≡ rows_from sort from many ++ rows_from sort at more
rows_from-join sort from zero more at e =
    let start : from ≡ at = omega (arith, e) in
    let none : 0 + more ≡ more = omega arith in
    ap (rows_from sort from) none ∙ ap (λ k. rows_from sort k more) start
rows_from-join sort from (suc many) more at e =
    let next : suc many + more ≡ suc (many + more) = omega arith in
    ap (rows_from sort from) next
    ∙ ap (λ rows. row sort from ∷ rows) (rows_from-join sort (from + 1) many more at (omega (arith, e)))

-- one piece more
pub rows_of-push : (pieces : List Piece) (piece : Piece) → rows_of (pieces ++ piece ∷ []) ≡ rows_of pieces ++ rows_in piece
rows_of-push [] piece = append-nil (rows_in piece)
rows_of-push (first ∷ pieces) piece =
    ap (λ rows. rows_in first ++ rows) (rows_of-push pieces piece) ∙ sym (append_assoc (rows_in first) (rows_of pieces) (rows_in piece))

-- the rows up to the end of one piece more
pub pieced-next : (count : Sort → ℕ) (first pieces now : List Piece) (sort : Sort) (from end : ℕ) → from ≤ end → end ≤ count sort
    → rows_of pieces ≡ rows_of first ++ rows_from sort 0 from → AllByRecursion (IsWithin count) pieces
    → now ≡ pieces ++ record { sort = sort; from = from; end = end } ∷ []
    → (rows_of now ≡ rows_of first ++ rows_from sort 0 end) × AllByRecursion (IsWithin count) now
pieced-next count first pieces now sort from end ordered low rows within is =
    let piece : Piece = record { sort = sort; from = from; end = end } in
    let all : from + (end - from) ≡ end = omega (arith, ordered) in
    let start : 0 + from ≡ from = omega arith in (
      ap rows_of is ∙ rows_of-push pieces piece ∙ ap (λ rs. rs ++ rows_in piece) rows
          ∙ append_assoc (rows_of first) (rows_from sort 0 from) (rows_in piece)
          ∙ ap (λ rs. rows_of first ++ rs) (sym (rows_from-join sort 0 from (end - from) from start) ∙ ap (rows_from sort 0) all),
      subst (AllByRecursion (IsWithin count)) (sym is)
          (each-push (IsWithin count) pieces piece within (record { ordered = ordered; low = low })),
    )

-- ---- their spans

module _ (is_row : Sort → ℕ → List Span → Type 0) where
  pub of_rows-append : (rows more : List Row) (spans others : List Span) → AreOfRows is_row rows spans → AreOfRows is_row more others
      → AreOfRows is_row (rows ++ more) (spans ++ others)
  of_rows-append [] more spans others none after = subst (AreOfRows is_row more) (sym (ap (λ xs. xs ++ others) none)) after
  of_rows-append (one ∷ rows) more spans others h after = (
    h.0,
    h.1 ++ others,
    ap (λ xs. xs ++ others) h.2 ∙ append_assoc h.0 h.1 others,
    h.3,
    of_rows-append rows more h.1 others h.4 after,
  )

  pub of_rows-one : (sort : Sort) (place : ℕ) (own : List Span) → is_row sort place own → AreOfRows is_row (row sort place ∷ []) own
  of_rows-one sort place own right = (own, [], sym (append-nil own), right, refl)

  -- the spans of one row more are pushed
  pub pushed-next : (sort : Sort) (from many at : ℕ) (first before now : List Span) → from + many ≡ at
      → IsPushed (AreOfRows is_row (rows_from sort from many)) first before → IsPushed (is_row sort at) before now
      → IsPushed (AreOfRows is_row (rows_from sort from (many + 1))) first now
  pushed-next sort from many at first before now e so_far next = record {
    own = so_far.own ++ next.own;
    now_is = next.now_is ∙ ap (λ xs. xs ++ next.own) so_far.now_is ∙ append_assoc first so_far.own next.own;
    right = subst (λ rows. AreOfRows is_row rows (so_far.own ++ next.own)) (sym (rows_from-join sort from many 1 at e))
        (of_rows-append (rows_from sort from many) (row sort at ∷ []) so_far.own next.own so_far.right (of_rows-one sort at next.own next.right));
  }

  pub pushed-none : (sort : Sort) (from many : ℕ) (spans : List Span) → many ≡ 0 → IsPushed (AreOfRows is_row (rows_from sort from many)) spans spans
  pushed-none sort from many spans e = record {
    own = [];
    now_is = sym (append-nil spans);
    right = subst (λ k. AreOfRows is_row (rows_from sort from k) []) (sym e) refl;
  }

pub each-piece : (P : Piece → Type 0) (pieces : List Piece) (n : ℕ) → AllByRecursion P pieces → n < length pieces → P (piece_at pieces n)
each-piece P [] n all low = absurd (omega (arith, low))
each-piece P (piece ∷ pieces) zero all low = all.0
each-piece P (piece ∷ pieces) (suc n) all low = each-piece P pieces n all.1 (omega (arith, low))
