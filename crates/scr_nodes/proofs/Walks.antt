-- A walk along a table, of whose rows a test chooses some.
use Rattle.std.proofs.Common.{◌≡◌, ℕ, zero, suc, ◌+◌, ◌-◌, ◌<◌, Bool, true, false, cond, List, [], ◌∷◌, ◌++◌, map, length, take, filter, Some, slice_get, sym, ap, subst, ◌∙◌, arith, append_assoc}
use Rattle.std.proofs.lemmas.List.{append-nil, map-append, take_more}
use Rattle.std.proofs.lemmas.List.Elements.{filter_more}
use Rattle.std.proofs.lemmas.List.Filters.{length-filter_more}
use Rattle.std.proofs.lemmas.Option.{get_or_from_slice_get, slice_get_within}
use Rattle.std.specs.Prelude.{Result, Ok, Err, OnOk}
use Rattle.scr_tables.proofs.TableRows.{passes_or_fails}

module _ {Row : Type 0} (test : Row → Bool) where
  -- how many of the first k rows pass
  abbrev pub passed : List Row → ℕ → ℕ
  passed rows k = length (filter test (take k rows))

  -- the row at place k passes, or does not
  pub passed-more : (rows : List Row) (k : ℕ) (row : Row) → slice_get rows k ≡ Some row
      → passed rows (k + 1) ≡ passed rows k + cond (test row) 1 0
  passed-more rows k row is =
      length-filter_more test rows k row (slice_get_within rows k row is)
      ∙ ap (λ r. passed rows k + cond (test r) 1 0) (get_or_from_slice_get rows k row row is)

  pub one_more : (rows : List Row) (k place left after : ℕ) (row : Row) → slice_get rows k ≡ Some row → test row ≡ true
      → place ≡ passed rows k + left → 0 < left → after ≡ left - 1
      → place ≡ passed rows (k + 1) + after
  one_more rows k place left after row is pass so_far some next =
      let step : passed rows (k + 1) ≡ passed rows k + 1 = passed-more rows k row is
      ∙ ap (λ t. passed rows k + cond t 1 0) pass in
      omega arith

  pub none_more : (rows : List Row) (k place left after : ℕ) (row : Row) → slice_get rows k ≡ Some row
      → test row ≡ false → place ≡ passed rows k + left → after ≡ left
      → place ≡ passed rows (k + 1) + after
  none_more rows k place left after row is fail so_far next =
      let step : passed rows (k + 1) ≡ passed rows k + 0 = passed-more rows k row is
      ∙ ap (λ t. passed rows k + cond t 1 0) fail in
      omega arith

  module _ {A : Type 0} (node : Row → A) where
    nth-chosen : (rows : List Row) (k : ℕ) (row : Row) → slice_get rows k ≡ Some row → test row ≡ true
        → slice_get (map node (filter test rows)) (passed rows k) ≡ Some (node row)
    nth-chosen [] k row is e = absurd (cc)
    nth-chosen (r ∷ rows) zero row is e =
        let same : r ≡ row = cc in
        ap (λ t. slice_get (map node (cond t (r ∷ filter test rows) (filter test rows))) 0) (ap test same ∙ e)
        ∙ ap (λ s. Some (node s)) same
    nth-chosen (r ∷ rows) (suc k) row is e =
        let later = nth-chosen rows k row is e in
        passes_or_fails (test r)
        (λ t. ap (λ b. slice_get (map node (cond b (r ∷ filter test rows) (filter test rows)))
        (length (cond b (r ∷ filter test (take k rows)) (filter test (take k rows))))) t ∙ later)
        (λ t. ap (λ b. slice_get (map node (cond b (r ∷ filter test rows) (filter test rows)))
        (length (cond b (r ∷ filter test (take k rows)) (filter test (take k rows))))) t ∙ later)

    -- where none is left to pass, the row at place k is the one that is wanted
    pub found : (rows : List Row) (k place left : ℕ) (row : Row) → slice_get rows k ≡ Some row → test row ≡ true
        → place ≡ passed rows k + left → left ≡ 0 → slice_get (map node (filter test rows)) place ≡ Some (node row)
    found rows k place left row is pass so_far none =
        let at : place ≡ passed rows k = omega arith in
        subst (λ p. slice_get (map node (filter test rows)) p ≡ Some (node row)) (sym at)
        (nth-chosen rows k row is pass)

    -- a list to which the rows that pass are pushed
    abbrev pub IsPushed : List A → List A → List Row → ℕ → Type 0
    IsPushed items start rows k = items ≡ start ++ map node (filter test (take k rows))

    filter-more : (rows : List Row) (k : ℕ) (row : Row) → slice_get rows k ≡ Some row
        → filter test (take (k + 1) rows) ≡ filter test (take k rows) ++ cond (test row) (row ∷ []) []
    filter-more rows k row is =
        filter_more test rows k row (slice_get_within rows k row is)
        ∙ ap (λ r. filter test (take k rows) ++ cond (test r) (r ∷ []) []) (get_or_from_slice_get rows k row row is)

    pub pushed : (items start after : List A) (rows : List Row) (k : ℕ) (row : Row) → slice_get rows k ≡ Some row
        → test row ≡ true → IsPushed items start rows k → after ≡ items ++ node row ∷ []
        → IsPushed after start rows (k + 1)
    pushed items start after rows k row is pass so_far next =
        next ∙ ap (λ xs. xs ++ node row ∷ []) so_far
        ∙ append_assoc start (map node (filter test (take k rows))) (node row ∷ [])
        ∙ ap (λ xs. start ++ xs) (sym (map-append node (filter test (take k rows)) (row ∷ []))
        ∙ ap (map node)
        (sym (filter-more rows k row is ∙ ap (λ t. filter test (take k rows) ++ cond t (row ∷ []) []) pass)))

    pub passed_over : (items start after : List A) (rows : List Row) (k : ℕ) (row : Row) → slice_get rows k ≡ Some row
        → test row ≡ false → IsPushed items start rows k → after ≡ items
        → IsPushed after start rows (k + 1)
    passed_over items start after rows k row is fail so_far next =
        next ∙ so_far
        ∙ ap (λ xs. start ++ map node xs) (sym
        (filter-more rows k row is ∙ ap (λ t. filter test (take k rows) ++ cond t (row ∷ []) []) fail
        ∙ append-nil (filter test (take k rows))))

-- a list to which what stands in another is pushed
pub pushed_next : {A : Type 0} (items start after list : List A) (k : ℕ) (x : A) → slice_get list k ≡ Some x
    → items ≡ start ++ take k list → after ≡ items ++ x ∷ [] → after ≡ start ++ take (k + 1) list
pushed_next items start after list k x is so_far next =
    next ∙ ap (λ xs. xs ++ x ∷ []) so_far ∙ append_assoc start (take k list) (x ∷ [])
    ∙ ap (λ xs. start ++ xs)
    (sym (take_more list k x (slice_get_within list k x is)
    ∙ ap (λ y. take k list ++ y ∷ []) (get_or_from_slice_get list k x x is)))

-- what follows where a call succeeds
pub on_ok : {A E : Type 0} (result : Result A E) (P Q : Type 0) → (P → Q) → OnOk result P → OnOk result Q
on_ok (Ok a) P Q f h = f h
on_ok (Err e) P Q f h = tt
