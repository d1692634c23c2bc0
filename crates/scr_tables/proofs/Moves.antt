-- The rows of a table moved into another map, and a row put in at a place.
use Rattle.std.proofs.Common.{◌≡◌, ℕ, zero, suc, false, cond, List, [], ◌∷◌, ◌++◌, Some, length, map, slice_get, insert, remove, refl, sym, ap, subst, ◌∙◌, arith, append_assoc}
use Rattle.std.specs.List.{IsDistinct, position_or_len}
use Rattle.std.specs.Option.{option_map_or}
use Rattle.std.proofs.lemmas.List.{append-nil, map-append}
use Rattle.indexmap.specs.IndexMap.{insert_entry, insert_all, move_index}
use Rattle.std.specs.Map.{keys_of, values_of}
use Rattle.scr_tables.specs.Names.{same_name}
use Rattle.scr_tables.specs.Tables.{has_row, with_row}
use Rattle.scr_tables.specs.ByName.{by_name}
use Rattle.scr_tables.proofs.TableRows.{IsFresh, fresh_from_has_row, same_name-flip}
use Rattle.scr_tables.proofs.Entries.{insert_entry-by_name, keys-by_name, kept_from_rows}

-- a name of a list is apart from the names before it
apart-before : (names rest : List (List ℕ)) (name : List ℕ) → IsDistinct same_name (names ++ name ∷ rest) → IsFresh name names
unfolding IsDistinct
apart-before [] rest name apart = tt
apart-before (other ∷ names) rest name apart = (same_name-flip name other ∙ later names apart.0, apart-before names rest name apart.1)
  where
    later : (between : List (List ℕ)) → IsFresh other (between ++ name ∷ rest) → same_name other name ≡ false
    later [] fresh = fresh.0
    later (x ∷ between) fresh = later between fresh.1

-- the place of a name that none has is the one after the last
place-fresh : (name : List ℕ) (names : List (List ℕ)) → IsFresh name names → position_or_len (same_name name) names ≡ length names
place-fresh name [] fresh = refl
place-fresh name (other ∷ names) fresh = let rest = place-fresh name names fresh.1 in grind (arith, fresh.0, rest)

-- the last of a list moved to a place
last-moved : {X : Type 0} (xs : List X) (x : X) (k : ℕ) → move_index (xs ++ x ∷ []) (length xs) k ≡ insert xs k x
last-moved xs x k = ap (λ o. option_map_or (λ y. insert (remove (xs ++ x ∷ []) (length xs)) k y) o (xs ++ x ∷ [])) (got xs) ∙ ap (λ ys. insert ys k x) (left xs)
  where
    got : (ys : List _) → slice_get (ys ++ x ∷ []) (length ys) ≡ Some x
    got [] = refl
    got (y ∷ ys) = got ys

    left : (ys : List _) → remove (ys ++ x ∷ []) (length ys) ≡ ys
    left [] = refl
    left (y ∷ ys) = ap (λ zs. y ∷ zs) (left ys)

module _ {Row : Type 0} (name_of : Row → List ℕ) where
  -- a row of a new name goes last
  with_row-fresh : (new : Row) (rows : List Row) → IsFresh (name_of new) (map name_of rows) → with_row name_of new rows ≡ rows ++ new ∷ []
  with_row-fresh new [] fresh = refl
  with_row-fresh new (row ∷ rows) fresh =
      ap (λ t. cond t (new ∷ rows) (row ∷ with_row name_of new rows)) fresh.0 ∙ ap (λ rs. row ∷ rs) (with_row-fresh new rows fresh.1)

  -- rows of other names follow those that are there
  pub moved-after : (there rows : List Row) → IsDistinct same_name (map name_of (there ++ rows)) → insert_all same_name (by_name name_of there) (by_name name_of rows) ≡ by_name name_of (there ++ rows)
  moved-after there [] apart = ap (by_name name_of) (sym (append-nil there))
  moved-after there (row ∷ rows) apart =
      let fresh = apart-before (map name_of there) (map name_of rows) (name_of row) (subst (IsDistinct same_name) (map-append name_of there (row ∷ rows)) apart) in
      let put : with_row name_of row there ≡ there ++ row ∷ [] = with_row-fresh row there fresh in
      let all : (there ++ row ∷ []) ++ rows ≡ there ++ row ∷ rows = append_assoc there (row ∷ []) rows in
      ap (λ es. insert_all same_name es (by_name name_of rows)) (insert_entry-by_name name_of row there ∙ ap (by_name name_of) put)
      ∙ moved-after (there ++ row ∷ []) rows (subst (λ rs. IsDistinct same_name (map name_of rs)) (sym all) apart)
      ∙ ap (by_name name_of) all

  insert-by_name : (rows : List Row) (k : ℕ) (row : Row) → insert (by_name name_of rows) k (name_of row, row) ≡ by_name name_of (insert rows k row)
  insert-by_name [] zero row = refl
  insert-by_name [] (suc k) row = refl
  insert-by_name (first ∷ rows) zero row = refl
  insert-by_name (first ∷ rows) (suc k) row = ap (λ es. (name_of first, first) ∷ es) (insert-by_name rows k row)

  -- a row of a new name inserted last and moved to its place
  pub put_at-by_name : (rows : List Row) (k : ℕ) (row : Row) → has_row name_of (name_of row) rows ≡ false
      → move_index (insert_entry same_name (by_name name_of rows) (name_of row) row) (position_or_len (same_name (name_of row)) (keys_of (by_name name_of rows))) k ≡ by_name name_of (insert rows k row)
  put_at-by_name rows k row new =
      let fresh = fresh_from_has_row name_of (name_of row) rows new in
      let entries : List (List ℕ × Row) = by_name name_of rows in
      let last : insert_entry same_name entries (name_of row) row ≡ entries ++ (name_of row, row) ∷ [] = insert_entry-by_name name_of row rows ∙ ap (by_name name_of) (with_row-fresh row rows fresh) ∙ appended rows in
      let place : position_or_len (same_name (name_of row)) (keys_of entries) ≡ length entries = ap (position_or_len (same_name (name_of row))) (keys-by_name name_of rows) ∙ place-fresh (name_of row) (map name_of rows) fresh ∙ long rows in
      (λ i. move_index (last i) (place i) k) ∙ last-moved entries (name_of row, row) k ∙ insert-by_name rows k row
    where
      appended : (rs : List Row) → by_name name_of (rs ++ row ∷ []) ≡ by_name name_of rs ++ (name_of row, row) ∷ []
      appended [] = refl
      appended (r ∷ rs) = ap (λ es. (name_of r, r) ∷ es) (appended rs)

      long : (rs : List Row) → length (map name_of rs) ≡ length (by_name name_of rs)
      long [] = refl
      long (r ∷ rs) = ap suc (long rs)

  -- the rows of a table moved into an empty map
  pub moved-kept : (entries room after : List (List ℕ × Row)) (now : List Row) → values_of entries ≡ now → entries ≡ by_name name_of (values_of entries) → IsDistinct same_name (keys_of entries) → room ≡ []
      → after ≡ insert_all same_name room entries → after ≡ by_name name_of now
  moved-kept entries room after now view kept apart empty is =
      let keyed : entries ≡ by_name name_of now = kept ∙ ap (by_name name_of) view in
      let distinct : IsDistinct same_name (map name_of now) = subst (IsDistinct same_name) (ap keys_of keyed ∙ keys-by_name name_of now) apart in
      is ∙ (λ i. insert_all same_name (empty i) (keyed i)) ∙ moved-after [] now distinct

  -- a row put in at a place of a map that keeps a table
  pub put_at-kept : (entries after : List (List ℕ × Row)) (now : List Row) (k : ℕ) (row : Row) (name : List ℕ) → entries ≡ by_name name_of now → has_row name_of (name_of row) now ≡ false → name ≡ name_of row
      → after ≡ move_index (insert_entry same_name entries name row) (position_or_len (same_name name) (keys_of entries)) k → (after ≡ by_name name_of (values_of after)) × (values_of after ≡ insert now k row)
  put_at-kept entries after now k row name keyed new named is =
      kept_from_rows name_of after (insert now k row)
      (is ∙ (λ i. move_index (insert_entry same_name (keyed i) (named i) row) (position_or_len (same_name (named i)) (keys_of (keyed i))) k) ∙ put_at-by_name now k row new)

  pub length-by_name : (rows : List Row) → length (by_name name_of rows) ≡ length rows
  length-by_name [] = refl
  length-by_name (row ∷ rows) = ap suc (length-by_name rows)
