-- The map behind a table: each row stands in it under its own name.
use Rattle.std.proofs.Common.{◌≡◌, ℕ, true, false, cond, List, [], ◌∷◌, Option, Some, None, IfSome, is_some, slice_get, map, refl, sym, ap, ◌∙◌, arith}
use Rattle.std.specs.Option.{option_map}
use Rattle.std.specs.Map.{lookup, set_value, remove_entry, keys_of, values_of}
use Rattle.indexmap.specs.IndexMap.{insert_entry}
use Rattle.scr_tables.specs.Names.{same_name}
use Rattle.scr_tables.specs.Tables.{row_of, with_row, without}
use Rattle.scr_tables.specs.ByName.{by_name}
use Rattle.scr_tables.proofs.TableRows.{same_name-is, name_of-row_of}

module _ {Row : Type 0} (name_of : Row → List ℕ) where
  pub values-by_name : (rows : List Row) → values_of (by_name name_of rows) ≡ rows
  values-by_name [] = refl
  values-by_name (row ∷ rows) = ap (λ rs. row ∷ rs) (values-by_name rows)

  -- a look-up in the map finds what one in the table finds
  pub lookup-by_name : (name : List ℕ) (rows : List Row)
      → lookup (same_name name) (by_name name_of rows) ≡ row_of name_of name rows
  lookup-by_name name [] = refl
  lookup-by_name name (row ∷ rows) = ap (λ o. cond (same_name name (name_of row)) (Some row) o)
      (lookup-by_name name rows)

  pub insert_entry-by_name : (new : Row) (rows : List Row)
      → insert_entry same_name (by_name name_of rows) (name_of new) new ≡ by_name name_of (with_row name_of new rows)
  insert_entry-by_name new [] = refl
  insert_entry-by_name new (row ∷ rows) = let rest = insert_entry-by_name new rows in grind (arith, rest, same_name-is (name_of new) (name_of row))

  pub remove_entry-by_name : (name : List ℕ) (rows : List Row)
      → remove_entry (same_name name) (by_name name_of rows) ≡ by_name name_of (without name_of name rows)
  remove_entry-by_name name [] = refl
  remove_entry-by_name name (row ∷ rows) = let rest = remove_entry-by_name name rows in grind (arith, rest)

  -- a row written in the place of one of its name
  pub set_value-by_name : (new : Row) (rows : List Row) (old : Row) → row_of name_of (name_of new) rows ≡ Some old
      → set_value (same_name (name_of new)) (by_name name_of rows) new ≡ by_name name_of (with_row name_of new rows)
  set_value-by_name new [] old is = absurd (cc)
  set_value-by_name new (row ∷ rows) old is = let rest = set_value-by_name new rows old in grind (arith, is, rest, same_name-is (name_of new) (name_of row))

  pub keys-by_name : (rows : List Row) → keys_of (by_name name_of rows) ≡ map name_of rows
  keys-by_name [] = refl
  keys-by_name (row ∷ rows) = ap (λ ns. name_of row ∷ ns) (keys-by_name rows)

  -- ---- a map that keeps a table

  -- a map of these rows keeps them
  pub kept_from_rows : (entries : List (List ℕ × Row)) (rows : List Row) → entries ≡ by_name name_of rows
      → (entries ≡ by_name name_of (values_of entries)) × (values_of entries ≡ rows)
  kept_from_rows entries rows is =
      let view : values_of entries ≡ rows = ap values_of is ∙ values-by_name rows in
      (is ∙ ap (by_name name_of) (sym view), view)

  module _ (entries : List (List ℕ × Row)) (now : List Row) (view : values_of entries ≡ now)
      (kept : entries ≡ by_name name_of (values_of entries)) where
    keyed : entries ≡ by_name name_of now
    keyed = kept ∙ ap (by_name name_of) view

    pub keys-kept : keys_of entries ≡ map name_of now
    keys-kept = ap keys_of keyed ∙ keys-by_name now

    pub lookup-kept : (name : List ℕ) → lookup (same_name name) entries ≡ row_of name_of name now
    lookup-kept name = ap (lookup (same_name name)) keyed ∙ lookup-by_name name now

    pub put-kept : (new : Row) (after : List (List ℕ × Row)) → after ≡ insert_entry same_name entries (name_of new) new
        → (after ≡ by_name name_of (values_of after)) × (values_of after ≡ with_row name_of new now)
    put-kept new after is = kept_from_rows after (with_row name_of new now)
        (is ∙ ap (λ es. insert_entry same_name es (name_of new) new) keyed ∙ insert_entry-by_name new now)

    pub remove-kept : (name : List ℕ) (after : List (List ℕ × Row)) → after ≡ remove_entry (same_name name) entries
        → (after ≡ by_name name_of (values_of after)) × (values_of after ≡ without name_of name now)
    remove-kept name after is = kept_from_rows after (without name_of name now)
        (is ∙ ap (remove_entry (same_name name)) keyed ∙ remove_entry-by_name name now)

    -- a row that keeps its name, written back in its place
    pub change-kept : (name : List ℕ) (old new : Row) (after : List (List ℕ × Row)) → row_of name_of name now ≡ Some old
        → name_of new ≡ name_of old → after ≡ set_value (same_name name) entries new
        → (after ≡ by_name name_of (values_of after)) × (values_of after ≡ with_row name_of new now)
    change-kept name old new after found named is =
        let own : name ≡ name_of new = same_name-is name (name_of old) (name_of-row_of name_of name now old found)
        ∙ sym named in
        kept_from_rows after (with_row name_of new now)
        (is ∙ ap (λ es. set_value (same_name name) es new) keyed
        ∙ ap (λ n. set_value (same_name n) (by_name name_of now) new) own
        ∙ set_value-by_name new now old (ap (λ n. row_of name_of n now) (sym own) ∙ found))

    -- the place at which a look-up found a row is that of a row of this name
    pub place-kept : (name : List ℕ) (found : Option ℕ) → is_some found ≡ is_some (lookup (same_name name) entries)
        → IfSome found (λ k. slice_get (values_of entries) k ≡ lookup (same_name name) entries)
        → IfSome found (λ k. option_map name_of (slice_get now k) ≡ Some name)
    place-kept name None there value = tt
    place-kept name (Some k) there value = by (row_of name_of name now) refl
      where
        got : slice_get now k ≡ row_of name_of name now
        got = ap (λ rows. slice_get rows k) (sym view) ∙ value ∙ lookup-kept name

        by : (o : Option Row) → row_of name_of name now ≡ o → option_map name_of (slice_get now k) ≡ Some name
        by None e = let never : true ≡ false = there ∙ ap is_some (lookup-kept name ∙ e) in absurd (cc)
        by (Some row) e = ap (option_map name_of) (got ∙ e)
            ∙ ap Some (sym (same_name-is name (name_of row) (name_of-row_of name_of name now row e)))
