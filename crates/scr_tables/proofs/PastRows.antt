-- What stood in a table leads back to it.
use Rattle.std.proofs.Common.{◌≡◌, ℕ, zero, suc, ◌<◌, ◌≤◌, true, false, List, [], ◌∷◌, Option, Some, None, is_some, length, map, slice_get, insert, refl, sym, ap, ◌∙◌, arith}
use Rattle.std.specs.List.{IsDistinct}
use Rattle.std.specs.Option.{option_map}
use Rattle.scr_tables.specs.Names.{same_name}
use Rattle.scr_tables.specs.Tables.{row_of, has_row, with_row, without}
use Rattle.scr_tables.specs.Pasts.{HasPlace, LeadsBack}
use Rattle.scr_tables.specs.declared.past.Past.TheVariants as pasts
use Rattle.scr_tables.proofs.TableRows.{IsFresh, same_name-is, same_name-itself, same_name-flip, row_of-here, without-here, without-later, name_of-row_of, row_of-with_row_own, row_of-without_own}

module _ {Row : Type 0} (name_of : Row → List ℕ) where
  -- a name that no row has
  without-none : (name : List ℕ) (rows : List Row) → row_of name_of name rows ≡ None → without name_of name rows ≡ rows
  without-none name [] none = refl
  without-none name (row ∷ rows) none = let rest = without-none name rows in grind (arith, none, rest)

  -- a row that was made taken out again
  without-made : (new : Row) (rows : List Row) → row_of name_of (name_of new) rows ≡ None → without name_of (name_of new) (with_row name_of new rows) ≡ rows
  without-made new [] none = without-here name_of (name_of new) new [] (same_name-itself (name_of new))
  without-made new (row ∷ rows) none = let rest = without-made new rows in grind (arith, none, rest)

  -- a row put in its own place again
  with_row-again : (old new : Row) (rows : List Row) → row_of name_of (name_of old) rows ≡ Some old → name_of new ≡ name_of old → with_row name_of old (with_row name_of new rows) ≡ rows
  with_row-again old new [] found named = absurd (cc)
  with_row-again old new (row ∷ rows) found named = let rest = with_row-again old new rows in grind (arith, found, named, rest, same_name-itself (name_of old))

  with_row-itself : (old : Row) (rows : List Row) → row_of name_of (name_of old) rows ≡ Some old → with_row name_of old rows ≡ rows
  with_row-itself old [] found = absurd (cc)
  with_row-itself old (row ∷ rows) found = let rest = with_row-itself old rows in grind (arith, found, rest)

  -- a row put in at the place from which it was taken
  insert-without : (rows : List Row) (k : ℕ) (row : Row) → IsDistinct same_name (map name_of rows) → slice_get rows k ≡ Some row → insert (without name_of (name_of row) rows) k row ≡ rows
  unfolding IsDistinct
  insert-without [] k row apart got = absurd (cc)
  insert-without (first ∷ rows) zero row apart got =
      let same : first ≡ row = cc in
      ap (λ rs. insert rs 0 row) (without-here name_of (name_of row) first rows (ap (λ r. same_name (name_of row) (name_of r)) same ∙ same_name-itself (name_of row)))
      ∙ ap (λ r. r ∷ rows) (sym same)
  insert-without (first ∷ rows) (suc k) row apart got =
      let other : same_name (name_of row) (name_of first) ≡ false = same_name-flip (name_of row) (name_of first) ∙ apart-at (name_of first) rows k row apart.0 got in
      ap (λ rs. insert rs (suc k) row) (without-later name_of (name_of row) first rows other) ∙ ap (λ rs. first ∷ rs) (insert-without rows k row apart.1 got)
    where
      apart-at : (name : List ℕ) (rs : List Row) (j : ℕ) (r : Row) → IsFresh name (map name_of rs) → slice_get rs j ≡ Some r → same_name name (name_of r) ≡ false
      apart-at name [] j r fresh got = absurd (cc)
      apart-at name (x ∷ rs) zero r fresh got = let same : x ≡ r = cc in ap (λ y. same_name name (name_of y)) (sym same) ∙ fresh.0
      apart-at name (x ∷ rs) (suc j) r fresh got = apart-at name rs j r fresh.1 got

  -- a row more than without it
  length-without : (rows : List Row) (name : List ℕ) → has_row name_of name rows ≡ true → suc (length (without name_of name rows)) ≡ length rows
  length-without [] name has = absurd (cc)
  length-without (row ∷ rows) name has = let rest = length-without rows name in grind (arith, has, rest)

  pub below : (rows : List Row) (k : ℕ) (row : Row) → slice_get rows k ≡ Some row → k < length rows
  below [] k row got = absurd (cc)
  below (first ∷ rows) zero row got = omega arith
  below (first ∷ rows) (suc k) row got = let rest = below rows k row got in omega (arith, rest)

  -- the row at a place is the first of its name
  found-at : (rows : List Row) (k : ℕ) (row : Row) → slice_get rows k ≡ Some row → has_row name_of (name_of row) rows ≡ true
  found-at [] k row got = absurd (cc)
  found-at (first ∷ rows) zero row got =
      let same : first ≡ row = cc in
      ap is_some (row_of-here name_of (name_of row) first rows (ap (λ r. same_name (name_of row) (name_of r)) same ∙ same_name-itself (name_of row)))
  found-at (first ∷ rows) (suc k) row got = let rest = found-at rows k row got in grind (arith, rest)

  -- ---- what is kept before a change

  pub back-new : (name : List ℕ) (rows : List Row) → row_of name_of name rows ≡ None → LeadsBack name_of name (pasts.New name) rows
  back-new name rows none = record {
    put = λ row named. (ap (λ n. without name_of n (with_row name_of row rows)) (sym named) ∙ without-made row rows (ap (λ n. row_of name_of n rows) named ∙ none), tt);
    still = (without-none name rows none, tt);
  }

  pub back-replaced : (name : List ℕ) (old : Row) (rows : List Row) → row_of name_of name rows ≡ Some old → LeadsBack name_of name (pasts.Replaced old) rows
  back-replaced name old rows found =
      let own : name ≡ name_of old = same_name-is name (name_of old) (name_of-row_of name_of name rows old found) in
      let there : row_of name_of (name_of old) rows ≡ Some old = ap (λ n. row_of name_of n rows) (sym own) ∙ found in
      record {
        put = λ row named. (with_row-again old row rows there (named ∙ own), ap (λ n. has_row name_of n (with_row name_of row rows)) (sym (named ∙ own)) ∙ ap is_some (row_of-with_row_own name_of row rows));
        still = (with_row-itself old rows there, ap is_some there);
      }

  pub back-none : (name : List ℕ) (rows : List Row) → row_of name_of name rows ≡ None → without name_of name (without name_of name rows) ≡ rows
  back-none name rows none = ap (without name_of name) (without-none name rows none) ∙ without-none name rows none

  pub back-dropped : (name : List ℕ) (rows : List Row) (k : ℕ) (row : Row) (room : ℕ) → IsDistinct same_name (map name_of rows) → slice_get rows k ≡ Some row → name_of row ≡ name → length rows ≤ room
      → (insert (without name_of name rows) k row ≡ rows) × HasPlace name_of (pasts.Dropped k row room) (without name_of name rows)
  back-dropped name rows k row room apart got named fits =
      let has : has_row name_of name rows ≡ true = ap (λ n. has_row name_of n rows) (sym named) ∙ found-at rows k row got in
      let less = length-without rows name has in
      let within = below rows k row got in
      let gone : has_row name_of (name_of row) (without name_of name rows) ≡ false = ap (λ n. has_row name_of n (without name_of name rows)) named ∙ ap is_some (row_of-without_own name_of name rows apart) in (
        ap (λ n. insert (without name_of n rows) k row) (sym named) ∙ insert-without rows k row apart got,
        (omega (arith, less, within), gone, omega (arith, less, fits)),
      )

-- a row that has the name at a place
pub at_place : {Row : Type 0} (name_of : Row → List ℕ) (o : Option Row) (name : List ℕ) → option_map name_of o ≡ Some name → (row : Row) × (o ≡ Some row) × (name_of row ≡ name)
at_place name_of None name is = absurd (cc)
at_place name_of (Some row) name is = (row, refl, cc)

pub missing : {X : Type 0} (o : Option X) → is_some o ≡ false → o ≡ None
missing None absent = refl
missing (Some x) absent = absurd (cc)
