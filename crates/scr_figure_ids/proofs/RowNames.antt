-- The names of a table's rows, by place.
use Rattle.std.proofs.Common.{◌≡◌, ℕ, zero, suc, ◌+◌, ◌<◌, ◌≤◌, Bool, true, false, cond, List, [], ◌∷◌, ◌++◌, Option, Some, None, length, map, refl, sym, ap, subst, ◌∙◌, arith}
use Rattle.std.specs.List.{AllByRecursion, IsDistinct, remove, slice_get}
use Rattle.std.specs.Option.{IfSome, is_some, option_map, option_map_or}
use Rattle.std.proofs.lemmas.Map.Keys.{IsDistinct-head, IsDistinct-tail}
use Rattle.std.proofs.lemmas.List.Edits.{get_or-remove_above, get_or-remove_below, length-remove}
use Rattle.std.proofs.lemmas.Option.{get_or_from_slice_get, slice_get-get_or, slice_get-map, slice_get_within}
use Rattle.scr_tables.specs.Names.{same_name}
use Rattle.scr_tables.specs.Tables.{has_row, with_row, without}
use Rattle.scr_tables.proofs.TableRows.{row_of-here, row_of-later, same_name-is, same_name-itself, same_name-flip, same_or_other}
use Rattle.scr_figure_ids.specs.Records.{place_in}

one-more : (m : ℕ) → suc m ≡ m + 1
one-more m = omega arith

-- ---- the place of a name

pub placed-some : (name : List ℕ) (names : List (List ℕ)) (k : ℕ) → place_in name names ≡ Some k → slice_get names k ≡ Some name
placed-some name [] k e = absurd (cc)
placed-some name (first ∷ names) k e = by (same_name name first) refl (λ n f. placed-some name names n f)
  where
    later : (found : Option ℕ) → place_in name names ≡ found → option_map (λ n. n + 1) found ≡ Some k
        → ((n : ℕ) → place_in name names ≡ Some n → slice_get names n ≡ Some name) → slice_get (first ∷ names) k ≡ Some name
    later None f t rest = absurd (cc)
    later (Some n) f t rest =
        let next : n + 1 ≡ k = cc in
        subst (λ m. slice_get (first ∷ names) m ≡ Some name) (one-more n ∙ next) (rest n f)

    by : (t : Bool) → same_name name first ≡ t → ((n : ℕ) → place_in name names ≡ Some n → slice_get names n ≡ Some name)
        → slice_get (first ∷ names) k ≡ Some name
    by true t rest =
        let here : Some 0 ≡ Some k = sym (ap (λ b. cond b (Some 0) (option_map (λ n. n + 1) (place_in name names))) t) ∙ e in
        let at : 0 ≡ k = cc in
        subst (λ m. slice_get (first ∷ names) m ≡ Some name) at (ap Some (sym (same_name-is name first t)))
    by false t rest =
        later (place_in name names) refl
        (sym (ap (λ b. cond b (Some 0) (option_map (λ n. n + 1) (place_in name names))) t) ∙ e) rest

-- where no name is twice, a name has no other place
pub placed-at : (name : List ℕ) (names : List (List ℕ)) (k : ℕ) → IsDistinct same_name names → slice_get names k ≡ Some name
    → place_in name names ≡ Some k
placed-at name [] k once e = absurd (cc)
placed-at name (first ∷ names) zero once e =
    let same : first ≡ name = cc in
    let here : same_name name first ≡ true = ap (same_name name) same ∙ same_name-itself name in
    ap (λ b. cond b (Some 0) (option_map (λ n. n + 1) (place_in name names))) here
placed-at name (first ∷ names) (suc k) once e =
    let other : same_name name first ≡ false =
    same_name-flip name first ∙ apart names k (IsDistinct-head same_name first names once) e in
    let rest = placed-at name names k (IsDistinct-tail same_name first names once) e in
    ap (λ b. cond b (Some 0) (option_map (λ n. n + 1) (place_in name names))) other
    ∙ ap (option_map (λ n. n + 1)) rest ∙ ap Some (sym (one-more k))
  where
    apart : (list : List (List ℕ)) (m : ℕ) → AllByRecursion (λ other. same_name first other ≡ false) list
        → slice_get list m ≡ Some name → same_name first name ≡ false
    apart [] m all at = absurd (cc)
    apart (x ∷ xs) zero all at = let same : x ≡ name = cc in ap (same_name first) (sym same) ∙ all.0
    apart (x ∷ xs) (suc m) all at = apart xs m all.1 at

-- a name that stands nowhere has no place
pub placed-nowhere : (name : List ℕ) (names : List (List ℕ)) → place_in name names ≡ None → (k : ℕ) → slice_get names k ≡ Some name → ⊥
placed-nowhere name [] none k e = absurd (cc)
placed-nowhere name (first ∷ names) none k e = by (same_name name first) refl k e (λ f m at. placed-nowhere name names f m at)
  where
    later : (found : Option ℕ) → option_map (λ n. n + 1) found ≡ None → found ≡ None
    later None f = refl
    later (Some n) f = absurd (cc)

    by : (t : Bool) → same_name name first ≡ t → (m : ℕ) → slice_get (first ∷ names) m ≡ Some name
        → (place_in name names ≡ None → (n : ℕ) → slice_get names n ≡ Some name → ⊥) → ⊥
    by true t m at rest =
        let clash : Some 0 ≡ None = sym (ap (λ b. cond b (Some 0) (option_map (λ n. n + 1) (place_in name names))) t) ∙ none in
        absurd (cc)
    by false t zero at rest =
        let same : first ≡ name = cc in
        let own : same_name name first ≡ true = ap (same_name name) same ∙ same_name-itself name in
        let clash : false ≡ true = sym t ∙ own in
        absurd (cc)
    by false t (suc m) at rest =
        rest (later (place_in name names) (sym (ap (λ b. cond b (Some 0) (option_map (λ n. n + 1) (place_in name names))) t) ∙ none)) m at

-- what a look-up of a row tells of the place of its name
module _ {Row : Type 0} (name_of : Row → List ℕ) (name : List ℕ) where
  placed-none : (rows : List Row) → has_row name_of name rows ≡ false → place_in name (map name_of rows) ≡ None
  placed-none [] has = refl
  placed-none (row ∷ rows) has = same_or_other name (name_of row)
      (λ e. let clash : true ≡ false = sym (ap is_some (row_of-here name_of name row rows e)) ∙ has in absurd (cc))
      (λ e.
      ap (λ b. cond b (Some 0) (option_map (λ n. n + 1) (place_in name (map name_of rows)))) e
      ∙ ap (option_map (λ n. n + 1)) (placed-none rows (sym (ap is_some (row_of-later name_of name row rows e)) ∙ has)))

  pub placed-is : (rows : List Row) (found : Option ℕ) → IsDistinct same_name (map name_of rows)
      → is_some found ≡ has_row name_of name rows
      → IfSome found (λ k. option_map name_of (slice_get rows k) ≡ Some name) → found ≡ place_in name (map name_of rows)
  placed-is rows None once there at = sym (placed-none rows (sym there))
  placed-is rows (Some k) once there at =
      sym (placed-at name (map name_of rows) k once (slice_get-map name_of rows k ∙ at))

-- ---- a table's names after a row was made or dropped

module _ {Row : Type 0} (name_of : Row → List ℕ) where
  pub names-replaced : (new : Row) (rows : List Row) → has_row name_of (name_of new) rows ≡ true
      → map name_of (with_row name_of new rows) ≡ map name_of rows
  names-replaced new [] has = absurd (cc)
  names-replaced new (row ∷ rows) has =
      let rest = names-replaced new rows in grind (arith, has, rest, same_name-is (name_of new) (name_of row))

  pub names-more : (new : Row) (rows : List Row) → has_row name_of (name_of new) rows ≡ false
      → map name_of (with_row name_of new rows) ≡ map name_of rows ++ name_of new ∷ []
  names-more new [] has = refl
  names-more new (row ∷ rows) has = let rest = names-more new rows in grind (arith, has, rest)

  abbrev less : List ℕ → List Row → Option ℕ → List (List ℕ)
  less name rows place = option_map_or (λ k. remove (map name_of rows) k) place (map name_of rows)

  pub names-less : (name : List ℕ) (rows : List Row)
      → map name_of (without name_of name rows) ≡ less name rows (place_in name (map name_of rows))
  names-less name [] = refl
  names-less name (row ∷ rows) = by (same_name name (name_of row)) refl (names-less name rows)
    where
      names : List (List ℕ)
      names = map name_of rows

      later : (found : Option ℕ) → place_in name names ≡ found
          → name_of row ∷ less name rows found ≡ less name (row ∷ rows) (option_map (λ n. n + 1) found)
      later None f = refl
      later (Some n) f = ap (remove (name_of row ∷ names)) (one-more n)

      by : (t : Bool) → same_name name (name_of row) ≡ t
          → map name_of (without name_of name rows) ≡ less name rows (place_in name names)
          → map name_of (without name_of name (row ∷ rows)) ≡ less name (row ∷ rows) (place_in name (name_of row ∷ names))
      by true t rest =
          ap (λ b. map name_of (cond b rows (row ∷ without name_of name rows))) t
          ∙ sym (ap (λ b. less name (row ∷ rows) (cond b (Some 0) (option_map (λ n. n + 1) (place_in name names)))) t)
      by false t rest =
          ap (λ b. map name_of (cond b rows (row ∷ without name_of name rows))) t
          ∙ ap (λ ns. name_of row ∷ ns) rest
          ∙ later (place_in name names) refl
          ∙ sym (ap (λ b. less name (row ∷ rows) (cond b (Some 0) (option_map (λ n. n + 1) (place_in name names)))) t)

-- ---- what stands at a place

pub got-front : (xs ys : List (List ℕ)) (k : ℕ) (x : List ℕ) → slice_get xs k ≡ Some x → slice_get (xs ++ ys) k ≡ Some x
got-front [] ys k x e = absurd (cc)
got-front (first ∷ xs) ys zero x e = e
got-front (first ∷ xs) ys (suc k) x e = got-front xs ys k x e

module _ (xs : List (List ℕ)) (i : ℕ) (within : i < length xs) where
  pub got-below : (k : ℕ) (x : List ℕ) → k < i → slice_get (remove xs i) k ≡ Some x → slice_get xs k ≡ Some x
  got-below k x less e =
      slice_get-get_or xs k [] (omega arith)
      ∙ ap Some (sym (get_or-remove_below xs i [] k less within) ∙ get_or_from_slice_get (remove xs i) k x [] e)

  pub got-above : (k : ℕ) (x : List ℕ) → i ≤ k → slice_get (remove xs i) k ≡ Some x → slice_get xs (k + 1) ≡ Some x
  got-above k x least e =
      let room = slice_get_within (remove xs i) k x e in
      slice_get-get_or xs (k + 1) [] (omega (arith, room, length-remove xs i within))
      ∙ ap Some (sym (get_or-remove_above xs i [] k least within) ∙ get_or_from_slice_get (remove xs i) k x [] e)
