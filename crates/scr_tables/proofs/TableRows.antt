-- The rows of a table: what a look-up finds, and what a row that is put in or taken out leaves.
use Rattle.std.proofs.Common.{◌≡◌, ℕ, ◌+◌, Bool, true, false, cond, List, [], ◌∷◌, ◌++◌, length, map, sum_by, Option, Some, None, is_some, refl, sym, ap, subst, ◌∙◌, arith, append_assoc}
use Rattle.std.specs.List.{AllByRecursion, IsDistinct}
use Rattle.std.specs.Option.{option_map_or}
use Rattle.std.proofs.lemmas.List.Sums.{sum_by-cons}
use Rattle.std.specs.Cmp.Lexicographic.{bytes_decides, nat_list_eq_equiv}
use Rattle.scr_tables.specs.Names.{same_name}
use Rattle.scr_tables.specs.Tables.{row_of, has_row, with_row, without, changed}

-- ---- names

pub same_name-itself : (a : List ℕ) → same_name a a ≡ true
same_name-itself a = nat_list_eq_equiv.refl a

pub same_name-flip : (a b : List ℕ) → same_name a b ≡ same_name b a
same_name-flip a b = nat_list_eq_equiv.symm a b

pub same_name-is : (a b : List ℕ) → same_name a b ≡ true → a ≡ b
same_name-is a b h = (bytes_decides a b).0 h

-- either the two are one name or they are not
pub same_or_other : {P : Type 0} (a b : List ℕ) → (same_name a b ≡ true → P) → (same_name a b ≡ false → P) → P
same_or_other {P} a b same other = by (same_name a b) refl
  where
    by : (t : Bool) → same_name a b ≡ t → P
    by true e = same e
    by false e = other e

-- either a test passes or it fails
pub passes_or_fails : {P : Type 0} (t : Bool) → (t ≡ true → P) → (t ≡ false → P) → P
passes_or_fails {P} t pass fail = by t refl
  where
    by : (s : Bool) → t ≡ s → P
    by true e = pass e
    by false e = fail e

-- how many rows come with a name for which this was found
abbrev pub added : {Row : Type 0} → Option Row → ℕ
added None = 1
added (Some row) = 0

-- no name of the list is this one
abbrev pub IsFresh : List ℕ → List (List ℕ) → Type 0
IsFresh name names = AllByRecursion (λ other. same_name name other ≡ false) names

-- ---- what is true of each element

pub All-append : {X : Type 0} (P : X → Type 0) (xs ys : List X) → AllByRecursion P xs → AllByRecursion P ys
    → AllByRecursion P (xs ++ ys)
All-append P [] ys left right = right
All-append P (x ∷ xs) ys left right = (left.0, All-append P xs ys left.1 right)

All-insert : {X : Type 0} (P : X → Type 0) (xs ys : List X) (y : X) → P y → AllByRecursion P (xs ++ ys)
    → AllByRecursion P (xs ++ y ∷ ys)
All-insert P [] ys y own all = (own, all)
All-insert P (x ∷ xs) ys y own all = (all.0, All-insert P xs ys y own all.1)

All-remove : {X : Type 0} (P : X → Type 0) (xs ys : List X) (y : X) → AllByRecursion P (xs ++ y ∷ ys)
    → AllByRecursion P (xs ++ ys)
All-remove P [] ys y all = all.1
All-remove P (x ∷ xs) ys y all = (all.0, All-remove P xs ys y all.1)

pub All-map : {X : Type 0} (P Q : X → Type 0) (xs : List X) → ((x : X) → P x → Q x) → AllByRecursion P xs
    → AllByRecursion Q xs
All-map P Q [] step all = tt
All-map P Q (x ∷ xs) step all = (step x all.0, All-map P Q xs step all.1)

-- two facts of each element
pub All-both : {X : Type 0} (P Q R : X → Type 0) (xs : List X) → ((x : X) → P x → Q x → R x) → AllByRecursion P xs
    → AllByRecursion Q xs → AllByRecursion R xs
All-both P Q R [] step left right = tt
All-both P Q R (x ∷ xs) step left right = (step x left.0 right.0, All-both P Q R xs step left.1 right.1)

-- ---- distinct names

distinct-insert : (xs ys : List (List ℕ)) (name : List ℕ) → IsDistinct same_name (xs ++ ys) → IsFresh name (xs ++ ys)
    → IsDistinct same_name (xs ++ name ∷ ys)
unfolding IsDistinct
distinct-insert [] ys name apart fresh = (fresh, apart)
distinct-insert (x ∷ xs) ys name apart fresh = (
  All-insert (λ other. same_name x other ≡ false) xs ys name (same_name-flip x name ∙ fresh.0) apart.0,
  distinct-insert xs ys name apart.1 fresh.1,
)

distinct-remove : (xs ys : List (List ℕ)) (name : List ℕ) → IsDistinct same_name (xs ++ name ∷ ys)
    → IsDistinct same_name (xs ++ ys)
unfolding IsDistinct
distinct-remove [] ys name apart = apart.1
distinct-remove (x ∷ xs) ys name apart =
    (All-remove (λ other. same_name x other ≡ false) xs ys name apart.0, distinct-remove xs ys name apart.1)

module _ {Row : Type 0} (name_of : Row → List ℕ) where
  -- ---- one step of each recursion

  pub row_of-here : (name : List ℕ) (row : Row) (rows : List Row) → same_name name (name_of row) ≡ true
      → row_of name_of name (row ∷ rows) ≡ Some row
  row_of-here name row rows e = ap (λ t. cond t (Some row) (row_of name_of name rows)) e

  pub row_of-later : (name : List ℕ) (row : Row) (rows : List Row) → same_name name (name_of row) ≡ false
      → row_of name_of name (row ∷ rows) ≡ row_of name_of name rows
  row_of-later name row rows e = ap (λ t. cond t (Some row) (row_of name_of name rows)) e

  pub with_row-here : (new row : Row) (rows : List Row) → same_name (name_of new) (name_of row) ≡ true
      → with_row name_of new (row ∷ rows) ≡ new ∷ rows
  with_row-here new row rows e = ap (λ t. cond t (new ∷ rows) (row ∷ with_row name_of new rows)) e

  pub with_row-later : (new row : Row) (rows : List Row) → same_name (name_of new) (name_of row) ≡ false
      → with_row name_of new (row ∷ rows) ≡ row ∷ with_row name_of new rows
  with_row-later new row rows e = ap (λ t. cond t (new ∷ rows) (row ∷ with_row name_of new rows)) e

  pub without-here : (name : List ℕ) (row : Row) (rows : List Row) → same_name name (name_of row) ≡ true
      → without name_of name (row ∷ rows) ≡ rows
  without-here name row rows e = ap (λ t. cond t rows (row ∷ without name_of name rows)) e

  pub without-later : (name : List ℕ) (row : Row) (rows : List Row) → same_name name (name_of row) ≡ false
      → without name_of name (row ∷ rows) ≡ row ∷ without name_of name rows
  without-later name row rows e = ap (λ t. cond t rows (row ∷ without name_of name rows)) e

  -- ---- what is true of each row

  pub All-with_row : (P : Row → Type 0) (new : Row) (rows : List Row) → P new → AllByRecursion P rows
      → AllByRecursion P (with_row name_of new rows)
  All-with_row P new [] own all = (own, tt)
  All-with_row P new (row ∷ rows) own all =
      same_or_other (name_of new) (name_of row)
      (λ e. subst (AllByRecursion P) (sym (with_row-here new row rows e)) (own, all.1))
      (λ e. subst (AllByRecursion P) (sym (with_row-later new row rows e)) (all.0, All-with_row P new rows own all.1))

  pub All-without : (P : Row → Type 0) (name : List ℕ) (rows : List Row) → AllByRecursion P rows
      → AllByRecursion P (without name_of name rows)
  All-without P name [] all = tt
  All-without P name (row ∷ rows) all =
      same_or_other name (name_of row) (λ e. subst (AllByRecursion P) (sym (without-here name row rows e)) all.1)
      (λ e. subst (AllByRecursion P) (sym (without-later name row rows e)) (all.0, All-without P name rows all.1))

  pub All-row_of : (P : Row → Type 0) (name : List ℕ) (rows : List Row) (row : Row)
      → row_of name_of name rows ≡ Some row → AllByRecursion P rows → P row
  All-row_of P name [] row is all = absurd (cc)
  All-row_of P name (first ∷ rows) row is all =
      same_or_other name (name_of first)
      (λ e. let found : Some first ≡ Some row = sym (row_of-here name first rows e) ∙ is in
      let same : first ≡ row = cc in
      subst P same all.0)
      (λ e. All-row_of P name rows row (sym (row_of-later name first rows e) ∙ is) all.1)

  -- the name of the row that is found
  pub name_of-row_of : (name : List ℕ) (rows : List Row) (row : Row) → row_of name_of name rows ≡ Some row
      → same_name name (name_of row) ≡ true
  name_of-row_of name [] row is = absurd (cc)
  name_of-row_of name (first ∷ rows) row is =
      same_or_other name (name_of first)
      (λ e. let found : Some first ≡ Some row = sym (row_of-here name first rows e) ∙ is in
      let same : first ≡ row = cc in
      subst (λ r. same_name name (name_of r) ≡ true) same e)
      (λ e. name_of-row_of name rows row (sym (row_of-later name first rows e) ∙ is))

  pub All-changed : (P : Row → Type 0) (change : Row → Row) (name : List ℕ) (rows : List Row)
      → ((row : Row) → row_of name_of name rows ≡ Some row → P row → P (change row)) → AllByRecursion P rows
      → AllByRecursion P (changed name_of change name rows)
  All-changed P change name rows keeps all = by (row_of name_of name rows) refl
    where
      by : (found : Option Row) → row_of name_of name rows ≡ found
          → AllByRecursion P (option_map_or (λ row. with_row name_of (change row) rows) found rows)
      by None e = all
      by (Some row) e = All-with_row P (change row) rows (keeps row e (All-row_of P name rows row e all)) all

  -- ---- there is a row of a name

  pub has_row-with_row : (name : List ℕ) (new : Row) (rows : List Row) → has_row name_of name rows ≡ true
      → has_row name_of name (with_row name_of new rows) ≡ true
  has_row-with_row name new [] has = absurd (cc)
  has_row-with_row name new (row ∷ rows) has = let rest = has_row-with_row name new rows in grind (arith, has, rest, same_name-is (name_of new) (name_of row))

  pub has_row-without : (name other : List ℕ) (rows : List Row) → same_name other name ≡ false
      → has_row name_of name rows ≡ true → has_row name_of name (without name_of other rows) ≡ true
  has_row-without name other [] apart has = absurd (cc)
  has_row-without name other (row ∷ rows) apart has = let rest = has_row-without name other rows apart in grind (arith, apart, has, rest, same_name-is other (name_of row), same_name-flip name (name_of row))

  -- ---- the names of the rows

  names-with_row : (new : Row) (rows : List Row) → has_row name_of (name_of new) rows ≡ true
      → map name_of (with_row name_of new rows) ≡ map name_of rows
  names-with_row new [] has = absurd (cc)
  names-with_row new (row ∷ rows) has = let rest = names-with_row new rows in grind (arith, has, rest, same_name-is (name_of new) (name_of row))

  names-with_row-new : (new : Row) (rows : List Row) → has_row name_of (name_of new) rows ≡ false
      → map name_of (with_row name_of new rows) ≡ map name_of rows ++ name_of new ∷ []
  names-with_row-new new [] has = refl
  names-with_row-new new (row ∷ rows) has = let rest = names-with_row-new new rows in grind (arith, has, rest)

  -- a name without a row is none of the rows' names
  pub fresh_from_has_row : (name : List ℕ) (rows : List Row) → has_row name_of name rows ≡ false
      → IsFresh name (map name_of rows)
  fresh_from_has_row name [] has = tt
  fresh_from_has_row name (row ∷ rows) has =
      same_or_other name (name_of row)
      (λ e. let found : true ≡ false = sym (ap is_some (row_of-here name row rows e)) ∙ has in absurd (cc))
      (λ e. (e, fresh_from_has_row name rows (ap is_some (sym (row_of-later name row rows e)) ∙ has)))

  -- the names before and after those of a table stay, and no two get one name
  pub distinct-with_row : (before after : List (List ℕ)) (new : Row) (rows : List Row)
      → (has_row name_of (name_of new) rows ≡ false → IsFresh (name_of new) before × IsFresh (name_of new) after)
      → IsDistinct same_name (before ++ (map name_of rows ++ after))
      → IsDistinct same_name (before ++ (map name_of (with_row name_of new rows) ++ after))
  distinct-with_row before after new rows fresh apart =
      passes_or_fails (has_row name_of (name_of new) rows)
      (λ has. subst (λ names. IsDistinct same_name (before ++ (names ++ after)))
      (sym (names-with_row new rows has)) apart)
      (λ has. let old : List (List ℕ) = map name_of rows in
      let moved : before ++ ((old ++ name_of new ∷ []) ++ after) ≡ (before ++ old) ++ name_of new ∷ after =
      simp append_assoc in
      let apart_now : IsDistinct same_name ((before ++ old) ++ after) =
      subst (IsDistinct same_name) (sym (append_assoc before old after)) apart in
      let fresh_now : IsFresh (name_of new) ((before ++ old) ++ after) =
      All-append _ (before ++ old) after
      (All-append _ before old (fresh has).0 (fresh_from_has_row (name_of new) rows has)) (fresh has).1 in
      subst (λ names. IsDistinct same_name (before ++ (names ++ after))) (sym (names-with_row-new new rows has))
      (subst (IsDistinct same_name) (sym moved)
      (distinct-insert (before ++ old) after (name_of new) apart_now fresh_now)))

  pub distinct-without : (before after : List (List ℕ)) (name : List ℕ) (rows : List Row)
      → IsDistinct same_name (before ++ (map name_of rows ++ after))
      → IsDistinct same_name (before ++ (map name_of (without name_of name rows) ++ after))
  distinct-without before after name [] apart = apart
  distinct-without before after name (row ∷ rows) apart =
      same_or_other name (name_of row)
      (λ e. subst (λ rs. IsDistinct same_name (before ++ (map name_of rs ++ after)))
      (sym (without-here name row rows e)) (distinct-remove before (map name_of rows ++ after) (name_of row) apart))
      (λ e. let here : List (List ℕ) = name_of row ∷ [] in
      let rest = distinct-without (before ++ here) after name rows
      (subst (IsDistinct same_name) (sym (append_assoc before here (map name_of rows ++ after))) apart) in
      subst (λ rs. IsDistinct same_name (before ++ (map name_of rs ++ after))) (sym (without-later name row rows e))
      (subst (IsDistinct same_name) (append_assoc before here (map name_of (without name_of name rows) ++ after)) rest))

  -- a row changed so that its name stays
  pub names-changed : (change : Row → Row) (name : List ℕ) (rows : List Row)
      → ((row : Row) → name_of (change row) ≡ name_of row)
      → map name_of (changed name_of change name rows) ≡ map name_of rows
  names-changed change name rows named = by (row_of name_of name rows) refl
    where
      by : (found : Option Row) → row_of name_of name rows ≡ found
          → map name_of (option_map_or (λ row. with_row name_of (change row) rows) found rows) ≡ map name_of rows
      by None e = refl
      by (Some row) e =
          let own : name ≡ name_of (change row) = same_name-is name (name_of row) (name_of-row_of name rows row e)
          ∙ sym (named row) in
          names-with_row (change row) rows (ap (λ n. has_row name_of n rows) (sym own) ∙ ap is_some e)

  pub has_row-changed : (other : List ℕ) (change : Row → Row) (name : List ℕ) (rows : List Row)
      → has_row name_of other rows ≡ true → has_row name_of other (changed name_of change name rows) ≡ true
  has_row-changed other change name rows has =
      let kept : (row : Row) → has_row name_of other (with_row name_of (change row) rows) ≡ true = λ row. has_row-with_row other (change row) rows has in
      grind (arith, has, kept)

  -- ---- sums

  -- what stood for the name goes out of the sum, and what stands for it now comes in
  pub sum-with_row : (f : Row → ℕ) (new : Row) (rows : List Row)
      → sum_by f (with_row name_of new rows) + option_map_or f (row_of name_of (name_of new) rows) 0
      ≡ sum_by f rows + f new
  sum-with_row f new [] = omega arith
  sum-with_row f new (row ∷ rows) = let rest = sum-with_row f new rows in grind (arith, rest, sum_by-cons)

  pub sum-without : (f : Row → ℕ) (name : List ℕ) (rows : List Row)
      → sum_by f (without name_of name rows) + option_map_or f (row_of name_of name rows) 0 ≡ sum_by f rows
  sum-without f name [] = omega arith
  sum-without f name (row ∷ rows) = let rest = sum-without f name rows in grind (arith, rest, sum_by-cons)

  -- a row changed so that its part of the sum stays
  pub sum-changed : (f : Row → ℕ) (change : Row → Row) (name : List ℕ) (rows : List Row)
      → ((row : Row) → name_of (change row) ≡ name_of row) → ((row : Row) → f (change row) ≡ f row)
      → sum_by f (changed name_of change name rows) ≡ sum_by f rows
  sum-changed f change name rows named same = by (row_of name_of name rows) refl
    where
      by : (found : Option Row) → row_of name_of name rows ≡ found
          → sum_by f (option_map_or (λ row. with_row name_of (change row) rows) found rows) ≡ sum_by f rows
      by None e = refl
      by (Some row) e =
          let own : name ≡ name_of (change row) = same_name-is name (name_of row) (name_of-row_of name rows row e)
          ∙ sym (named row) in
          let found : option_map_or f (row_of name_of (name_of (change row)) rows) 0 ≡ f row =
          ap (λ n. option_map_or f (row_of name_of n rows) 0) (sym own) ∙ ap (λ o. option_map_or f o 0) e in
          let sum = sum-with_row f (change row) rows in
          let kept : f (change row) ≡ f row = same row in
          omega arith

  -- ---- numbers of rows

  pub length-with_row : (new : Row) (rows : List Row)
      → length (with_row name_of new rows) ≡ length rows + added (row_of name_of (name_of new) rows)
  length-with_row new [] = refl
  length-with_row new (row ∷ rows) = let rest = length-with_row new rows in grind (arith, rest)

  -- ---- what a look-up finds afterwards

  pub row_of-with_row_own : (new : Row) (rows : List Row)
      → row_of name_of (name_of new) (with_row name_of new rows) ≡ Some new
  row_of-with_row_own new [] = row_of-here (name_of new) new [] (same_name-itself (name_of new))
  row_of-with_row_own new (row ∷ rows) = let rest = row_of-with_row_own new rows in grind (arith, rest, same_name-itself (name_of new))

  pub row_of-with_row_other : (name : List ℕ) (new : Row) (rows : List Row) → same_name name (name_of new) ≡ false
      → row_of name_of name (with_row name_of new rows) ≡ row_of name_of name rows
  row_of-with_row_other name new [] apart = row_of-later name new [] apart
  row_of-with_row_other name new (row ∷ rows) apart = let rest = row_of-with_row_other name new rows apart in grind (arith, apart, rest, same_name-is (name_of new) (name_of row))

  pub row_of-without_other : (name other : List ℕ) (rows : List Row) → same_name other name ≡ false
      → row_of name_of name (without name_of other rows) ≡ row_of name_of name rows
  row_of-without_other name other [] apart = refl
  row_of-without_other name other (row ∷ rows) apart = let rest = row_of-without_other name other rows apart in grind (arith, apart, rest, same_name-is other (name_of row), same_name-flip name (name_of row))

  -- a name that is none of the rows' has no row
  pub row_of-fresh : (name : List ℕ) (rows : List Row) → IsFresh name (map name_of rows)
      → row_of name_of name rows ≡ None
  row_of-fresh name [] fresh = refl
  row_of-fresh name (row ∷ rows) fresh = row_of-later name row rows fresh.0 ∙ row_of-fresh name rows fresh.1

  pub row_of-without_own : (name : List ℕ) (rows : List Row) → IsDistinct same_name (map name_of rows)
      → row_of name_of name (without name_of name rows) ≡ None
  unfolding IsDistinct
  row_of-without_own name [] apart = refl
  row_of-without_own name (row ∷ rows) apart =
      same_or_other name (name_of row)
      (λ e. let fresh : IsFresh name (map name_of rows) =
      subst (λ n. IsFresh n (map name_of rows)) (sym (same_name-is name (name_of row) e)) apart.0 in
      ap (row_of name_of name) (without-here name row rows e) ∙ row_of-fresh name rows fresh)
      (λ e. ap (row_of name_of name) (without-later name row rows e)
      ∙ row_of-later name row (without name_of name rows) e ∙ row_of-without_own name rows apart.1)

  -- what a change leaves of a row is found as before
  pub found-changed : {X : Type 0} (part : Row → X) (none : X) (change : Row → Row) (name : List ℕ) (rows : List Row)
      → ((row : Row) → name_of (change row) ≡ name_of row) → ((row : Row) → part (change row) ≡ part row)
      → (other : List ℕ) → option_map_or part (row_of name_of other (changed name_of change name rows)) none
      ≡ option_map_or part (row_of name_of other rows) none
  found-changed {X} part none change name rows named same other = by (row_of name_of name rows) refl
    where
      by : (found : Option Row) → row_of name_of name rows ≡ found
          → option_map_or part
          (row_of name_of other (option_map_or (λ row. with_row name_of (change row) rows) found rows)) none
          ≡ option_map_or part (row_of name_of other rows) none
      by None e = refl
      by (Some row) e =
          let own : name ≡ name_of (change row) = same_name-is name (name_of row) (name_of-row_of name rows row e)
          ∙ sym (named row) in
          same_or_other other (name_of (change row))
          (λ s. let one : other ≡ name_of (change row) = same_name-is other (name_of (change row)) s in
          ap (λ o. option_map_or part o none) (ap (λ n. row_of name_of n (with_row name_of (change row) rows)) one
          ∙ row_of-with_row_own (change row) rows)
          ∙ same row ∙ sym (ap (λ o. option_map_or part o none) (ap (λ n. row_of name_of n rows) (one ∙ sym own) ∙ e)))
          (λ s. ap (λ o. option_map_or part o none) (row_of-with_row_other other (change row) rows s))
