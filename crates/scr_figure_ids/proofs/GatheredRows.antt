-- Under which keys each row is entered.
use Rattle.std.proofs.Common.{◌≡◌, ℕ, zero, suc, ◌+◌, ◌<◌, ◌==◌, Bool, true, false, ◌||◌, List, [], ◌∷◌, length, map, take, get_or, replicate, slice_get, Option, Some, None, IfSome, is_some, option_map, refl, sym, ap, subst, ◌∙◌, arith}
use Rattle.std.specs.List.{AllByRecursion, IsDistinct, list_any}
use Rattle.std.proofs.lemmas.List.{length-map}
use Rattle.std.proofs.lemmas.Option.{slice_get-get_or, slice_get-map, slice_get_within}
use Rattle.scr_tables.specs.Names.{same_name}
use Rattle.scr_tables.specs.Tables.{has_row}
use Rattle.scr_tables.proofs.TableRows.{IsFresh, fresh_from_has_row, same_name-flip}
use Rattle.scr_profile.specs.DefaultClasses.{class_of_step, default_classes, first_step}
use Rattle.scr_profile.specs.declared.default_class.DefaultClass.{DefaultClass}
use Rattle.scr_profile.specs.declared.default_class.DefaultClass.TheVariants as default_kinds
use Rattle.scr_sheet.specs.declared.rows.Group.{Group}
use Rattle.scr_nodes.specs.Rows.{is_of_default_class}
use Rattle.scr_figure_ids.specs.Places.{AreSame, IsMore, IsMoreAt, IsOnly, entered_at, entered_where, places_by, places_where}
use Rattle.scr_figure_ids.proofs.Entering.{entered-more, entered-none, name-at, name-nowhere, row-entered}

-- ---- keys

-- which of so many keys the one at a place is
abbrev one_of : ℕ → ℕ → List Bool
one_of place zero = []
one_of zero (suc n) = true ∷ replicate n false
one_of (suc place) (suc n) = false ∷ one_of place n

module _ {Key : Type 0} where
  pub more-within : (before after : Key → Bool) (place : ℕ) (keys : List Key) → IsMoreAt before after place keys
      → place < length keys
  more-within before after place [] more = absurd more
  more-within before after zero (key ∷ keys) more = omega arith
  more-within before after (suc place) (key ∷ keys) more =
      let rest : place < length keys = more-within before after place keys more.1 in
      omega (arith, rest)

  pub only-within : (before after : Key → Bool) (place : Option ℕ) (keys : List Key) (lists : List (List ℕ))
      → length lists ≡ length keys → IsMore before after place keys → IfSome place (λ p. p < length lists)
  only-within before after None keys lists long more = tt
  only-within before after (Some place) keys lists long more =
      let within : place < length keys = more-within before after place keys more in
      omega (arith, long, within)

  none-tested : (test : Key → Bool) (keys : List Key) → map test keys ≡ replicate (length keys) false
      → AreSame (λ key. false) test keys
  none-tested test [] is = tt
  none-tested test (key ∷ keys) is =
      let here : test key ≡ false = cc in
      let rest : map test keys ≡ replicate (length keys) false = cc in
      (here, none-tested test keys rest)

  -- what is told by one look at all keys
  tested : (test : Key → Bool) (place : ℕ) (keys : List Key) → place < length keys → map test keys ≡ one_of place (length keys)
      → IsMoreAt (λ key. false) test place keys
  tested test place [] within is = let no : ⊥ = omega arith in absurd no
  tested test zero (key ∷ keys) within is =
      let here : test key ≡ true = cc in
      let rest : map test keys ≡ replicate (length keys) false = cc in
      (refl, here, none-tested test keys rest)
  tested test (suc place) (key ∷ keys) within is =
      let here : test key ≡ false = cc in
      let rest : map test keys ≡ one_of place (length keys) = cc in
      (here, tested test place keys (omega arith) rest)

-- ---- classes

default-at : (of : DefaultClass) → IsOnly (λ class. first_step of == first_step class) (Some (first_step of)) default_classes
default-at default_kinds.Step0 = tested (λ class. 0 == first_step class) 0 default_classes (omega arith) refl
default-at default_kinds.Step1 = tested (λ class. 1 == first_step class) 1 default_classes (omega arith) refl
default-at default_kinds.Step2 = tested (λ class. 2 == first_step class) 2 default_classes (omega arith) refl
default-at default_kinds.Step3 = tested (λ class. 3 == first_step class) 3 default_classes (omega arith) refl
default-at default_kinds.Step4 = tested (λ class. 4 == first_step class) 4 default_classes (omega arith) refl
default-at default_kinds.Steps5And6 = tested (λ class. 5 == first_step class) 5 default_classes (omega arith) refl

pub default-only : (group : Group)
    → IsOnly (λ class. is_of_default_class class group) (Some (first_step (class_of_step group.step))) default_classes
default-only group = default-at (class_of_step group.step)

-- ---- names

-- the row of a name is the only one that has it
pub row-more : {Row : Type 0} (name_of : Row → List ℕ) (name : List ℕ) (rows : List Row) (before after : List ℕ → Bool)
    → ((other : List ℕ) → after other ≡ (before other || same_name other name)) → (found : Option ℕ)
    → IsDistinct same_name (map name_of rows) → before name ≡ false → is_some found ≡ has_row name_of name rows
    → IfSome found (λ k. option_map name_of (slice_get rows k) ≡ Some name) → IsMore before after found (map name_of rows)
row-more name_of name rows before after more None apart not there at =
    name-nowhere name before after more (map name_of rows) (fresh_from_has_row name_of name rows (sym there))
row-more name_of name rows before after more (Some k) apart not there at =
    name-at name before after more (map name_of rows) k apart (slice_get-map name_of rows k ∙ at) not

-- the row stands in its table
pub row-within : {Row : Type 0} (name_of : Row → List ℕ) (name : List ℕ) (rows : List Row) (found : Option ℕ) (n : ℕ)
    → n ≡ length rows → IfSome found (λ k. option_map name_of (slice_get rows k) ≡ Some name) → IfSome found (λ k. k < n)
row-within name_of name rows None n all at = tt
row-within name_of name rows (Some k) n all at =
    let within : k < length (map name_of rows) =
    slice_get_within (map name_of rows) k name (slice_get-map name_of rows k ∙ at) in
    let same : length (map name_of rows) ≡ length rows = length-map rows name_of in
    omega (arith, all, within, same)

-- ---- a row more

module _ {Key Row : Type 0} (test : Key → Row → Bool) (keys : List Key) where
  pub long : (rows : List Row) (lists : List (List ℕ)) → lists ≡ places_by test keys rows → length lists ≡ length keys
  long rows lists is = ap length is ∙ length-map keys (λ key. places_where (test key) 0 rows)

  -- a push at the key of the row
  pub key-entered : (rows : List Row) (k : ℕ) (row : Row) (place : Option ℕ) (lists new : List (List ℕ))
      → slice_get rows k ≡ Some row → IsOnly (λ key. test key row) place keys → lists ≡ places_by test keys (take k rows)
      → new ≡ entered_at place k lists → new ≡ places_by test keys (take (k + 1) rows)
  key-entered rows k row place lists new at only are is =
      let before : List (List ℕ) = places_by test keys (take k rows) in
      is ∙ ap (entered_at place k) (are ∙ sym (entered-none keys k before))
      ∙ sym (entered-more (λ key. false) (λ key. test key row) k keys place before (long (take k rows) before refl) only)
      ∙ sym (row-entered test keys rows k row at)

  -- a row that was entered under each of its keys
  pub keys-entered : (rows : List Row) (k : ℕ) (row : Row) (lists new : List (List ℕ)) → slice_get rows k ≡ Some row
      → lists ≡ places_by test keys (take k rows) → new ≡ entered_where (λ key. test key row) keys k lists
      → new ≡ places_by test keys (take (k + 1) rows)
  keys-entered rows k row lists new at are is =
      is ∙ ap (entered_where (λ key. test key row) keys k) are ∙ sym (row-entered test keys rows k row at)

-- ---- holders

module _ {A : Type 0} (test : A → Bool) where
  any-more : (xs : List A) (i : ℕ) (x : A) → slice_get xs i ≡ Some x
      → list_any test (take (i + 1) xs) ≡ (list_any test (take i xs) || test x)
  any-more xs i x at =
      let next : i + 1 ≡ suc i = omega arith in
      ap (λ n. list_any test (take n xs)) next ∙ by xs i at
    where
      or-false : (t : Bool) → (t || false) ≡ t
      or-false true = refl
      or-false false = refl

      or-or : (a b c : Bool) → (a || (b || c)) ≡ ((a || b) || c)
      or-or true b c = refl
      or-or false b c = refl

      by : (xs : List A) (i : ℕ) → slice_get xs i ≡ Some x → list_any test (take (suc i) xs) ≡ (list_any test (take i xs) || test x)
      by [] i at = absurd (cc)
      by (y ∷ xs) zero at =
          let same : y ≡ x = cc in
          or-false (test y) ∙ ap test same
      by (y ∷ xs) (suc i) at = ap (λ t. test y || t) (by xs i at) ∙ or-or (test y) (list_any test (take i xs)) (test x)

-- a component of a name, where no two have one name, is none of those before it
module _ {A : Type 0} (name_of : A → List ℕ) where
  pub none-before : (items : List A) (i : ℕ) (item : A) → slice_get items i ≡ Some item → IsDistinct same_name (map name_of items)
      → list_any (λ other. same_name (name_of item) (name_of other)) (take i items) ≡ false
  unfolding IsDistinct
  none-before [] i item at once = absurd (cc)
  none-before (first ∷ items) zero item at once = refl
  none-before (first ∷ items) (suc i) item at once =
      ap (λ t. t || list_any (λ other. same_name (name_of item) (name_of other)) (take i items)) (apart items i at once.0)
      ∙ none-before items i item at once.1
    where
      apart : (items : List A) (i : ℕ) → slice_get items i ≡ Some item → IsFresh (name_of first) (map name_of items)
          → same_name (name_of item) (name_of first) ≡ false
      apart [] i at fresh = absurd (cc)
      apart (next ∷ items) zero at fresh =
          let same : next ≡ item = cc in
          same_name-flip (name_of item) (name_of first) ∙ ap (λ n. same_name (name_of first) (name_of n)) (sym same) ∙ fresh.0
      apart (next ∷ items) (suc i) at fresh = apart items i at fresh.1

  -- the item at place i of a fund is entered under the row that it names
  pub holder-entered : {Row : Type 0} (row_name : Row → List ℕ) (rows : List Row) (items : List A) (i : ℕ) (item : A)
      (found : Option ℕ) (k : ℕ) (lists now new : List (List ℕ)) → slice_get items i ≡ Some item
      → IsDistinct same_name (map name_of items) → IsDistinct same_name (map row_name rows)
      → is_some found ≡ has_row row_name (name_of item) rows
      → IfSome found (λ r. option_map row_name (slice_get rows r) ≡ Some (name_of item)) → length lists ≡ length rows
      → now ≡ entered_where (λ name. list_any (λ other. same_name name (name_of other)) (take i items)) (map row_name rows) k lists
      → new ≡ entered_at found k now
      → new ≡ entered_where (λ name. list_any (λ other. same_name name (name_of other)) (take (i + 1) items)) (map row_name rows) k
      lists
  holder-entered row_name rows items i item found k lists now new at once apart there place all are is =
      let before : List ℕ → Bool = λ name. list_any (λ other. same_name name (name_of other)) (take i items) in
      let after : List ℕ → Bool = λ name. list_any (λ other. same_name name (name_of other)) (take (i + 1) items) in
      let same : length lists ≡ length (map row_name rows) = all ∙ sym (length-map rows row_name) in
      is ∙ ap (entered_at found k) are
      ∙ sym (entered-more before after k (map row_name rows) found lists same
      (row-more row_name (name_of item) rows before after
      (λ name. any-more (λ other. same_name name (name_of other)) items i item at) found apart
      (none-before items i item at once) there place))

-- what holds of each row, of the one at a place
pub at-place : {Row : Type 0} (P : Row → Type 0) (rows : List Row) (k : ℕ) (row : Row) → AllByRecursion P rows
    → slice_get rows k ≡ Some row → P row
at-place P [] k row all at = absurd (cc)
at-place P (first ∷ rows) zero row all at = let same : first ≡ row = cc in subst P same all.0
at-place P (first ∷ rows) (suc k) row all at = at-place P rows k row all.1 at

-- the element at a place
pub element-at : {A : Type 0} (xs : List A) (i : ℕ) (x : A) → i < length xs → x ≡ get_or xs i x → slice_get xs i ≡ Some x
element-at xs i x within is = slice_get-get_or xs i x within ∙ ap Some (sym is)
