-- The names of the rows of a made table: one letter, and the numbers from 0 on.
use Rattle.std.proofs.Common.{◌≡◌, ℕ, zero, suc, ◌+◌, ◌<◌, ◌≤◌, ◌^◌, ◌==◌, ◌&&◌, ◌||◌, ◌++◌, Bool, true, false, List, [], ◌∷◌, map, length, Some, is_some, cond, inl, inr, refl, sym, ap, ◌∙◌, arith}
use Rattle.std.specs.Prelude.{decimal}
use Rattle.std.specs.List.{AllByRecursion, IsDistinct, list_any}
use Rattle.std.proofs.lemmas.Bool.{cases_lt}
use Rattle.std.proofs.lemmas.Fmt.{decimal_injective}
use Rattle.std.proofs.lemmas.List.{length-append}
use Rattle.std.proofs.lemmas.List.Folds.{list_any-append}
use Rattle.scr_tables.specs.Names.{same_name}
use Rattle.scr_tables.specs.Tables.{row_of, has_row, with_row}
use Rattle.scr_tables.proofs.TableRows.{same_name-is, same_name-itself, same_or_other}
use Rattle.scr_made.specs.Names.{numbered}

-- ---- names

-- the letters of groups, securities, funds, liabilities and banks: G, S, U, L and B
abbrev pub group_letter : ℕ
group_letter = 71

abbrev pub security_letter : ℕ
security_letter = 83

abbrev pub fund_letter : ℕ
fund_letter = 85

abbrev pub liability_letter : ℕ
liability_letter = 76

abbrev pub bank_letter : ℕ
bank_letter = 66

-- a letter and a number
abbrev pub row_name : ℕ → ℕ → List ℕ
row_name letter k = numbered (letter ∷ []) k

-- the first n names of a letter
unfoldable pub names_to : ℕ → ℕ → List (List ℕ)
names_to letter zero = []
names_to letter (suc n) = names_to letter n ++ (row_name letter n ∷ [])

-- the name is one of these
abbrev pub stands : List ℕ → List (List ℕ) → Bool
stands own names = list_any (same_name own) names

pub number_of : (letter j k : ℕ) → j < 2 ^ 32 → k < 2 ^ 32 → row_name letter j ≡ row_name letter k → j ≡ k
unfolding numbered
number_of letter j k small also h =
    let digits : decimal j ≡ decimal k = cc in
    decimal_injective j k (omega (arith, small)) (omega (arith, also)) digits

pub other_number : (letter j k : ℕ) → j < 2 ^ 32 → k < 2 ^ 32 → (j ≡ k → ⊥)
    → same_name (row_name letter j) (row_name letter k) ≡ false
other_number letter j k small also apart =
    same_or_other (row_name letter j) (row_name letter k)
    (λ e. absurd (apart (number_of letter j k small also (same_name-is (row_name letter j) (row_name letter k) e))))
    (λ e. e)

pub other_letter : (a b j k : ℕ) → (a == b) ≡ false → same_name (row_name a j) (row_name b k) ≡ false
unfolding numbered
other_letter a b j k apart = ap (λ t. t && same_name (decimal j) (decimal k)) apart

-- ---- which names stand among the first ones

pub or_true : (t : Bool) → (t || true) ≡ true
or_true true = refl
or_true false = refl

stands-new : (own new : List ℕ) (names : List (List ℕ)) → stands own names ≡ false → same_name own new ≡ false
    → stands own (names ++ (new ∷ [])) ≡ false
stands-new own new names h k = rw (list_any-append (same_name own) names (new ∷ []), h, k) refl

stands-old : (own new : List ℕ) (names : List (List ℕ)) → stands own names ≡ true
    → stands own (names ++ (new ∷ [])) ≡ true
stands-old own new names h = rw (list_any-append (same_name own) names (new ∷ []), h) refl

stands-last : (own : List ℕ) (names : List (List ℕ)) → stands own (names ++ (own ∷ [])) ≡ true
stands-last own names =
    rw (list_any-append (same_name own) names (own ∷ []), same_name-itself own) (or_true (stands own names))

-- a name of another letter never does
pub foreign : (own letter k n : ℕ) → (own == letter) ≡ false → stands (row_name own k) (names_to letter n) ≡ false
unfolding names_to
foreign own letter k zero apart = refl
foreign own letter k (suc n) apart =
    stands-new (row_name own k) (row_name letter n) (names_to letter n) (foreign own letter k n apart)
    (other_letter own letter k n apart)

-- nor does one of a greater number
pub fresh : (letter n k : ℕ) → n ≤ k → k < 2 ^ 32 → stands (row_name letter k) (names_to letter n) ≡ false
unfolding names_to
fresh letter zero k h small = refl
fresh letter (suc n) k h small =
    stands-new (row_name letter k) (row_name letter n) (names_to letter n) (fresh letter n k (omega arith) small)
    (other_number letter k n small (omega arith) (λ e. absurd (omega arith)))

pub there : (letter k n : ℕ) → k < n → stands (row_name letter k) (names_to letter n) ≡ true
unfolding names_to
there letter k zero h = absurd (omega arith)
there letter k (suc n) h =
    elim (cases_lt k n) [
      | inl lt ↦ stands-old (row_name letter k) (row_name letter n) (names_to letter n) (there letter k n lt)
      | inr ge ↦
          let same : n ≡ k = omega arith in
          rw same (stands-last (row_name letter k) (names_to letter k))
    ]

pub length-names_to : (letter n : ℕ) → length (names_to letter n) ≡ n
unfolding names_to
length-names_to letter zero = refl
length-names_to letter (suc n) =
    let rest = length-names_to letter n in
    omega (arith, rest, length-append (names_to letter n) (row_name letter n ∷ []))

-- a name that is none of others may stand behind them
pub distinct-push : (names : List (List ℕ)) (new : List ℕ) → IsDistinct same_name names
    → AllByRecursion (λ name. same_name name new ≡ false) names → IsDistinct same_name (names ++ (new ∷ []))
unfolding IsDistinct
distinct-push [] new apart other = (tt, tt)
distinct-push (name ∷ names) new apart other =
    (more names apart.0, distinct-push names new apart.1 other.1)
  where
    more : (names : List (List ℕ)) → AllByRecursion (λ later. same_name name later ≡ false) names
        → AllByRecursion (λ later. same_name name later ≡ false) (names ++ (new ∷ []))
    more [] all = (other.0, tt)
    more (x ∷ xs) all = (all.0, more xs all.1)

-- ---- a table whose rows have these names

module _ {Row : Type 0} (name_of : Row → List ℕ) where
  pub has_names : (own : List ℕ) (rows : List Row) → has_row name_of own rows ≡ stands own (map name_of rows)
  has_names own [] = refl
  has_names own (row ∷ rows) = by (same_name own (name_of row)) (has_names own rows)
    where
      by : (t : Bool) → has_row name_of own rows ≡ stands own (map name_of rows)
          → is_some (cond t (Some row) (row_of name_of own rows)) ≡ (t || stands own (map name_of rows))
      by true rest = refl
      by false rest = rest

  names-added : (new : Row) (rows : List Row) → has_row name_of (name_of new) rows ≡ false
      → map name_of (with_row name_of new rows) ≡ map name_of rows ++ (name_of new ∷ [])
  names-added new [] has = refl
  names-added new (row ∷ rows) has = let rest = names-added new rows in grind (arith, has, rest)

  pub has-foreign : (own letter k n : ℕ) (rows : List Row) → (own == letter) ≡ false
      → map name_of rows ≡ names_to letter n → has_row name_of (row_name own k) rows ≡ false
  has-foreign own letter k n rows apart is =
      has_names (row_name own k) rows ∙ ap (stands (row_name own k)) is ∙ foreign own letter k n apart

  pub has-fresh : (letter n : ℕ) (rows : List Row) → n < 2 ^ 32 → map name_of rows ≡ names_to letter n
      → has_row name_of (row_name letter n) rows ≡ false
  has-fresh letter n rows small is =
      has_names (row_name letter n) rows ∙ ap (stands (row_name letter n)) is ∙ fresh letter n n (omega arith) small

  pub has-there : (letter k n : ℕ) (rows : List Row) → k < n → map name_of rows ≡ names_to letter n
      → has_row name_of (row_name letter k) rows ≡ true
  has-there letter k n rows h is =
      has_names (row_name letter k) rows ∙ ap (stands (row_name letter k)) is ∙ there letter k n h

  -- a row more
  pub grown : (letter n : ℕ) (new : Row) (rows : List Row) → n < 2 ^ 32 → name_of new ≡ row_name letter n
      → map name_of rows ≡ names_to letter n → map name_of (with_row name_of new rows) ≡ names_to letter (suc n)
  unfolding names_to
  grown letter n new rows small own is =
      names-added new rows (ap (λ m. has_row name_of m rows) own ∙ has-fresh letter n rows small is)
      ∙ ap (λ names. names ++ (name_of new ∷ [])) is ∙ ap (λ m. names_to letter n ++ (m ∷ [])) own
