-- The rows that were gathered are those that are read.
use Rattle.std.proofs.Common.{◌≡◌, ℕ, zero, suc, ◌+◌, ◌<◌, ◌≤◌, Bool, true, false, cond, List, [], ◌∷◌, ◌++◌, length, map, take, get_or, Option, Some, IfSome, option_map, slice_get, Result, OnOk, refl, sym, ap, subst, ◌∙◌, arith, append_assoc, append-nil}
use Rattle.std.specs.List.{AllByRecursion}
use Rattle.std.proofs.lemmas.List.{length-map, map-append, take_more}
use Rattle.std.proofs.lemmas.Option.{slice_get-map, slice_get_within}
use Rattle.scr_ids.specs.Ranges.{Numbered, count, stride}
use Rattle.scr_ids.specs.declared.table.Table.TheVariants as tables
use Rattle.scr_sheet.specs.declared.sheet.BalanceSheet.{BalanceSheet}
use Rattle.scr_sheet.specs.declared.keys.Projection.TheVariants as projection_kinds
use Rattle.scr_nodes.specs.Selections.{is_counted, is_counterparty, is_currency, is_holder, is_obligation}
use Rattle.scr_nodes.specs.Table.{first_of}
use Rattle.scr_nodes.specs.declared.{node.OfFund.OfFund, node.OfLiability.OfLiability, selections.Selection.Selection}
use Rattle.scr_nodes.specs.declared.node.Node.TheVariants as nodes
use Rattle.scr_nodes.specs.declared.node.OfFund.TheVariants as of_funds
use Rattle.scr_nodes.specs.declared.node.OfLiability.TheVariants as of_liabilities
use Rattle.scr_nodes.specs.declared.selections.Holders.TheVariants as holders
use Rattle.scr_nodes.specs.declared.selections.Selection.TheVariants as selections
use Rattle.scr_nodes.proofs.Numbers.{direction-place-most}
use Rattle.scr_figure_ids.specs.Families.{fund_family, liability_family}
use Rattle.scr_figure_ids.specs.Numbers.{IsNumbered}
use Rattle.scr_sheet.specs.BalanceSheet.{curve_name, group_name, liability_name, position_name, stake_name}
use Rattle.scr_figure_ids.specs.Places.{places_by, places_where}
use Rattle.scr_figure_ids.proofs.Entering.{places-more}
use Rattle.scr_figure_ids.specs.SourceNumbers.{selected_family, selected_rows, selected_table}
use Rattle.scr_figure_ids.proofs.Live.{currency-few, group-few, security-few}

-- ---- places of rows

module _ {Row : Type 0} (test : Row → Bool) where
  where-within : (s : ℕ) (rows : List Row) → AllByRecursion (λ k. k < s + length rows) (places_where test s rows)
  where-within s [] = tt
  where-within s (row ∷ rows) =
      let here : s < s + suc (length rows) = omega arith in
      let one : suc s + length rows ≡ s + suc (length rows) = omega arith in
      let rest : AllByRecursion (λ k. k < s + suc (length rows)) (places_where test (suc s) rows) =
      subst (λ n. AllByRecursion (λ k. k < n) (places_where test (suc s) rows)) one (where-within (suc s) rows) in
      by (test row) here rest
    where
      by : (t : Bool) → s < s + suc (length rows)
          → AllByRecursion (λ k. k < s + suc (length rows)) (places_where test (suc s) rows)
          → AllByRecursion (λ k. k < s + suc (length rows)) (cond t (s ∷ places_where test (suc s) rows) (places_where test (suc s) rows))
      by true here rest = (here, rest)
      by false here rest = rest

  -- each is that of a row
  pub rows-within : (n : ℕ) (rows : List Row) → n ≡ length rows → AllByRecursion (λ k. k < n) (places_where test 0 rows)
  rows-within n rows is =
      let all : 0 + length rows ≡ n = omega (arith, is) in
      subst (λ m. AllByRecursion (λ k. k < m) (places_where test 0 rows)) all (where-within 0 rows)

-- the list under a key
module _ {Key Row : Type 0} (test : Key → Row → Bool) (keys : List Key) (rows : List Row) (lists : List (List ℕ))
    (are : lists ≡ places_by test keys rows) (j : ℕ) (key : Key) (at : slice_get keys j ≡ Some key) where
  pub key-within : j < length lists
  key-within =
      let within : j < length keys = slice_get_within keys j key at in
      let same : length lists ≡ length keys = ap length are ∙ length-map keys (λ k. places_where (test k) 0 rows) in
      omega (arith, within, same)

  pub key-found : (found : List ℕ) → slice_get lists j ≡ Some found → found ≡ places_where (test key) 0 rows
  key-found found is =
      let same : Some found ≡ Some (places_where (test key) 0 rows) =
      sym is ∙ ap (λ (ls : List (List ℕ)). slice_get ls j) are ∙ slice_get-map (λ k. places_where (test k) 0 rows) keys j
      ∙ ap (option_map (λ k. places_where (test k) 0 rows)) at in
      cc

-- ---- families are within the strides

pub liability-few : (what : OfLiability) → liability_family what ≤ 12
liability-few (of_liabilities.Loss projection_kinds.Base) = omega arith
liability-few what = omega (arith, direction-place-most)

-- ---- what a figure of a fund reads

pub fund-family : (what : OfFund) → fund_family what ≡ 0
fund-family of_funds.Total = refl

pub fund-first : (name : List ℕ) (what : OfFund) → first_of (nodes.Fund name what) ≡ selections.Funds (holders.Of name) of_funds.Total
fund-first name of_funds.Total = refl

-- what is told of a value, where there is one
pub some-is : {A : Type 0} (found : Option A) (x : A) (P : A → Type 0) → found ≡ Some x → IfSome found P → P x
some-is found x P is fact = subst (λ o. IfSome o P) is fact

-- what follows where the lists are the same
pub read-alike : {A E : Type 0} (result : Result A E) (new old xs ys : List ℕ) → xs ≡ ys → OnOk result (new ≡ old ++ xs)
    → OnOk result (new ≡ old ++ ys)
read-alike result new old xs ys same on = subst (λ zs. OnOk result (new ≡ old ++ zs)) same on

-- each place of a list is within
pub within-at : (n : ℕ) (places : List ℕ) (i d : ℕ) → AllByRecursion (λ k. k < n) places → i < length places → get_or places i d < n
within-at n [] i d all within = let no : ⊥ = omega arith in absurd no
within-at n (k ∷ places) zero d all within = all.0
within-at n (k ∷ places) (suc i) d all within = within-at n places i d all.1 (omega arith)

-- one more of a list that is mapped
pub mapped-next : (number : ℕ → ℕ) (places items start after : List ℕ) (i d : ℕ) → i < length places
    → items ≡ start ++ map number (take i places) → after ≡ items ++ number (get_or places i d) ∷ []
    → after ≡ start ++ map number (take (i + 1) places)
mapped-next number places items start after i d within so_far more =
    more ∙ ap (λ xs. xs ++ number (get_or places i d) ∷ []) so_far
    ∙ append_assoc start (map number (take i places)) (number (get_or places i d) ∷ [])
    ∙ ap (λ xs. start ++ xs) (sym (map-append number (take i places) (get_or places i d ∷ []))
    ∙ ap (map number) (sym (take_more places i d within)))

-- ---- walks

module _ {Row : Type 0} (test : Row → Bool) (number : ℕ → ℕ) where
  -- the number of the row at place k is pushed where the row passes
  abbrev pub AreRead : List ℕ → List ℕ → List Row → ℕ → Type 0
  AreRead items start rows k = items ≡ start ++ map number (places_where test 0 (take k rows))

  next-place : (rows : List Row) (k : ℕ) (row : Row) → slice_get rows k ≡ Some row
      → places_where test 0 (take (k + 1) rows) ≡ places_where test 0 (take k rows) ++ cond (test row) (k ∷ []) []
  next-place rows k row is =
      let next : k + 1 ≡ suc k = omega arith in
      let here : 0 + k ≡ k = omega arith in
      ap (λ n. places_where test 0 (take n rows)) next ∙ places-more test rows 0 k row is
      ∙ ap (λ n. places_where test 0 (take k rows) ++ cond (test row) (n ∷ []) []) here

  pub place-read : (rows : List Row) (k : ℕ) (row : Row) (items start after : List ℕ) → slice_get rows k ≡ Some row
      → test row ≡ true → AreRead items start rows k → after ≡ items ++ number k ∷ [] → AreRead after start rows (k + 1)
  place-read rows k row items start after is pass so_far more =
      let front : List ℕ = places_where test 0 (take k rows) in
      more ∙ ap (λ xs. xs ++ number k ∷ []) so_far ∙ append_assoc start (map number front) (number k ∷ [])
      ∙ ap (λ xs. start ++ xs) (sym (map-append number front (k ∷ []))
      ∙ ap (map number) (ap (λ t. front ++ cond t (k ∷ []) []) (sym pass) ∙ sym (next-place rows k row is)))

  pub place-passed : (rows : List Row) (k : ℕ) (row : Row) (items start after : List ℕ) → slice_get rows k ≡ Some row
      → test row ≡ false → AreRead items start rows k → after ≡ items → AreRead after start rows (k + 1)
  place-passed rows k row items start after is fail so_far more =
      let front : List ℕ = places_where test 0 (take k rows) in
      more ∙ so_far
      ∙ ap (λ xs. start ++ map number xs)
      (sym (append-nil front) ∙ ap (λ t. front ++ cond t (k ∷ []) []) (sym fail) ∙ sym (next-place rows k row is))

-- ---- rows that are counted

module _ (sheet : BalanceSheet) (places : Numbered) (numbered : IsNumbered sheet places) where
  pub counted-funds : count places tables.Fund ≡ length sheet.funds
  counted-funds = numbered.rows tables.Fund refl ∙ length-map sheet.funds stake_name

  pub counted-securities : count places tables.Security ≡ length sheet.securities
  counted-securities = numbered.rows tables.Security refl ∙ length-map sheet.securities position_name

  pub counted-liabilities : count places tables.Liability ≡ length sheet.liabilities
  counted-liabilities = numbered.rows tables.Liability refl ∙ length-map sheet.liabilities liability_name

  pub counted-curves : count places tables.Currency ≡ length sheet.curves
  counted-curves = numbered.rows tables.Currency refl ∙ length-map sheet.curves curve_name

  pub counted-groups : count places tables.Group ≡ length sheet.groups
  counted-groups = numbered.rows tables.Group refl ∙ length-map sheet.groups group_name

-- those that are read
module _ (sheet : BalanceSheet) (places : Numbered) (numbered : IsNumbered sheet places) where
  pub selected-within : (selection : Selection)
      → AllByRecursion (λ k. k < count places (selected_table selection)) (selected_rows sheet selection)
  selected-within selections.None = tt
  selected-within (selections.Funds which what) =
      rows-within (is_holder which) (count places tables.Fund) sheet.funds (counted-funds sheet places numbered)
  selected-within (selections.Securities which what) =
      rows-within (is_counted which) (count places tables.Security) sheet.securities (counted-securities sheet places numbered)
  selected-within (selections.Liabilities which what) =
      rows-within (is_obligation which) (count places tables.Liability) sheet.liabilities (counted-liabilities sheet places numbered)
  selected-within (selections.Currencies which what) =
      rows-within (is_currency sheet which) (count places tables.Currency) sheet.curves (counted-curves sheet places numbered)
  selected-within (selections.Groups which what) =
      rows-within (is_counterparty which) (count places tables.Group) sheet.groups (counted-groups sheet places numbered)

pub selected-few : (selection : Selection) → selected_family selection ≤ stride (selected_table selection)
selected-few selections.None = omega arith
selected-few (selections.Funds which of_funds.Total) = omega arith
selected-few (selections.Securities which what) = omega (arith, security-few what)
selected-few (selections.Liabilities which what) = liability-few what
selected-few (selections.Currencies which what) = omega (arith, currency-few what)
selected-few (selections.Groups which what) = omega (arith, group-few what)
