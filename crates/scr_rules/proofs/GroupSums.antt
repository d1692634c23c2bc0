-- A sum for each group, where the loss by a row is added to that of its group.
use Rattle.std.proofs.Common.{◌≡◌, ℕ, zero, suc, ◌+◌, ◌<◌, ◌≤◌, Bool, true, false, List, [], ◌∷◌, ◌++◌, length, map, set, get_or, slice_get, take, if◌then◌else◌, Option, Some, None, replicate, refl, sym, subst, ap, ap₂, ◌∙◌, arith}
use Rattle.std.specs.List.{IsDistinct}
use Rattle.std.specs.Option.{option_map}
use Rattle.std.proofs.lemmas.List.{take_all, take_more, length-map}
use Rattle.std.proofs.lemmas.List.Sums.{sum_by-cons, sum_by-append}
use Rattle.std.proofs.lemmas.Option.{get_or_from_slice_get, slice_get-map, slice_get_within}
use Rattle.scr_default.specs.declared.TheConstants.{MAX_LOSS}
use Rattle.scr_tables.specs.Names.{same_name}
use Rattle.scr_tables.specs.Tables.{has_row}
use Rattle.scr_tables.proofs.TableRows.{IsFresh, fresh_from_has_row, same_name-flip, same_name-itself}
use Rattle.scr_sheet.specs.BalanceSheet.{group_name}
use Rattle.scr_sheet.specs.Validity.{Valid}
use Rattle.scr_sheet.specs.declared.{rows.Bank.Bank, rows.Group.Group, rows.Rein.Rein, sheet.BalanceSheet.BalanceSheet}
use Rattle.scr_nodes.specs.Rows.{is_bank_of, is_reinsurer_of}
use Rattle.scr_nodes.proofs.OwnRows.{distinct-groups}
use Rattle.scr_rules.specs.DefaultGrains.{total_where, bank_grains, reinsurer_grains, group_grains}
use Rattle.scr_rules.specs.GroupLosses.{AreLossesOf, first_loss, first_losses, loss_of, with_loss}
use Rattle.scr_rules.proofs.DefaultCode.{losses-split}
use Rattle.scr_rules.proofs.DefaultTotals.{group-small}

-- ---- sums by the names of rows

every : {Row B : Type 0} (before after : Row → B) → ((row : Row) → after row ≡ before row) → (rows : List Row)
    → map after rows ≡ map before rows
every before after same [] = refl
every before after same (row ∷ rows) = ap₂ (λ x xs. x ∷ xs) (same row) (every before after same rows)

if-passed : (b : Bool) (n : ℕ) → b ≡ true → (if b then n else 0) ≡ n
if-passed b n e = ap (λ t. if t then n else 0) e

if-failed : (b : Bool) (n : ℕ) → b ≡ false → (if b then n else 0) ≡ 0
if-failed b n e = ap (λ t. if t then n else 0) e

module _ {Row : Type 0} (name_of : Row → List ℕ) (name : List ℕ) (loss : ℕ) (before after : Row → ℕ)
    (steps : (row : Row) → after row ≡ before row + (if same_name (name_of row) name then loss else 0)) where
  other : (row : Row) → same_name (name_of row) name ≡ false → after row ≡ before row
  other row e = let none = if-failed (same_name (name_of row) name) loss e in let step = steps row in omega arith

  own : (row : Row) → name_of row ≡ name → after row ≡ before row + loss
  own row same =
      let some = if-passed (same_name (name_of row) name) loss
      (ap (λ n. same_name n name) same ∙ same_name-itself name) in
      let step = steps row in
      omega arith

  -- where no row has the name, all sums stay
  kept : (rows : List Row) → IsFresh name (map name_of rows) → map after rows ≡ map before rows
  kept [] fresh = refl
  kept (row ∷ rows) fresh =
      ap₂ (λ x xs. x ∷ xs) (other row (same_name-flip (name_of row) name ∙ fresh.0)) (kept rows fresh.1)

  -- a row that is none of the others has another name than the one at a place among them
  apart-from : (row : Row) (rows : List Row) (place : ℕ) → option_map name_of (slice_get rows place) ≡ Some name
      → IsFresh (name_of row) (map name_of rows) → same_name (name_of row) name ≡ false
  apart-from row [] zero is fresh = absurd (let clash : None ≡ Some name = is in cc)
  apart-from row [] (suc place) is fresh = absurd (let clash : None ≡ Some name = is in cc)
  apart-from row (next ∷ rows) zero is fresh =
      let same : name_of next ≡ name = cc in
      ap (same_name (name_of row)) (sym same) ∙ fresh.0
  apart-from row (next ∷ rows) (suc place) is fresh = apart-from row rows place is fresh.1

  -- where the row at the place has it, that row's sum alone grows
  grown : (rows : List Row) (place : ℕ) → IsDistinct same_name (map name_of rows)
      → option_map name_of (slice_get rows place) ≡ Some name
      → map after rows ≡ set (map before rows) place (get_or (map before rows) place 0 + loss)
  unfolding IsDistinct
  grown [] zero apart is = absurd (let clash : None ≡ Some name = is in cc)
  grown [] (suc place) apart is = absurd (let clash : None ≡ Some name = is in cc)
  grown (row ∷ rows) zero apart is =
      let same : name_of row ≡ name = cc in
      ap₂ (λ x xs. x ∷ xs) (own row same) (kept rows (subst (λ n. IsFresh n (map name_of rows)) same apart.0))
  grown (row ∷ rows) (suc place) apart is =
      ap₂ (λ x xs. x ∷ xs) (other row (apart-from row rows place is apart.0)) (grown rows place apart.1 is)

  -- and it comes to no more than the most of any
  grown-small : (most : ℕ) → ((row : Row) → after row ≤ most) → (rows : List Row) (place : ℕ)
      → option_map name_of (slice_get rows place) ≡ Some name → get_or (map before rows) place 0 + loss ≤ most
  grown-small most small [] zero is = absurd (let clash : None ≡ Some name = is in cc)
  grown-small most small [] (suc place) is = absurd (let clash : None ≡ Some name = is in cc)
  grown-small most small (row ∷ rows) zero is =
      let same : name_of row ≡ name = cc in
      let within = small row in
      let step = own row same in
      omega arith
  grown-small most small (row ∷ rows) (suc place) is = grown-small most small rows place is

-- ---- sums over the first rows that pass a test

module _ {Row : Type 0} (test : Row → Bool) (amount : Row → ℕ) where
  first-more : (rows : List Row) (k : ℕ) (row : Row) → slice_get rows k ≡ Some row
      → total_where test amount (take (k + 1) rows)
      ≡ total_where test amount (take k rows) + (if test row then amount row else 0)
  first-more rows k row is =
      let more : take (k + 1) rows ≡ take k rows ++ row ∷ [] = take_more rows k row (slice_get_within rows k row is)
      ∙ ap (λ (r : Row). take k rows ++ r ∷ []) (get_or_from_slice_get rows k row row is) in
      let whole = ap (total_where test amount) more in
      let split = sum_by-append (λ (r : Row). if test r then amount r else 0) (take k rows) (row ∷ []) in
      let last = sum_by-cons (λ (r : Row). if test r then amount r else 0) row [] in
      omega (arith, whole, split, last)

  first-small : (rows : List Row) (k : ℕ) → total_where test amount (take k rows) ≤ total_where test amount rows
  first-small rows zero = omega arith
  first-small [] (suc k) = omega arith
  first-small (row ∷ rows) (suc k) =
      let here = sum_by-cons (λ (r : Row). if test r then amount r else 0) row (take k rows) in
      let whole = sum_by-cons (λ (r : Row). if test r then amount r else 0) row rows in
      omega (arith, first-small rows k, here, whole)

-- ---- the losses of the groups

-- before any row is entered
pub none-entered : (sheet : BalanceSheet) (sums : List ℕ) (n : ℕ) → n ≡ length sheet.groups → sums ≡ replicate n 0
    → sums ≡ first_losses sheet 0 0
none-entered sheet sums n all is = is ∙ ap (λ m. replicate m 0) all ∙ by sheet.groups
  where
    by : (groups : List Group) → replicate (length groups) 0 ≡ map (first_loss sheet 0 0) groups
    by [] = refl
    by (group ∷ groups) = ap (λ ls. 0 ∷ ls) (by groups)

-- a place where a group stands
place-there : (sheet : BalanceSheet) (f : Group → ℕ) (sums : List ℕ) (place : ℕ) (name : List ℕ)
    → sums ≡ map f sheet.groups → option_map group_name (slice_get sheet.groups place) ≡ Some name
    → place < length sums
place-there sheet f sums place name is there =
    let named : slice_get (map group_name sheet.groups) place ≡ Some name =
    slice_get-map group_name sheet.groups place ∙ there in
    let within : place < length (map group_name sheet.groups) =
    slice_get_within (map group_name sheet.groups) place name named in
    let names : length (map group_name sheet.groups) ≡ length sheet.groups = length-map sheet.groups group_name in
    let long : length sums ≡ length sheet.groups = ap length is ∙ length-map sheet.groups f in
    omega arith

module _ (sheet : BalanceSheet) (valid : Valid sheet) where
  first-loss-small : (j k : ℕ) (group : Group) → first_loss sheet j k group ≤ MAX_LOSS
  unfolding group_grains
  first-loss-small j k group =
      omega (arith, first-small (is_bank_of group.name) bank_grains sheet.banks j, first-small (is_reinsurer_of group.name) reinsurer_grains sheet.reinsurers k, group-small sheet valid group.name)

  module _ (k : ℕ) (bank : Bank) (is : slice_get sheet.banks k ≡ Some bank) where
    bank-steps : (group : Group) → first_loss sheet (k + 1) 0 group
        ≡ first_loss sheet k 0 group + (if same_name group.name bank.group then bank_grains bank else 0)
    bank-steps group =
        let more = first-more (is_bank_of group.name) bank_grains sheet.banks k bank is in
        omega (arith, more)

    pub bank-grows : (place : ℕ) → option_map group_name (slice_get sheet.groups place) ≡ Some bank.group
        → first_losses sheet (k + 1) 0 ≡ with_loss place (bank_grains bank) (first_losses sheet k 0)
    bank-grows place there =
        grown group_name bank.group (bank_grains bank) (first_loss sheet k 0) (first_loss sheet (k + 1) 0) bank-steps
        sheet.groups place (distinct-groups sheet valid) there

    pub bank-small : (place : ℕ) → option_map group_name (slice_get sheet.groups place) ≡ Some bank.group
        → get_or (first_losses sheet k 0) place 0 + bank_grains bank ≤ MAX_LOSS
    bank-small place there =
        grown-small group_name bank.group (bank_grains bank) (first_loss sheet k 0) (first_loss sheet (k + 1) 0)
        bank-steps MAX_LOSS (first-loss-small (k + 1) 0) sheet.groups place there

    pub bank-unknown : has_row group_name bank.group sheet.groups ≡ false
        → first_losses sheet (k + 1) 0 ≡ first_losses sheet k 0
    bank-unknown unknown =
        kept group_name bank.group (bank_grains bank) (first_loss sheet k 0) (first_loss sheet (k + 1) 0) bank-steps
        sheet.groups (fresh_from_has_row group_name bank.group sheet.groups unknown)

  module _ (j k : ℕ) (reinsurer : Rein) (is : slice_get sheet.reinsurers k ≡ Some reinsurer) where
    reinsurer-steps : (group : Group) → first_loss sheet j (k + 1) group
        ≡ first_loss sheet j k group
        + (if same_name group.name reinsurer.group then reinsurer_grains reinsurer else 0)
    reinsurer-steps group =
        let more = first-more (is_reinsurer_of group.name) reinsurer_grains sheet.reinsurers k reinsurer is in
        omega (arith, more)

    pub reinsurer-grows : (place : ℕ) → option_map group_name (slice_get sheet.groups place) ≡ Some reinsurer.group
        → first_losses sheet j (k + 1) ≡ with_loss place (reinsurer_grains reinsurer) (first_losses sheet j k)
    reinsurer-grows place there =
        grown group_name reinsurer.group (reinsurer_grains reinsurer) (first_loss sheet j k)
        (first_loss sheet j (k + 1)) reinsurer-steps sheet.groups place (distinct-groups sheet valid) there

    pub reinsurer-small : (place : ℕ) → option_map group_name (slice_get sheet.groups place) ≡ Some reinsurer.group
        → get_or (first_losses sheet j k) place 0 + reinsurer_grains reinsurer ≤ MAX_LOSS
    reinsurer-small place there =
        grown-small group_name reinsurer.group (reinsurer_grains reinsurer) (first_loss sheet j k)
        (first_loss sheet j (k + 1)) reinsurer-steps MAX_LOSS (first-loss-small j (k + 1)) sheet.groups place there

    pub reinsurer-unknown : has_row group_name reinsurer.group sheet.groups ≡ false
        → first_losses sheet j (k + 1) ≡ first_losses sheet j k
    reinsurer-unknown unknown =
        kept group_name reinsurer.group (reinsurer_grains reinsurer) (first_loss sheet j k)
        (first_loss sheet j (k + 1)) reinsurer-steps sheet.groups
        (fresh_from_has_row group_name reinsurer.group sheet.groups unknown)

-- once all are entered
pub all-entered : (sheet : BalanceSheet) (j k : ℕ) (sums : List ℕ) → length sheet.banks ≤ j
    → length sheet.reinsurers ≤ k → sums ≡ first_losses sheet j k → AreLossesOf sheet sums
unfolding AreLossesOf
all-entered sheet j k sums banks reinsurers is =
    is ∙ every (λ (group : Group). loss_of sheet group.name) (first_loss sheet j k)
    (λ group. ap₂ (λ b r. total_where (is_bank_of group.name) bank_grains b
    + total_where (is_reinsurer_of group.name) reinsurer_grains r)
    (take_all j sheet.banks banks) (take_all k sheet.reinsurers reinsurers)
    ∙ sym (losses-split sheet group.name)) sheet.groups

-- there is a loss for each group
pub loss-there : (sheet : BalanceSheet) (losses : List ℕ) (place : ℕ) (name : List ℕ) → AreLossesOf sheet losses
    → option_map group_name (slice_get sheet.groups place) ≡ Some name → place < length losses
unfolding AreLossesOf
loss-there sheet losses place name are there =
    place-there sheet (λ (group : Group). loss_of sheet group.name) losses place name are there

-- and it is that of the group of the name
pub loss-is : (sheet : BalanceSheet) (losses : List ℕ) (place loss : ℕ) (name : List ℕ) → AreLossesOf sheet losses
    → option_map group_name (slice_get sheet.groups place) ≡ Some name → slice_get losses place ≡ Some loss
    → loss ≡ loss_of sheet name
unfolding AreLossesOf
loss-is sheet losses place loss name are there is =
    let own : Group → ℕ = λ (group : Group). loss_of sheet group.name in
    by (slice_get sheet.groups place) there
    (sym is ∙ ap (λ (ls : List ℕ). slice_get ls place) are ∙ slice_get-map own sheet.groups place)
  where
    by : (found : Option Group) → option_map group_name found ≡ Some name
        → Some loss ≡ option_map (λ (group : Group). loss_of sheet group.name) found → loss ≡ loss_of sheet name
    by None e same = absurd (let clash : None ≡ Some name = e in cc)
    by (Some group) e same =
        let named : group.name ≡ name = cc in
        let here : loss ≡ loss_of sheet group.name = cc in
        here ∙ ap (loss_of sheet) named

-- one for each group
pub losses-count : (sheet : BalanceSheet) (losses : List ℕ) (place : ℕ) → AreLossesOf sheet losses → place < length sheet.groups → place < length losses
unfolding AreLossesOf
losses-count sheet losses place are within = rw are (rw length-map within)
