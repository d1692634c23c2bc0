-- The totals by number are those by name: those of the funds in front, and those of the securities after them, which with
-- the closed funds are all that is held.
use Rattle.std.proofs.Common.{◌≡◌, ℕ, ◌+◌, ◌-◌, ◌*◌, ◌^◌, ◌<◌, ◌≤◌, List, [], ◌++◌, map, length, get_or, take, drop, sum, nat_eq, sym, ap, ◌∙◌, arith}
use Rattle.std.specs.List.{range_with_len}
use Rattle.std.proofs.lemmas.List.{length-map, length-drop, get_or-map}
use Rattle.std.proofs.lemmas.List.FromFn.{fill_by_all}
use Rattle.std.proofs.lemmas.List.Sums.{sum-map}
use Rattle.std.proofs.Math.Seq.{drop-append_seam, take-append_seam, take-length}
use Rattle.scr_funds.specs.ByNumber.{held_at, numbered}
use Rattle.scr_funds.specs.LookThrough.{total}
use Rattle.scr_funds.proofs.NamedTotals.{total-named}
use Rattle.scr_tables.specs.Names.{same_name}
use Rattle.scr_tables.proofs.TableRows.{same_name-is, same_name-itself}
use Rattle.scr_sheet.specs.Totals.{total_of, closed_total, securities_total}
use Rattle.scr_sheet.specs.BalanceSheet.{stake_name, held_of, held_total}
use Rattle.scr_sheet.specs.declared.sheet.BalanceSheet.{BalanceSheet}
use Rattle.scr_sheet.specs.Validity.{Valid}
use Rattle.scr_profile.specs.declared.limits.TheConstants.{MAX_HELD}
use Rattle.scr_sheet.proofs.HeldNames.{held-sum}
use Rattle.scr_sheet.proofs.SeenThrough.{all-seen as sheet-seen}
use Rattle.scr_look_through.specs.Amounts.{amount_of, amounts_of}
use Rattle.scr_look_through.specs.ByNumber.{names_by_number, rows_by_number}
use Rattle.scr_look_through.proofs.FundRows.{apart-numbers, funds-named, funds-below, components-below}
use Rattle.scr_look_through.proofs.HolderNames.{name_at, map-names}

module _ (sheet : BalanceSheet) (valid : Valid sheet) where
  sum-held : (held : List ℕ) → held ≡ map (held_of sheet) (names_by_number sheet) → sum held ≡ held_total sheet
  sum-held held is = ap sum is ∙ sum-map (held_of sheet) (names_by_number sheet) ∙ held-sum sheet valid

  pub held-small : (held : List ℕ) → held ≡ map (held_of sheet) (names_by_number sheet) → sum held ≤ 5 * 10 ^ 13
  held-small held is = let all : held_total sheet ≤ MAX_HELD = valid.within.held in omega (arith, all, sum-held held is)

  -- the total of a number is that of its name
  total-at : (held : List ℕ) → held ≡ map (held_of sheet) (names_by_number sheet) → (k : ℕ) → k < length (names_by_number sheet)
      → total_of sheet (name_at sheet k) ≡ total nat_eq (held_at held) (numbered (rows_by_number sheet)) k
  total-at held is k l =
      ap (λ funds. total same_name (held_of sheet) funds (name_at sheet k)) (sym (funds-named sheet valid))
      ∙ total-named same_name same_name-is same_name-itself (length (names_by_number sheet)) (name_at sheet) (apart-numbers sheet valid)
      (held_at held) (held_of sheet) as_held (numbered (rows_by_number sheet)) (funds-below sheet valid) (components-below sheet valid) k l
    where
      as_held : (j : ℕ) → j < length (names_by_number sheet) → held_of sheet (name_at sheet j) ≡ held_at held j
      as_held j m = sym (ap (λ xs. get_or xs j 0) is ∙ get_or-map (held_of sheet) (names_by_number sheet) j [] 0 m)

  -- so the totals by number are those of the names
  pub totals-named : (held : List ℕ) → held ≡ map (held_of sheet) (names_by_number sheet)
      → map (total nat_eq (held_at held) (numbered (rows_by_number sheet))) (range_with_len 0 (length held)) ≡ map (total_of sheet) (names_by_number sheet)
  totals-named held is =
      ap (λ n. map (total nat_eq (held_at held) (numbered (rows_by_number sheet))) (range_with_len 0 n)) (ap length is ∙ length-map (names_by_number sheet) (held_of sheet))
      ∙ sym (fill_by_all (total nat_eq (held_at held) (numbered (rows_by_number sheet))) (map (total_of sheet) (names_by_number sheet)) (length (names_by_number sheet)) 0
      (length-map (names_by_number sheet) (total_of sheet))
      (λ k l. get_or-map (total_of sheet) (names_by_number sheet) k [] 0 l ∙ total-at held is k l))

  -- ---- no cent is lost

  amounts-sum : sum (amounts_of sheet) ≡ securities_total sheet
  amounts-sum = sum-map (amount_of sheet) sheet.securities

  -- what is held of the securities and the closed funds is all that is held
  pub all-seen : sum (amounts_of sheet) + closed_total sheet ≡ held_total sheet
  all-seen = ap (λ n. n + closed_total sheet) amounts-sum ∙ sheet-seen sheet valid

  pub seen-small : sum (amounts_of sheet) + closed_total sheet ≤ MAX_HELD
  seen-small = let all : held_total sheet ≤ MAX_HELD = valid.within.held in omega (arith, all, all-seen)

-- ---- the totals of the funds stand in front, and those of the securities after them

module _ (sheet : BalanceSheet) (found : List ℕ) (funds : ℕ) (found_is : found ≡ map (total_of sheet) (names_by_number sheet)) (funds_is : funds ≡ length sheet.funds) where
  both : found ≡ map (λ s. total_of sheet (stake_name s)) sheet.funds ++ amounts_of sheet
  both = found_is ∙ map-names sheet (total_of sheet)

  count : funds ≡ length (map (λ s. total_of sheet (stake_name s)) sheet.funds)
  count = funds_is ∙ sym (length-map sheet.funds (λ s. total_of sheet (stake_name s)))

  pub front-totals : take funds found ≡ map (λ s. total_of sheet (stake_name s)) sheet.funds
  front-totals = ap (take funds) both ∙ ap (λ n. take n (map (λ s. total_of sheet (stake_name s)) sheet.funds ++ amounts_of sheet)) count
      ∙ take-append_seam (map (λ s. total_of sheet (stake_name s)) sheet.funds) (amounts_of sheet)

  pub rest-totals : take (length found - funds) (drop funds found) ≡ amounts_of sheet
  rest-totals =
      ap (λ n. take n (drop funds found)) (sym (length-drop funds found)) ∙ take-length (drop funds found)
      ∙ ap (drop funds) both ∙ ap (λ n. drop n (map (λ s. total_of sheet (stake_name s)) sheet.funds ++ amounts_of sheet)) count
      ∙ drop-append_seam (map (λ s. total_of sheet (stake_name s)) sheet.funds) (amounts_of sheet)
