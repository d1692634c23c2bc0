-- What the code of counterparty default risk keeps along its loops.
use Rattle.std.proofs.Common.{◌≡◌, ℕ, ◌+◌, ◌*◌, ◌^◌, ◌<◌, ◌≤◌, Bool, true, false, List, [], ◌∷◌, Some, length, map, get_or, slice_get, drop, sum_by, filter, unsigned_abs, ℤ, pos, negsuc, if◌then◌else◌, refl, ap, ap₂, sym, subst, ◌∙◌, arith}
use Rattle.std.specs.Prelude.{All}
use Rattle.std.proofs.lemmas.List.{drop_more, drop_all, get_or-map, length-map}
use Rattle.std.proofs.lemmas.List.Sums.{sum_by-cons}
use Rattle.std.proofs.lemmas.Nat.{mul-le}
use Rattle.std.proofs.lemmas.Option.{get_or_from_slice_get, slice_get_within}
use Rattle.scr_num.specs.Amounts.{IsAmount}
use Rattle.scr_num.specs.Rounding.{Ends, ends, or_zero}
use Rattle.scr_num.specs.declared.span.Span.{Span}
use Rattle.scr_default.specs.declared.TheConstants.{MAX_LOSS}
use Rattle.scr_sheet.specs.declared.{rows.Bank.Bank, sheet.BalanceSheet.BalanceSheet}
use Rattle.scr_nodes.specs.OwnOf.{reinsured}
use Rattle.scr_nodes.specs.Rows.{is_bank_of, is_reinsurer_of}
use Rattle.scr_default.specs.LossesEnds.{lgd_bank_grains}
use Rattle.scr_rules.specs.DefaultGrains.{total_where, bank_grains, reinsurer_grains}
use Rattle.scr_rules.specs.DefaultFits.{FitsSquares}
use Rattle.scr_rules.specs.DefaultRules.{reinsured_grains, losses_grains, squares_total}
use Rattle.scr_rules.specs.Figures.{amount_of}
use Rattle.scr_rules.proofs.DefaultTotals.{where-mapped}

-- ---- the sum over the rows before place k that pass a test, and over those from it on, make the whole
pub record IsTallied {Row : Type 0} (test : Row → Bool) (amount : Row → ℕ) (rows : List Row) (k sum : ℕ) : Type 0 where
  pub so_far : sum + total_where test amount (drop k rows) ≡ total_where test amount rows

module _ {Row : Type 0} (test : Row → Bool) (amount : Row → ℕ) (rows : List Row) where
  module _ (k sum : ℕ) (row : Row) (is : slice_get rows k ≡ Some row) (h : IsTallied test amount rows k sum) where
    split : total_where test amount (drop k rows) ≡ (if test row then amount row else 0) + total_where test amount (drop (k + 1) rows)
    split =
        ap (total_where test amount) (drop_more rows k row (slice_get_within rows k row is) ∙ ap (λ (r : Row). r ∷ drop (k + 1) rows) (get_or_from_slice_get rows k row row is))
        ∙ sum_by-cons (λ (r : Row). if test r then amount r else 0) row (drop (k + 1) rows)

    pub tallied-here : test row ≡ true → IsTallied test amount rows (k + 1) (sum + amount row)
    tallied-here passed = let value : (if test row then amount row else 0) ≡ amount row = rw passed refl in record { so_far = omega (arith, value, split, h.so_far) }

    pub tallied-past : test row ≡ false → IsTallied test amount rows (k + 1) sum
    tallied-past failed = let value : (if test row then amount row else 0) ≡ 0 = rw failed refl in record { so_far = omega (arith, value, split, h.so_far) }

-- ---- squares
-- the squares before place k, and those from it on, make the whole
pub record IsSquared (figures : List Ends) (k sum : ℕ) : Type 0 where
  pub so_far : sum + squares_total (drop k figures) ≡ squares_total figures

figure-at : (spans : List Span) (k : ℕ) (span : Span) → k < length spans → span ≡ get_or spans k span → get_or (map ends spans) k (ends span) ≡ ends span
figure-at spans k span within is = get_or-map ends spans k span (ends span) within ∙ ap ends (sym is)

module _ (spans : List Span) (k : ℕ) (span : Span) (within : k < length spans) (is : span ≡ get_or spans k span) where
  first : squares_total (drop k (map ends spans)) ≡ amount_of (ends span) * amount_of (ends span) + squares_total (drop (k + 1) (map ends spans))
  first =
      ap squares_total (drop_more (map ends spans) k (ends span) (omega (arith, within, length-map spans ends)) ∙ ap (λ (e : Ends). e ∷ drop (k + 1) (map ends spans)) (figure-at spans k span within is))
      ∙ sum_by-cons (λ (e : Ends). amount_of e * amount_of e) (ends span) (drop (k + 1) (map ends spans))

  pub squared-more : (sum amount : ℕ) → amount ≡ amount_of (ends span) → IsSquared (map ends spans) k sum → IsSquared (map ends spans) (k + 1) (sum + amount * amount)
  squared-more sum amount same h = record { so_far = rw same (omega (arith, first, h.so_far)) }

  pub squared-within : (sum amount : ℕ) → amount ≡ amount_of (ends span) → IsSquared (map ends spans) k sum → sum + amount * amount ≤ squares_total (map ends spans)
  squared-within sum amount same h = rw same (omega (arith, first, h.so_far))

  pub loss-within : All (IsAmount MAX_LOSS) (map ends spans) → IsAmount MAX_LOSS (ends span)
  loss-within all = subst (IsAmount MAX_LOSS) (figure-at spans k span within is) (all k (ends span) (omega (arith, within, length-map spans ends)))

pub squared-all : (figures : List Ends) (k sum : ℕ) → length figures ≤ k → IsSquared figures k sum → sum ≡ squares_total figures
squared-all figures k sum le h = let none : squares_total (drop k figures) ≡ 0 = ap squares_total (drop_all k figures le) in omega (arith, none, h.so_far)

-- a sum of squares is at most the square of the sum
squares-le : (figures : List Ends) → squares_total figures ≤ sum_by amount_of figures * sum_by amount_of figures
squares-le [] = omega arith
squares-le (e ∷ figures) =
    by (amount_of e) _ _ _ _ (squares-le figures) (sum_by-cons (λ (f : Ends). amount_of f * amount_of f) e figures) (sum_by-cons amount_of e figures)
  where
    by : (n q s all whole : ℕ) → q ≤ s * s → all ≡ n * n + q → whole ≡ n + s → all ≤ whole * whole
    by n q s all whole h a b = rw (a, b) (omega (arith, h))

pub squares-small : (figures : List Ends) → FitsSquares figures → squares_total figures ≤ 10 ^ 32
squares-small figures fits =
    let most = mul-le (sum_by amount_of figures) (sum_by amount_of figures) MAX_LOSS MAX_LOSS fits.together fits.together in
    omega (arith, most, squares-le figures)

-- ---- the losses of a group, and squares of losses
pub losses-split : (sheet : BalanceSheet) (name : List ℕ) → losses_grains (map (λ (b : Bank). b.cents) (filter (is_bank_of name) sheet.banks)) (map reinsured (filter (is_reinsurer_of name) sheet.reinsurers))
    ≡ total_where (is_bank_of name) bank_grains sheet.banks + total_where (is_reinsurer_of name) reinsurer_grains sheet.reinsurers
losses-split sheet name =
    ap₂ ◌+◌ (where-mapped (is_bank_of name) (λ (b : Bank). b.cents) lgd_bank_grains sheet.banks) (where-mapped (is_reinsurer_of name) reinsured reinsured_grains sheet.reinsurers)

or-within : (z : ℤ) → or_zero z ≤ unsigned_abs z
or-within (pos n) = omega arith
or-within (negsuc n) = omega arith

pub square-within : (loss square : ℕ) (e f e' f' : Ends) → loss ≡ amount_of e → square ≡ amount_of f → e ≡ e' → f ≡ f' → IsAmount (amount_of e' * amount_of e') f' → square ≤ loss * loss
square-within loss square e f e' f' loss_is square_is e_is f_is h =
    let a : loss ≡ amount_of e' = loss_is ∙ ap amount_of e_is in
    let b : square ≡ amount_of f' = square_is ∙ ap amount_of f_is in
    rw (a, b) (omega (arith, or-within f'.low, h.low_size))
