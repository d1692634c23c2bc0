-- The root of market risk.
use Rattle.std.proofs.Common.{◌≡◌, ℕ, zero, suc, ◌<◌, ◌≤◌, Bool, true, false, cond, List, length, sum_by, refl, arith}
use Rattle.std.proofs.Common.{lit<}
use Rattle.std.specs.Prelude.{IsBitSet, ◌==◌}
use Rattle.scr_num.specs.Figure.{Figure, Figures}
use Rattle.std.proofs.lemmas.List.{length-map}
use Rattle.scr_num.specs.declared.span.Span.{Span}
use Rattle.scr_num.specs.Rounding.{Ends, ends, hull_ends, quad_ends}
use Rattle.scr_agg.specs.Correlated.{all_ends}
use Rattle.scr_num.specs.Amounts.{IsAmount, AreAmounts}
use Rattle.scr_num.specs.Enclosure.{Encloses, EncloseAll}
use Rattle.std.proofs.lemmas.Int.{ints, clamps}
use Rattle.scr_num.proofs.Enclosing.{Encloses-wider, Encloses-span}
use Rattle.scr_num.proofs.Quadratic.{Encloses-quad}
use Rattle.scr_num.proofs.AmountBounds.{amount-hull}
use Rattle.scr_agg.proofs.Roots.{table_of-square}
use Rattle.scr_agg.proofs.RootSizes.{root-within}
use Rattle.scr_profile.specs.Matrix.{IsCorrelation}
use Rattle.scr_profile.specs.declared.correlations.TheConstants.{MARKET_0, MARKET_HALF}
use Rattle.scr_profile.proofs.CorrelationRules.{is_correlation-holds}
use Rattle.scr_market.specs.Market.{market_correlations, market_figure}
use Rattle.scr_market.specs.MarketEnds.{market_ends}

pub zero_is : IsCorrelation MARKET_0
zero_is = is_correlation-holds MARKET_0 refl

pub half_is : IsCorrelation MARKET_HALF
half_is = is_correlation-holds MARKET_HALF refl

hull-left : (unit : ℕ) (a b : Ends) (f : Figure) → Encloses unit a.low a.high f → let e = hull_ends a b in
    Encloses unit e.low e.high f
hull-left unit a b f h =
    let e = hull_ends a b in Encloses-wider unit a.low e.low a.high e.high f (omega (arith, ints, clamps))
    (omega (arith, ints, clamps)) h

hull-right : (unit : ℕ) (a b : Ends) (f : Figure) → Encloses unit b.low b.high f → let e = hull_ends a b in
    Encloses unit e.low e.high f
hull-right unit a b f h =
    let e = hull_ends a b in Encloses-wider unit b.low e.low b.high e.high f (omega (arith, ints, clamps))
    (omega (arith, ints, clamps)) h

module _ (parts : List Ends) (figures : Figures) (six : length parts ≡ 6) (h : EncloseAll 1000 parts figures) where
  zero-encloses : let e = quad_ends parts (market_correlations 0) in
      Encloses 1000 e.low e.high (market_figure 0 figures)
  zero-encloses = Encloses-quad 1000 (lit< tt) parts figures (market_correlations 0) (lit< tt)
      (rw six (table_of-square MARKET_0)) h

  half-encloses : let e = quad_ends parts (market_correlations 1) in
      Encloses 1000 e.low e.high (market_figure 1 figures)
  half-encloses = Encloses-quad 1000 (lit< tt) parts figures (market_correlations 1) (lit< tt)
      (rw six (table_of-square MARKET_HALF)) h

  pub market-encloses : (mask decisive : ℕ) → 1 ≤ mask → mask ≤ 3 → decisive < 2 → IsBitSet mask decisive
      → let e = market_ends parts mask in Encloses 1000 e.low e.high (market_figure decisive figures)
  market-encloses zero decisive least most place set = absurd (omega (arith, least))
  market-encloses (suc zero) zero least most place set = zero-encloses
  market-encloses (suc zero) (suc zero) least most place set = absurd (set refl)
  market-encloses (suc (suc zero)) zero least most place set = absurd (set refl)
  market-encloses (suc (suc zero)) (suc zero) least most place set = half-encloses
  market-encloses (suc (suc (suc zero))) zero least most place set =
      hull-left 1000 (quad_ends parts (market_correlations 0)) (quad_ends parts (market_correlations 1))
      (market_figure 0 figures) zero-encloses
  market-encloses (suc (suc (suc zero))) (suc zero) least most place set =
      hull-right 1000 (quad_ends parts (market_correlations 0)) (quad_ends parts (market_correlations 1))
      (market_figure 1 figures) half-encloses
  market-encloses (suc (suc (suc (suc n)))) decisive least most place set = absurd (omega (arith, most))
  market-encloses mask (suc (suc n)) least most place set = absurd (omega (arith, place))

-- ---- as the code goes
pub market_ends-one : (parts : List Ends) (mask : ℕ) → mask ≡ 1
    → quad_ends parts (market_correlations 0) ≡ market_ends parts mask
market_ends-one parts mask e = rw e refl

pub market_ends-two : (parts : List Ends) (mask : ℕ) → mask ≡ 2
    → quad_ends parts (market_correlations 1) ≡ market_ends parts mask
market_ends-two parts mask e = rw e refl

pub market_ends-both : (parts : List Ends) (mask : ℕ) → mask ≡ 3
    → hull_ends (quad_ends parts (market_correlations 0)) (quad_ends parts (market_correlations 1))
    ≡ market_ends parts mask
market_ends-both parts mask e = rw e refl

pub market-enclosed : (span : Span) (parts : List Span) (mask : ℕ) → ends span ≡ market_ends (all_ends parts) mask
    → length parts ≡ 6 → 1 ≤ mask → mask ≤ 3
    → (decisive : ℕ) → decisive < 2 → IsBitSet mask decisive → (figures : Figures)
    → EncloseAll 1000 (all_ends parts) figures
    → Encloses 1000 span.low span.high (market_figure decisive figures)
market-enclosed span parts mask same six least most decisive place set figures h =
    Encloses-span 1000 span (market_ends (all_ends parts) mask) (market_figure decisive figures) same
    (market-encloses (all_ends parts) figures (rw length-map six) h mask decisive least most place set)

-- ---- how large it is
either : (n : ℕ) (t : Bool) (a b : Ends) → IsAmount n a → IsAmount n b → IsAmount n (cond t a b)
either n true a b h k = h
either n false a b h k = k

pub market-size : (mosts : List ℕ) (parts : List Ends) (mask : ℕ) → length parts ≡ 6 → AreAmounts mosts parts
    → IsAmount (sum_by (λ most. most) mosts) (market_ends parts mask)
market-size mosts parts mask six h =
    let total = sum_by (λ (most : ℕ). most) mosts in
    let zero_root = root-within MARKET_0 mosts parts zero_is.denominator zero_is.within six h in
    let half_root = root-within MARKET_HALF mosts parts half_is.denominator half_is.within six h in
    let both = amount-hull total _ _ zero_root half_root in
    either total (mask == 1) _ _ zero_root (either total (mask == 2) _ _ half_root both)
