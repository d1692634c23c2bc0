-- How large the requirements are, from the definitions alone.
use Rattle.std.proofs.Common.{◌≡◌, ℕ, zero, suc, ◌+◌, ◌*◌, ◌^◌, ◌<◌, ◌≤◌, List, [], ◌∷◌, length, sum_by, ℤ, pos, negsuc, ◌+ℤ◌, ◌-ℤ◌, ◌*ℤ◌, ◌≤ℤ◌, neg_ℤ, unsigned_abs, arith, lit<}
use Rattle.std.specs.Prelude.{All}
use Rattle.std.specs.Int.{int_max}
use Rattle.std.specs.List.{AllByRecursion}
use Rattle.std.proofs.lemmas.Int.{ints, clamps}
use Rattle.std.proofs.lemmas.List.Sums.{sum_by-cons}
use Rattle.scr_num.specs.declared.span.Span.{Span}
use Rattle.scr_num.specs.Rounding.{Ends, ends, floor_div, ceil_div}
use Rattle.scr_num.proofs.Quotients.{floor_div-times, floor_div-next, ceil_div-times, ceil_div-next}
use Rattle.scr_agg.specs.Absorbed.{net_ends}
use Rattle.scr_agg.specs.Correlated.{all_ends}
use Rattle.scr_agg.specs.Unbeaten.{Alternative, Covers, alternative_at, chosen_gross, chosen_net}
use Rattle.scr_agg.proofs.Hulls.{chosen_gross-within, chosen_net-within}
use Rattle.scr_num.specs.Sums.{sum_ends}
use Rattle.scr_rate.specs.InterestEnds.{gross_ends, scenario_ends, IsCost}
use Rattle.scr_num.specs.Sizes.{IsWithin, AreTogether}

-- ---- sums
sum-low-size : (list : List Ends) → unsigned_abs (sum_ends list).low ≤ sum_by (λ (e : Ends). unsigned_abs e.low) list
sum-low-size [] = omega arith
sum-low-size (e ∷ list) =
    plus e.low (sum_ends list).low _ _ (sum-low-size list) (sum_by-cons (λ (f : Ends). unsigned_abs f.low) e list)
  where
    plus : (x y : ℤ) (s t : ℕ) → unsigned_abs y ≤ s → t ≡ unsigned_abs x + s → unsigned_abs (x +ℤ y) ≤ t
    plus x y s t h is = omega (arith, ints, h, is)

sum-high-size : (list : List Ends) → unsigned_abs (sum_ends list).high ≤ sum_by (λ (e : Ends). unsigned_abs e.high) list
sum-high-size [] = omega arith
sum-high-size (e ∷ list) =
    plus e.high (sum_ends list).high _ _ (sum-high-size list) (sum_by-cons (λ (f : Ends). unsigned_abs f.high) e list)
  where
    plus : (x y : ℤ) (s t : ℕ) → unsigned_abs y ≤ s → t ≡ unsigned_abs x + s → unsigned_abs (x +ℤ y) ≤ t
    plus x y s t h is = omega (arith, ints, h, is)

pub sum-within : (most : ℕ) (list : List Ends) → AreTogether most list → IsWithin most (sum_ends list)
sum-within most list h = record { low = omega (arith, sum-low-size list, h.lows); high = omega (arith, sum-high-size list, h.highs) }

pub sum-low : (list : List Ends) → AllByRecursion (λ (e : Ends). pos 0 ≤ℤ e.low) list → pos 0 ≤ℤ (sum_ends list).low
sum-low [] all = omega (arith, ints)
sum-low (e ∷ list) all = plus e.low (sum_ends list).low all.0 (sum-low list all.1)
  where
    plus : (x y : ℤ) → pos 0 ≤ℤ x → pos 0 ≤ℤ y → pos 0 ≤ℤ (x +ℤ y)
    plus x y h k = omega (arith, ints, h, k)

-- ---- in grains
floor-grains : (z : ℤ) → unsigned_abs z ≤ 10 ^ 33 → unsigned_abs (floor_div (z *ℤ pos 1) 1_000_000_000_000_000) ≤ 10 ^ 18
floor-grains z h =
    let below = floor_div-times (z *ℤ pos 1) 1_000_000_000_000_000 (lit< tt) in
    let next = floor_div-next (z *ℤ pos 1) 1_000_000_000_000_000 (lit< tt) in
    omega (arith, ints, below, next, h)

ceil-grains : (z : ℤ) → unsigned_abs z ≤ 10 ^ 33 → unsigned_abs (ceil_div (z *ℤ pos 1) 1_000_000_000_000_000) ≤ 10 ^ 18
ceil-grains z h =
    let above = ceil_div-times (z *ℤ pos 1) 1_000_000_000_000_000 (lit< tt) in
    let next = ceil_div-next (z *ℤ pos 1) 1_000_000_000_000_000 (lit< tt) in
    omega (arith, ints, above, next, h)

pub gross-within : (losses : List Ends) → AreTogether (10 ^ 33) losses → IsWithin (10 ^ 18) (gross_ends losses)
gross-within losses h =
    let sum = sum-within (10 ^ 33) losses h in
    record { low = floor-grains (sum_ends losses).low sum.low; high = ceil-grains (sum_ends losses).high sum.high }

floor-low : (z : ℤ) → pos 0 ≤ℤ z → pos 0 ≤ℤ floor_div (z *ℤ pos 1) 1_000_000_000_000_000
floor-low (pos n) h = omega (arith, ints)
floor-low (negsuc n) h = absurd (omega (arith, ints, h))

pub gross-low : (losses : List Ends) → AllByRecursion (λ (e : Ends). pos 0 ≤ℤ e.low) losses → pos 0 ≤ℤ (gross_ends losses).low
gross-low losses all = floor-low (sum_ends losses).low (sum-low losses all)

-- ---- net of absorption
pub net-within : (most : ℕ) (gross : Ends) (absorb : ℕ) → IsWithin most gross → IsWithin most (net_ends gross absorb)
net-within most gross absorb h = record { low = less gross.low h.low; high = less gross.high h.high }
  where
    less : (z : ℤ) → unsigned_abs z ≤ most → unsigned_abs (int_max (pos 0) (z -ℤ pos (1000 * absorb))) ≤ most
    less z le = omega (arith, ints, clamps, le)

pub net-low : (gross : Ends) (absorb : ℕ) → pos 0 ≤ℤ (net_ends gross absorb).low
net-low gross absorb = greater (gross.low -ℤ pos (1000 * absorb))
  where
    greater : (z : ℤ) → pos 0 ≤ℤ int_max (pos 0) z
    greater z = omega (arith, ints, clamps)

pub scenario-cost : (losses : List Ends) (absorb : ℕ) → AreTogether (10 ^ 33) losses → IsCost (10 ^ 18) (scenario_ends losses absorb)
scenario-cost losses absorb h = record {
  gross = gross-within losses h;
  net = net-within (10 ^ 18) (gross_ends losses) absorb (gross-within losses h);
  net_low = net-low (gross_ends losses) absorb;
}

-- ---- the same of spans
pub lows-of : (spans : List Span) → All (λ (span : Span). pos 0 ≤ℤ span.low) spans → AllByRecursion (λ (e : Ends). pos 0 ≤ℤ e.low) (all_ends spans)
lows-of [] all = tt
lows-of (s ∷ spans) all = (all 0 s (omega arith), lows-of spans (λ k d within. all (suc k) d (omega (arith, within))))

-- ---- what is chosen between two
module _ (a b : Alternative) where
  abbrev list : List Alternative
  list = a ∷ b ∷ []

  at-gross : (wide : Ends) → Covers wide a.gross → Covers wide b.gross → (k : ℕ) → k < length list → Covers wide (alternative_at list k).gross
  at-gross wide h k zero within = h
  at-gross wide h k (suc zero) within = k
  at-gross wide h k (suc (suc n)) within = absurd (omega (arith, within))

  at-net : (wide : Ends) → Covers wide a.net → Covers wide b.net → (k : ℕ) → k < length list → Covers wide (alternative_at list k).net
  at-net wide h k zero within = h
  at-net wide h k (suc zero) within = k
  at-net wide h k (suc (suc n)) within = absurd (omega (arith, within))

  -- between -most and most, and where no requirement is negative from 0 on
  abbrev about : ℤ → ℕ → Ends
  about low most = record { low = low; high = pos most }

  pub gross-chosen : (low : ℤ) (most : ℕ) → low ≤ℤ pos 0 → Covers (about low most) a.gross → Covers (about low most) b.gross → Covers (about low most) (chosen_gross list)
  gross-chosen low most le h k = chosen_gross-within (about low most) list (record { low = le; high = omega (arith, ints) }) (at-gross (about low most) h k)

  pub net-chosen : (low : ℤ) (most : ℕ) → low ≤ℤ pos 0 → Covers (about low most) a.net → Covers (about low most) b.net → Covers (about low most) (chosen_net list)
  net-chosen low most le h k = chosen_net-within (about low most) list (record { low = le; high = omega (arith, ints) }) (at-net (about low most) h k)

held : (most : ℕ) (e : Ends) → IsWithin most e → Covers (record { low = neg_ℤ (pos most); high = pos most }) e
held most e h = record { low = omega (arith, ints, h.low); high = omega (arith, ints, h.high) }

held-up : (most : ℕ) (e : Ends) → pos 0 ≤ℤ e.low → IsWithin most e → Covers (record { low = pos 0; high = pos most }) e
held-up most e low h = record { low = low; high = omega (arith, ints, h.high) }

ordered-within : (most : ℕ) (e : Ends) → e.low ≤ℤ e.high → Covers (record { low = neg_ℤ (pos most); high = pos most }) e → IsWithin most e
ordered-within most e order h = record { low = omega (arith, ints, order, h.low, h.high); high = omega (arith, ints, order, h.low, h.high) }

-- spans that are chosen between two costs are a cost
pub picked-cost : (most : ℕ) (a b : Alternative) (gross net : Span) → ends gross ≡ chosen_gross (a ∷ b ∷ []) → ends net ≡ chosen_net (a ∷ b ∷ [])
    → IsCost most a → IsCost most b → IsCost most (record { gross = ends gross; net = ends net })
picked-cost most a b gross net gross_is net_is h k =
    let about_gross : Covers (record { low = neg_ℤ (pos most); high = pos most }) (ends gross) =
    rw gross_is (gross-chosen a b (neg_ℤ (pos most)) most (omega (arith, ints)) (held most a.gross h.gross) (held most b.gross k.gross)) in
    let about_net : Covers (record { low = pos 0; high = pos most }) (ends net) =
    rw net_is (net-chosen a b (pos 0) most (omega (arith, ints)) (held-up most a.net h.net_low h.net) (held-up most b.net k.net_low k.net)) in
    record {
      gross = ordered-within most (ends gross) gross.ordered about_gross;
      net = from_zero (ends net) net.ordered about_net.low about_net.high;
      net_low = about_net.low;
    }
  where
    from_zero : (e : Ends) → e.low ≤ℤ e.high → pos 0 ≤ℤ e.low → e.high ≤ℤ pos most → IsWithin most e
    from_zero e order low high = record { low = omega (arith, ints, order, low, high); high = omega (arith, ints, order, low, high) }

-- a gross requirement chosen between two that are not negative is not
pub picked-low : (a b : Alternative) (gross : Span) (most : ℕ) → ends gross ≡ chosen_gross (a ∷ b ∷ []) → IsWithin most a.gross → IsWithin most b.gross
    → pos 0 ≤ℤ a.gross.low → pos 0 ≤ℤ b.gross.low → pos 0 ≤ℤ gross.low
picked-low a b gross most gross_is h k low low' =
    let about_gross : Covers (record { low = pos 0; high = pos most }) (ends gross) =
    rw gross_is (gross-chosen a b (pos 0) most (omega (arith, ints)) (held-up most a.gross low h) (held-up most b.gross low' k)) in
    about_gross.low
