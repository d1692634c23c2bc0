-- How far apart the ends of sums of payments are.
use Rattle.std.proofs.Common.{◌≡◌, ℕ, zero, suc, ◌+◌, ◌*◌, ◌≤◌, List, [], ◌∷◌, sum_by, ℤ, pos, negsuc, ◌+ℤ◌, ◌*ℤ◌, ◌≤ℤ◌, unsigned_abs, arith, lit<, mul-le-mul_right}
use Rattle.std.specs.Prelude.{All}
use Rattle.std.specs.Ordering.{int_eq}
use Rattle.std.proofs.lemmas.Int.{ints}
use Rattle.std.proofs.lemmas.Bool.{cond_both}
use Rattle.std.proofs.lemmas.List.Sums.{sum_by-cons}
use borrow.Author.Differences.{up, down}
use Rattle.scr_num.specs.Rounding.{Ends, exact_ends, add_ends, sub_ends}
use Rattle.scr_num.specs.Narrow.{IsNarrow}
use Rattle.scr_num.proofs.Spreads.{narrow-wider, narrow-exact, narrow-add, narrow-sub, narrow-scale}
use Rattle.scr_flow.specs.Sums.{flow_ends, weighted_ends}
use Rattle.scr_yield_curve.specs.Falls.{difference, differences}
use Rattle.scr_flow.specs.LossEnds.{present_ends, loss_ends, scaled_ends}

narrow-flow : (w : ℕ) (flow : ℤ) (e : Ends) → IsNarrow w e → IsNarrow (w * unsigned_abs flow) (flow_ends flow e)
narrow-flow w (pos n) e h = record { apart = times e.low e.high w n h.apart }
  where
    times : (low high : ℤ) (w n : ℕ) → high ≤ℤ (low +ℤ pos w) → (pos n *ℤ high) ≤ℤ ((pos n *ℤ low) +ℤ pos (w * n))
    times low high w n le =
        let m : (up high + down low) * n ≤ (up low + down high + w) * n = mul-le-mul_right n (omega (arith, ints)) in
        omega (arith, ints)
narrow-flow w (negsuc n) e h = record { apart = times e.low e.high w n h.apart }
  where
    times : (low high : ℤ) (w n : ℕ) → high ≤ℤ (low +ℤ pos w)
        → (negsuc n *ℤ low) ≤ℤ ((negsuc n *ℤ high) +ℤ pos (w * suc n))
    times low high w n le =
        let m : (up high + down low) * suc n ≤ (up low + down high + w) * suc n =
        mul-le-mul_right (suc n) (omega (arith, ints)) in
        omega (arith, ints)

narrow-none : (w : ℕ) → IsNarrow w (exact_ends (pos 0))
narrow-none w = narrow-wider 0 w (exact_ends (pos 0)) (omega arith) (narrow-exact (pos 0))

narrow-weighted : (w : ℕ) (flows : List ℤ) (es : List Ends) → All (IsNarrow w) es
    → IsNarrow (w * sum_by unsigned_abs flows) (weighted_ends flows es)
unfolding weighted_ends
narrow-weighted w [] es all = narrow-none _
narrow-weighted w (flow ∷ flows) [] all = narrow-none _
narrow-weighted w (flow ∷ flows) (e ∷ es) all =
    narrow-wider (w * unsigned_abs flow + w * sum_by unsigned_abs flows) (w * sum_by unsigned_abs (flow ∷ flows)) _
    (rw (sum_by-cons unsigned_abs flow flows) (omega arith))
    (narrow-add (w * unsigned_abs flow) (w * sum_by unsigned_abs flows) (flow_ends flow e) (weighted_ends flows es)
    (narrow-flow w flow e (all 0 e (omega arith)))
    (narrow-weighted w flows es (λ k d within. all (suc k) d (omega (arith, within)))))

pub narrow-present : (w : ℕ) (flows : List ℤ) (table : List Ends) → All (IsNarrow w) table
    → IsNarrow (w * sum_by unsigned_abs flows) (present_ends flows table)
narrow-present = narrow-weighted

-- ---- falls of discounts
narrow-fall : (w : ℕ) (base : ℤ) (from : Ends) (stressed : ℤ) (to : Ends) → IsNarrow w from → IsNarrow w to
    → IsNarrow (w + w) (difference base from stressed to)
narrow-fall w base from stressed to h k =
    cond_both (int_eq base stressed) (exact_ends (pos 0)) (sub_ends from to) (IsNarrow (w + w))
    (λ same. narrow-none (w + w)) (λ other. narrow-sub w w from to h k)

narrow-falls : (w : ℕ) (bases : List ℤ) (froms : List Ends) (stresseds : List ℤ) (tos : List Ends)
    → All (IsNarrow w) froms → All (IsNarrow w) tos
    → All (IsNarrow (w + w)) (differences bases froms stresseds tos)
unfolding differences
narrow-falls w [] froms stresseds tos h k i d within = absurd (omega (arith, within))
narrow-falls w (n ∷ bases) [] stresseds tos h k i d within = absurd (omega (arith, within))
narrow-falls w (n ∷ bases) (e ∷ froms) [] tos h k i d within = absurd (omega (arith, within))
narrow-falls w (n ∷ bases) (e ∷ froms) (m ∷ stresseds) [] h k i d within = absurd (omega (arith, within))
narrow-falls w (n ∷ bases) (e ∷ froms) (m ∷ stresseds) (f ∷ tos) h k zero d within =
    narrow-fall w n e m f (h 0 e (omega arith)) (k 0 f (omega arith))
narrow-falls w (n ∷ bases) (e ∷ froms) (m ∷ stresseds) (f ∷ tos) h k (suc i) d within =
    narrow-falls w bases froms stresseds tos (λ j c inside. h (suc j) c (omega (arith, inside)))
    (λ j c inside. k (suc j) c (omega (arith, inside))) i d (omega (arith, within))

pub narrow-loss : (w : ℕ) (flows base stressed : List ℤ) (from to : List Ends) → All (IsNarrow w) from
    → All (IsNarrow w) to
    → IsNarrow ((w + w) * sum_by unsigned_abs flows) (loss_ends flows base from stressed to)
narrow-loss w flows base stressed from to h k =
    narrow-weighted (w + w) flows (differences base from stressed to) (narrow-falls w base from stressed to h k)

-- ---- a share of a million
pub narrow-scaled : (w k : ℕ) (unit : Ends) (cents : ℕ) → w * cents ≤ k * 1_000_000 → IsNarrow w unit
    → IsNarrow (k + 1) (scaled_ends unit cents)
narrow-scaled w k unit cents le h = narrow-scale w k cents 1_000_000 unit (lit< tt) le h
