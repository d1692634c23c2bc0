-- The sum of spans, as the code goes.
use Rattle.std.proofs.Common.{◌≡◌, ℕ, ◌+◌, ◌<◌, ◌≤◌, pos, ◌+ℤ◌, List, ◌∷◌, length, get_or, map, drop, sum_by, unsigned_abs, sym, ap, ◌∙◌, arith}
use Rattle.std.proofs.lemmas.Int.{ints}
use Rattle.std.proofs.lemmas.List.{drop_more, drop_all}
use Rattle.std.proofs.lemmas.List.Sums.{sum_by-cons}
use Rattle.scr_num.specs.declared.span.Span.{Span}
use Rattle.scr_num.specs.Rounding.{Ends, ends, add_ends, exact_ends}
use Rattle.scr_num.proofs.AddedEnds.{add_ends-assoc, zero-add_ends, add_ends-zero}
use Rattle.scr_num.specs.Sums.{sum_ends}
use Rattle.scr_num.proofs.SumLemmas.{abs-add}

-- the sums of the ends without their signs
abbrev pub lows : List Ends → ℕ
lows es = sum_by (λ (e : Ends). unsigned_abs e.low) es

abbrev pub highs : List Ends → ℕ
highs es = sum_by (λ (e : Ends). unsigned_abs e.high) es

-- the sum so far, and the spans from place i on
pub record SummedTo (spans : List Span) (sum : Span) (i : ℕ) : Type 0 where
  pub total : add_ends (ends sum) (sum_ends (map ends (drop i spans))) ≡ sum_ends (map ends spans)
  pub low : unsigned_abs sum.low + lows (map ends (drop i spans)) ≤ lows (map ends spans)
  pub high : unsigned_abs sum.high + highs (map ends (drop i spans)) ≤ highs (map ends spans)

pub summed-start : (spans : List Span) (sum : Span) → ends sum ≡ exact_ends (pos 0) → SummedTo spans sum 0
summed-start spans sum e =
    let low : sum.low ≡ pos 0 = ap (λ (x : Ends). x.low) e in
    let high : sum.high ≡ pos 0 = ap (λ (x : Ends). x.high) e in
    record {
      total = ap (λ (x : Ends). add_ends x (sum_ends (map ends spans))) e ∙ zero-add_ends (sum_ends (map ends spans));
      low = rw low (omega (arith, ints));
      high = rw high (omega (arith, ints));
    }

pub summed-next : (spans : List Span) (sum span next : Span) (i : ℕ) → i < length spans → span ≡ get_or spans i span
    → ends next ≡ add_ends (ends sum) (ends span)
    → SummedTo spans sum i → SummedTo spans next (i + 1)
summed-next spans sum span next i lt at e h =
    let split : drop i spans ≡ span ∷ drop (i + 1) spans =
    drop_more spans i span lt ∙ ap (λ s. s ∷ drop (i + 1) spans) (sym at) in
    let low : next.low ≡ sum.low +ℤ span.low = ap (λ (x : Ends). x.low) e in
    let high : next.high ≡ sum.high +ℤ span.high = ap (λ (x : Ends). x.high) e in
    let low_rest = ap (λ l. lows (map ends l)) split
    ∙ sum_by-cons (λ (e : Ends). unsigned_abs e.low) (ends span) (map ends (drop (i + 1) spans)) in
    let high_rest = ap (λ l. highs (map ends l)) split
    ∙ sum_by-cons (λ (e : Ends). unsigned_abs e.high) (ends span) (map ends (drop (i + 1) spans)) in
    record {
      total = ap (λ (x : Ends). add_ends x (sum_ends (map ends (drop (i + 1) spans)))) e
          ∙ add_ends-assoc (ends sum) (ends span) (sum_ends (map ends (drop (i + 1) spans)))
          ∙ ap (λ l. add_ends (ends sum) (sum_ends (map ends l))) (sym split)
          ∙ h.total;
      low = rw low (omega (arith, abs-add sum.low span.low, low_rest, h.low));
      high = rw high (omega (arith, abs-add sum.high span.high, high_rest, h.high));
    }

pub summed-end : (spans : List Span) (sum : Span) (i : ℕ) → length spans ≤ i → SummedTo spans sum i
    → ends sum ≡ sum_ends (map ends spans)
summed-end spans sum i most h =
    sym (ap (λ l. add_ends (ends sum) (sum_ends (map ends l))) (drop_all i spans most) ∙ add_ends-zero (ends sum))
    ∙ h.total
