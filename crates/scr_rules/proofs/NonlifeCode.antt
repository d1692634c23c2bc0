-- What the code of premium and reserve risk asks of its arguments.
use Rattle.std.proofs.Common.{◌≡◌, ℕ, ◌+◌, ◌-◌, ◌*◌, ◌^◌, ◌<◌, ◌≤◌, List, [], ◌∷◌, map, sum_by, pos, ◌≤ℤ◌, refl, ap, subst, ◌∙◌}
use Rattle.std.specs.List.{AllByRecursion}
use Rattle.std.proofs.lemmas.List.Sums.{sum_by-cons}
use Rattle.scr_num.specs.Rounding.{Ends, ends, or_zero}
use Rattle.scr_num.specs.declared.span.Span.{Span}
use Rattle.scr_agg.specs.Correlated.{NotNegative, total_high}

pub lows-of : (spans : List Span) → AllByRecursion (λ (e : Ends). pos 0 ≤ℤ e.low) (map ends spans) → NotNegative spans
lows-of [] h = tt
lows-of (span ∷ spans) h = (h.0, lows-of spans h.1)

highs-of : (spans : List Span) → sum_by (λ (e : Ends). or_zero e.high) (map ends spans) ≡ total_high spans
highs-of [] = refl
highs-of (span ∷ spans) =
    sum_by-cons (λ (e : Ends). or_zero e.high) (ends span) (map ends spans) ∙ ap (λ (n : ℕ). or_zero span.high + n) (highs-of spans)

pub small-of : (den other : ℕ) (spans : List Span) → den ≡ other
    → den * (sum_by (λ (e : Ends). or_zero e.high) (map ends spans) * sum_by (λ (e : Ends). or_zero e.high) (map ends spans)) < 2 ^ 127
    → other * (total_high spans * total_high spans) < 2 ^ 127
small-of den other spans is h =
    subst (λ (d : ℕ). d * (total_high spans * total_high spans) < 2 ^ 127) is
    (subst (λ (n : ℕ). den * (n * n) < 2 ^ 127) (highs-of spans) h)
