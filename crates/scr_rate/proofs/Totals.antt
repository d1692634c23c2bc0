-- The sum of the losses, as the code goes.
use Rattle.std.proofs.Common.{◌≡◌, ℕ, ◌+◌, ◌^◌, ◌<◌, ◌≤◌, ℤ, ◌+ℤ◌, List, ◌∷◌, length, get_or, drop, sum_by, unsigned_abs, sym, ap, ◌∙◌, arith}
use Rattle.std.proofs.lemmas.Int.{ints}
use Rattle.std.proofs.lemmas.List.{drop_more}
use Rattle.std.proofs.lemmas.List.Sums.{sum_by-cons}
use Rattle.scr_num.specs.declared.span.Span.{Span}
use Rattle.scr_num.specs.Rounding.{Ends, ends, add_ends}
use Rattle.scr_num.proofs.AddedEnds.{add_ends-assoc}
use Rattle.scr_agg.specs.Correlated.{all_ends}
use Rattle.scr_num.specs.Sums.{sum_ends}

-- the sum so far, and the losses from place i on
pub record SummedTo (losses : List Span) (sum : Span) (i : ℕ) : Type 0 where
  pub total : add_ends (ends sum) (sum_ends (all_ends (drop i losses))) ≡ sum_ends (all_ends losses)
  pub low : unsigned_abs sum.low + sum_by (λ (loss : Span). unsigned_abs loss.low) (drop i losses) ≤ 10 ^ 33
  pub high : unsigned_abs sum.high + sum_by (λ (loss : Span). unsigned_abs loss.high) (drop i losses) ≤ 10 ^ 33

abs_plus : (a b : ℤ) → unsigned_abs (a +ℤ b) ≤ unsigned_abs a + unsigned_abs b
abs_plus a b = omega (arith, ints)

pub summed-next : (losses : List Span) (sum loss next : Span) (i : ℕ) → i < length losses → loss ≡ get_or losses i loss → ends next ≡ add_ends (ends sum) (ends loss)
    → SummedTo losses sum i → SummedTo losses next (i + 1)
summed-next losses sum loss next i lt at e h =
    let split : drop i losses ≡ loss ∷ drop (i + 1) losses = drop_more losses i loss lt ∙ ap (λ s. s ∷ drop (i + 1) losses) (sym at) in
    let low : next.low ≡ sum.low +ℤ loss.low = ap (λ (x : Ends). x.low) e in
    let high : next.high ≡ sum.high +ℤ loss.high = ap (λ (x : Ends). x.high) e in
    let lows = ap (λ l. sum_by (λ (s : Span). unsigned_abs s.low) l) split ∙ sum_by-cons (λ (s : Span). unsigned_abs s.low) loss (drop (i + 1) losses) in
    let highs = ap (λ l. sum_by (λ (s : Span). unsigned_abs s.high) l) split ∙ sum_by-cons (λ (s : Span). unsigned_abs s.high) loss (drop (i + 1) losses) in
    record {
      total = ap (λ (x : Ends). add_ends x (sum_ends (all_ends (drop (i + 1) losses)))) e
          ∙ add_ends-assoc (ends sum) (ends loss) (sum_ends (all_ends (drop (i + 1) losses)))
          ∙ ap (λ l. add_ends (ends sum) (sum_ends (all_ends l))) (sym split)
          ∙ h.total;
      low = rw low (omega (arith, abs_plus sum.low loss.low, lows, h.low));
      high = rw high (omega (arith, abs_plus sum.high loss.high, highs, h.high));
    }
