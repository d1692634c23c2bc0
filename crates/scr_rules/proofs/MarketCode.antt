-- What the code of market risk keeps along its loops.
use Rattle.std.proofs.Common.{◌≡◌, ℕ, zero, suc, ◌+◌, ◌-◌, ◌<◌, ◌≤◌, Bool, true, false, cond, List, [], ◌∷◌, length, get_or, slice_get, drop, take, map, filter, sum_by, ℤ, ◌+ℤ◌, unsigned_abs, Option, Some, None, refl, ap, sym, ◌∙◌, arith}
use Rattle.std.specs.Option.{option_map}
use Rattle.std.proofs.lemmas.Int.{ints}
use Rattle.std.proofs.lemmas.List.{drop_more, take_all, take-map, drop-map}
use Rattle.std.proofs.lemmas.List.Filters.{length-filter_more}
use Rattle.std.proofs.lemmas.List.Sums.{sum_by-cons}
use Rattle.std.proofs.lemmas.Option.{get_or_from_slice_get, slice_get_within}
use Rattle.scr_num.specs.Rounding.{Ends, ends, add_ends}
use Rattle.scr_num.specs.Sums.{sum_ends}
use Rattle.scr_num.specs.declared.span.Span.{Span}
use Rattle.scr_num.proofs.AddedEnds.{add_ends-assoc}
use Rattle.scr_conc.specs.declared.TheConstants.{MAX_SQUARES}
use Rattle.scr_flow.specs.Due.{dues}
use Rattle.scr_flow.specs.LossEnds.{present_ends}
use Rattle.scr_dates.specs.declared.day.Day.{Day}
use Rattle.scr_nodes.specs.Rows.{is_held_in}
use Rattle.scr_sheet.specs.BalanceSheet.{curve_name}
use Rattle.scr_sheet.specs.declared.{rows.Curve.Curve, rows.Position.Position, sheet.BalanceSheet.BalanceSheet}
use Rattle.scr_discounts.specs.Discounts.{CurrencyDiscounts}
use Rattle.scr_discounts.specs.Kept.{row_in}
use Rattle.scr_rules.specs.MarketRules.{worth_ends}
use Rattle.scr_rules.specs.Paid.{valued_in}
use Rattle.scr_rules.proofs.CodeLemmas.{IsRowAt}

-- ---- a sum of squares
-- the sum so far, and the squares from place i on, make the whole and are within their bound
pub record AreSquaresSummed (spans : List Span) (sum : Span) (i : ℕ) : Type 0 where
  pub total : add_ends (ends sum) (sum_ends (map ends (drop i spans))) ≡ sum_ends (map ends spans)
  pub low : unsigned_abs sum.low + sum_by (λ (e : Ends). unsigned_abs e.low) (map ends (drop i spans)) ≤ MAX_SQUARES
  pub high : unsigned_abs sum.high + sum_by (λ (e : Ends). unsigned_abs e.high) (map ends (drop i spans)) ≤ MAX_SQUARES

abs_plus : (a b : ℤ) → unsigned_abs (a +ℤ b) ≤ unsigned_abs a + unsigned_abs b
abs_plus a b = omega (arith, ints)

module _ (spans : List Span) (sum span : Span) (i : ℕ) (within : i < length spans) (at : span ≡ get_or spans i span) (h : AreSquaresSummed spans sum i) where
  split : drop i spans ≡ span ∷ drop (i + 1) spans
  split = drop_more spans i span within ∙ ap (λ (s : Span). s ∷ drop (i + 1) spans) (sym at)

  lows : sum_by (λ (e : Ends). unsigned_abs e.low) (map ends (drop i spans)) ≡ unsigned_abs span.low + sum_by (λ (e : Ends). unsigned_abs e.low) (map ends (drop (i + 1) spans))
  lows = ap (λ (l : List Span). sum_by (λ (e : Ends). unsigned_abs e.low) (map ends l)) split ∙ sum_by-cons (λ (e : Ends). unsigned_abs e.low) (ends span) (map ends (drop (i + 1) spans))

  highs : sum_by (λ (e : Ends). unsigned_abs e.high) (map ends (drop i spans)) ≡ unsigned_abs span.high + sum_by (λ (e : Ends). unsigned_abs e.high) (map ends (drop (i + 1) spans))
  highs = ap (λ (l : List Span). sum_by (λ (e : Ends). unsigned_abs e.high) (map ends l)) split ∙ sum_by-cons (λ (e : Ends). unsigned_abs e.high) (ends span) (map ends (drop (i + 1) spans))

  pub squares-more : (next : Span) → ends next ≡ add_ends (ends sum) (ends span) → AreSquaresSummed spans next (i + 1)
  squares-more next e =
      let low : next.low ≡ sum.low +ℤ span.low = ap (λ (x : Ends). x.low) e in
      let high : next.high ≡ sum.high +ℤ span.high = ap (λ (x : Ends). x.high) e in
      let rest = sum_ends (map ends (drop (i + 1) spans)) in
      record {
        total = ap (λ (x : Ends). add_ends x rest) e ∙ add_ends-assoc (ends sum) (ends span) rest
            ∙ ap (λ (l : List Span). add_ends (ends sum) (sum_ends (map ends l))) (sym split) ∙ h.total;
        low = rw low (omega (arith, abs_plus sum.low span.low, lows, h.low));
        high = rw high (omega (arith, abs_plus sum.high span.high, highs, h.high));
      }

-- ---- the securities in a currency, counted
abbrev added : Bool → ℕ
added b = cond b 1 0

pub record AreCounted (currency : List ℕ) (rows : List Position) (k count : ℕ) : Type 0 where
  pub so_far : count ≡ length (filter (is_held_in currency) (take k rows))
  pub few : count ≤ k

module _ (currency : List ℕ) (rows : List Position) (k count : ℕ) (p : Position) (is : slice_get rows k ≡ Some p) (h : AreCounted currency rows k count) where
  step : length (filter (is_held_in currency) (take (k + 1) rows)) ≡ length (filter (is_held_in currency) (take k rows)) + added (is_held_in currency p)
  step =
      length-filter_more (is_held_in currency) rows k p (slice_get_within rows k p is)
      ∙ ap (λ (r : Position). length (filter (is_held_in currency) (take k rows)) + added (is_held_in currency r)) (get_or_from_slice_get rows k p p is)

  pub counted-one : is_held_in currency p ≡ true → AreCounted currency rows (k + 1) (count + 1)
  counted-one pass =
      let one : added (is_held_in currency p) ≡ added true = ap added pass in
      record { so_far = omega (arith, step, one, h.so_far); few = omega (arith, h.few) }

  pub counted-none : is_held_in currency p ≡ false → AreCounted currency rows (k + 1) count
  counted-none fail =
      let none : added (is_held_in currency p) ≡ added false = ap added fail in
      record { so_far = omega (arith, step, none, h.so_far); few = omega (arith, h.few) }

-- ---- what payments are worth by the row of their currency
pub worth-at : (sheet : BalanceSheet) (currency : List ℕ) (payments : List (Day × ℤ)) (rows : List CurrencyDiscounts) (row : CurrencyDiscounts) (rates flows : List ℤ) (e : Ends) (base : List Ends)
    → IsRowAt currency sheet.curves rows row rates → flows ≡ dues sheet.numbers.asof.number payments → row.base ≡ base → e ≡ present_ends flows base
    → e ≡ worth_ends (valued_in sheet currency payments) (row_in currency sheet.curves rows)
unfolding worth_ends
worth-at sheet currency payments rows row rates flows e base found flows_are base_is is = rw (found.own, base_is, sym flows_are) is

-- the curve at the place that a currency has
pub curve-there : (found : Option Curve) (currency : List ℕ) → option_map curve_name found ≡ Some currency → (curve : Curve) × (found ≡ Some curve)
curve-there None currency named = absurd (cc)
curve-there (Some curve) currency named = (curve, refl)

-- ---- the first spans and the others
pub first-spans : (spans : List Span) (n k : ℕ) → n ≡ k → take k (map ends spans) ≡ map ends (take n spans)
first-spans spans n k e = ap (λ (j : ℕ). take j (map ends spans)) (sym e) ∙ take-map ends n spans

length-dropped : (n : ℕ) (spans : List Span) → length (drop n spans) ≤ length spans - n
length-dropped zero spans = omega arith
length-dropped (suc n) [] = omega arith
length-dropped (suc n) (s ∷ spans) = let rest = length-dropped n spans in omega (arith, rest)

pub other-spans : (spans : List Span) (n k : ℕ) → n ≡ k → drop k (map ends spans) ≡ map ends (take (length spans - n) (drop n spans))
other-spans spans n k e =
    ap (λ (j : ℕ). drop j (map ends spans)) (sym e) ∙ drop-map ends n spans ∙ ap (map ends) (sym (take_all (length spans - n) (drop n spans) (length-dropped n spans)))

-- the two spans of a pair
pub first-of-two : (list : List Span) (s : Span) (a b : Ends) → map ends list ≡ a ∷ b ∷ [] → ends (get_or list 0 s) ≡ a
first-of-two [] s a b e = absurd (cc)
first-of-two (x ∷ list) s a b e = cc

pub second-of-two : (list : List Span) (s : Span) (a b : Ends) → map ends list ≡ a ∷ b ∷ [] → ends (get_or list 1 s) ≡ b
second-of-two [] s a b e = absurd (cc)
second-of-two (x ∷ []) s a b e = absurd (cc)
second-of-two (x ∷ y ∷ list) s a b e = cc
