-- The bits of a narrow figure, which are those of no other.
use Rattle.std.proofs.Common.{◌≡◌, ◌⊎◌, inl, inr, ℕ, ◌/◌, ◌^◌, ◌<◌, ◌≤◌, ◌==◌, Bool, true, false, refl, sym, ap, ◌∙◌, arith}
use Rattle.std.specs.Prelude.{◌≤ℤ◌, ◌-◌, if◌then◌else◌}
use Rattle.std.proofs.lemmas.Bool.{cases_lt, le-leb}
use Rattle.std.proofs.lemmas.Int.{ints}
use Rattle.scr_partial_sums.specs.Cells.{close_in, high_in, low_in}
use Rattle.scr_partial_sums.specs.declared.cell.Kept.{Kept}
use Rattle.scr_partial_sums.specs.declared.cell.Kept.TheVariants as kept
use Rattle.scr_partial_sums.specs.declared.figure.Figure.{Figure}
use Rattle.scr_partial_sums.proofs.Cells.{kept_of, narrow-is}

-- the figure of bits
abbrev pub own_of : (bits : ℕ) → low_in bits ≤ℤ high_in bits → Figure
own_of bits ordered = record { span = record { low = low_in bits; high = high_in bits; ordered = ordered }; close = close_in bits }

-- below 2 ^ 127 they stand for it
pub own-here : (bits : ℕ) (ordered : low_in bits ≤ℤ high_in bits) → bits < 2 ^ 127 → kept_of bits ordered ≡ kept.Here (own_of bits ordered)
own-here bits ordered few = narrow-is bits ordered (own_of bits ordered).span (close_in bits) few refl refl refl

-- a cell that is a figure has bits below 2 ^ 127
pub here-few : (bits : ℕ) (ordered : low_in bits ≤ℤ high_in bits) (figure : Figure) → kept_of bits ordered ≡ kept.Here figure → bits < 2 ^ 127
here-few bits ordered figure is = by (cases_lt bits (2 ^ 127))
  where
    by : (bits < 2 ^ 127) ⊎ (2 ^ 127 ≤ bits) → bits < 2 ^ 127
    by (inl few) = few
    by (inr far) =
        let apart : kept_of bits ordered ≡ kept.Apart (bits - 2 ^ 127) =
        ap (λ (b : Bool). if b then kept.Apart (bits - 2 ^ 127) else kept.Here (own_of bits ordered)) (le-leb (2 ^ 127) bits far) in
        let clash : kept.Apart (bits - 2 ^ 127) ≡ kept.Here figure = sym apart ∙ is in
        absurd (cc)

abbrev figure_at : Kept → Figure → Figure
figure_at (kept.Here figure) other = figure
figure_at (kept.Apart place) other = other

-- and it is the figure of its bits
pub here-own : (bits : ℕ) (ordered : low_in bits ≤ℤ high_in bits) (figure : Figure) → kept_of bits ordered ≡ kept.Here figure
    → own_of bits ordered ≡ figure
here-own bits ordered figure is =
    ap (λ (k : Kept). figure_at k figure) (sym (own-here bits ordered (here-few bits ordered figure is)) ∙ is)

-- the figures of two cells are the same only where their bits are
pub own-bits : (one other : ℕ) (first : low_in one ≤ℤ high_in one) (second : low_in other ≤ℤ high_in other) → one < 2 ^ 127 → other < 2 ^ 127
    → own_of one first ≡ own_of other second → one ≡ other
own-bits one other first second few many same =
    digits (ap (λ (f : Figure). f.span.low) same) (ap (λ (f : Figure). f.span.high) same) (marks (ap (λ (f : Figure). f.close) same))
  where
    marks : close_in one ≡ close_in other → one / 2 ^ 90 / 2 ^ 36 ≡ other / 2 ^ 90 / 2 ^ 36
    marks is = by (cases_lt (one / 2 ^ 90 / 2 ^ 36) 1) (cases_lt (other / 2 ^ 90 / 2 ^ 36) 1)
      where
        clash : (a b : ℕ) → (a == 1) ≡ (b == 1) → a ≡ 1 → b ≡ 0 → a ≡ b
        clash a b tests a_is b_is =
            let yes : true ≡ false = ap (λ (n : ℕ). n == 1) (sym a_is) ∙ tests ∙ ap (λ (n : ℕ). n == 1) b_is in absurd (cc)

        by : (one / 2 ^ 90 / 2 ^ 36 < 1) ⊎ (1 ≤ one / 2 ^ 90 / 2 ^ 36) → (other / 2 ^ 90 / 2 ^ 36 < 1) ⊎ (1 ≤ other / 2 ^ 90 / 2 ^ 36)
            → one / 2 ^ 90 / 2 ^ 36 ≡ other / 2 ^ 90 / 2 ^ 36
        by (inl none) (inl nil) = omega (arith, none, nil)
        by (inr some) (inr more) = omega (arith, some, more, few, many)
        by (inr some) (inl nil) = clash _ _ is (omega (arith, some, few)) (omega (arith, nil))
        by (inl none) (inr more) = sym (clash _ _ (sym is) (omega (arith, more, many)) (omega (arith, none)))

    digits : low_in one ≡ low_in other → high_in one ≡ high_in other → one / 2 ^ 90 / 2 ^ 36 ≡ other / 2 ^ 90 / 2 ^ 36 → one ≡ other
    digits low high mark = omega (arith, ints, low, high, mark)

-- and where they are, so is the figure
pub same-bits : (one other : ℕ) (first : low_in one ≤ℤ high_in one) (second : low_in other ≤ℤ high_in other) → one ≡ other → other < 2 ^ 127
    → kept_of one first ≡ kept.Here (own_of other second)
same-bits one other first second same few =
    narrow-is one first (own_of other second).span (close_in other) (omega (arith, same, few)) (ap low_in same) (ap high_in same) (ap close_in same)
