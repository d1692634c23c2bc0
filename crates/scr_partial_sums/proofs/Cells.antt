-- What the bits of a cell stand for.
use Rattle.std.proofs.Common.{◌≡◌, ◌⊎◌, inl, inr, ℕ, ◌+◌, ◌*◌, ◌/◌, ◌%◌, ◌^◌, ◌<◌, ◌≤◌, Bool, true, false, refl, sym, ap, ap₂, ◌∙◌, arith}
use Rattle.std.specs.Prelude.{ℤ, pos, ◌+ℤ◌, ◌-ℤ◌, ◌≤ℤ◌, ◌-◌, ◌==◌, nat_le, if◌then◌else◌}
use Rattle.std.proofs.lemmas.Bool.{cases_lt, eqb-false, le-leb, lt-leb}
use Rattle.std.proofs.lemmas.Int.{ints}
use Rattle.scr_num.specs.declared.span.Span.{Span}
use Rattle.scr_partial_sums.specs.Cells.{close_in, high_in, low_in}
use Rattle.scr_partial_sums.specs.Tables.{nothing}
use Rattle.scr_partial_sums.specs.declared.cell.Kept.{Kept}
use Rattle.scr_partial_sums.specs.declared.cell.Kept.TheVariants as kept
use Rattle.scr_partial_sums.specs.declared.figure.Figure.{Figure}
use Rattle.scr_partial_sums.proofs.KeptSpans.{one_order, one_span}

-- what bits stand for whose ends are in order
abbrev pub kept_of : (bits : ℕ) → low_in bits ≤ℤ high_in bits → Kept
kept_of bits ordered = if nat_le (2 ^ 127) bits then kept.Apart (bits - 2 ^ 127)
    else kept.Here (record { span = record { low = low_in bits; high = high_in bits; ordered = ordered }; close = close_in bits })

-- whatever tells that they are
pub one-kept : (bits : ℕ) (one other : low_in bits ≤ℤ high_in bits) → kept_of bits one ≡ kept_of bits other
one-kept bits one other = ap (kept_of bits) (one_order (low_in bits) (high_in bits) one other)

-- below 2 ^ 127 they stand for the figure of these ends and this mark
pub narrow-is : (bits : ℕ) (ordered : low_in bits ≤ℤ high_in bits) (span : Span) (close : Bool) → bits < 2 ^ 127 → low_in bits ≡ span.low
    → high_in bits ≡ span.high → close_in bits ≡ close → kept_of bits ordered ≡ kept.Here (record { span = span; close = close })
narrow-is bits ordered span close few low high mark =
    ap (λ (apart : Bool). if apart then kept.Apart (bits - 2 ^ 127)
    else kept.Here (record { span = record { low = low_in bits; high = high_in bits; ordered = ordered }; close = close_in bits }))
    (lt-leb (2 ^ 127) bits few)
    ∙ ap₂ (λ (s : Span) (b : Bool). kept.Here (record { span = s; close = b })) (one_span (low_in bits) (high_in bits) span low high ordered) mark

-- the digits of bits
low-digits : (from rest : ℕ) → from < 2 ^ 90 → (from + rest * 2 ^ 90) % 2 ^ 90 ≡ from
low-digits from rest few = omega (arith, few)

high-digits : (from rest : ℕ) → from < 2 ^ 90 → (from + rest * 2 ^ 90) / 2 ^ 90 ≡ rest
high-digits from rest few = omega (arith, few)

-- what is put together of a moved low end, a width and a mark stands for the figure that they are of
pub cell-of : (from width mark : ℕ) (ordered : low_in (from + (width + mark) * 2 ^ 90) ≤ℤ high_in (from + (width + mark) * 2 ^ 90))
    (span : Span) (close : Bool) → pos from ≡ (span.low +ℤ pos (2 ^ 89)) → pos width ≡ (span.high -ℤ span.low) → from < 2 ^ 90 → width < 2 ^ 36
    → mark ≡ (if close then 2 ^ 36 else 0)
    → kept_of (from + (width + mark) * 2 ^ 90) ordered ≡ kept.Here (record { span = span; close = close })
cell-of from width mark ordered span true from_is width_is few narrow is =
    let low = low-digits from (width + mark) few in
    let rest = high-digits from (width + mark) few in
    let inner : (width + mark) % 2 ^ 36 ≡ width = omega (arith, is, narrow) in
    let outer : (width + mark) / 2 ^ 36 ≡ 1 = omega (arith, is, narrow) in
    narrow-is (from + (width + mark) * 2 ^ 90) ordered span true (omega (arith, few, narrow, is)) (omega (arith, ints, low, from_is))
    (let part = ap (λ (n : ℕ). n % 2 ^ 36) rest ∙ inner in omega (arith, ints, low, part, from_is, width_is))
    (ap (λ (n : ℕ). n == 1) (ap (λ (n : ℕ). n / 2 ^ 36) rest ∙ outer))
cell-of from width mark ordered span false from_is width_is few narrow is =
    let low = low-digits from (width + mark) few in
    let rest = high-digits from (width + mark) few in
    let inner : (width + mark) % 2 ^ 36 ≡ width = omega (arith, is, narrow) in
    let outer : (width + mark) / 2 ^ 36 ≡ 0 = omega (arith, is, narrow) in
    narrow-is (from + (width + mark) * 2 ^ 90) ordered span false (omega (arith, few, narrow, is)) (omega (arith, ints, low, from_is))
    (let part = ap (λ (n : ℕ). n % 2 ^ 36) rest ∙ inner in omega (arith, ints, low, part, from_is, width_is))
    (ap (λ (n : ℕ). n == 1) (ap (λ (n : ℕ). n / 2 ^ 36) rest ∙ outer))

-- ---- the figure that comes to nothing

-- its bits
pub nothing-of : (bits : ℕ) (ordered : low_in bits ≤ℤ high_in bits) → bits ≡ 2 ^ 89 → kept_of bits ordered ≡ kept.Here nothing
nothing-of bits ordered is =
    narrow-is bits ordered nothing.span false (omega (arith, is)) (omega (arith, ints, is)) (omega (arith, ints, is))
    (ap (λ (n : ℕ). n / 2 ^ 90 / 2 ^ 36 == 1) is)

abbrev pub low_at : Kept → ℤ
low_at (kept.Here figure) = figure.span.low
low_at (kept.Apart place) = pos 0

abbrev pub high_at : Kept → ℤ
high_at (kept.Here figure) = figure.span.high
high_at (kept.Apart place) = pos 0

abbrev pub close_at : Kept → Bool
close_at (kept.Here figure) = figure.close
close_at (kept.Apart place) = false

-- no others stand for it
pub nothing-bits : (bits : ℕ) (ordered : low_in bits ≤ℤ high_in bits) → kept_of bits ordered ≡ kept.Here nothing → bits ≡ 2 ^ 89
nothing-bits bits ordered is = by (cases_lt bits (2 ^ 127))
  where
    own : Figure
    own = record { span = record { low = low_in bits; high = high_in bits; ordered = ordered }; close = close_in bits }

    digits : bits < 2 ^ 127 → low_in bits ≡ pos 0 → high_in bits ≡ pos 0 → (bits / 2 ^ 90 / 2 ^ 36 ≡ 1 → ⊥) → bits ≡ 2 ^ 89
    digits few low high not = top (cases_lt (bits / 2 ^ 90 / 2 ^ 36) 1)
      where
        top : (bits / 2 ^ 90 / 2 ^ 36 < 1) ⊎ (1 ≤ bits / 2 ^ 90 / 2 ^ 36) → bits ≡ 2 ^ 89
        top (inl none) = omega (arith, ints, low, high, none)
        top (inr some) = let one : bits / 2 ^ 90 / 2 ^ 36 ≡ 1 = omega (arith, few, some) in absurd (not one)

    by : (bits < 2 ^ 127) ⊎ (2 ^ 127 ≤ bits) → bits ≡ 2 ^ 89
    by (inl few) =
        let here : kept_of bits ordered ≡ kept.Here own = narrow-is bits ordered own.span own.close few refl refl refl in
        let same : kept.Here own ≡ kept.Here nothing = sym here ∙ is in
        digits few (ap low_at same) (ap high_at same) (eqb-false (bits / 2 ^ 90 / 2 ^ 36) 1 (ap close_at same))
    by (inr far) =
        let apart : kept_of bits ordered ≡ kept.Apart (bits - 2 ^ 127) =
        ap (λ (b : Bool). if b then kept.Apart (bits - 2 ^ 127) else kept.Here own) (le-leb (2 ^ 127) bits far) in
        let clash : kept.Apart (bits - 2 ^ 127) ≡ kept.Here nothing = sym apart ∙ is in
        absurd (cc)
