-- What tells the figure of one amount by its bits.
use Rattle.std.proofs.Common.{◌≡◌, ◌⊎◌, inl, inr, ℕ, ◌/◌, ◌%◌, ◌^◌, ◌<◌, ◌≤◌, Bool, refl, sym, ap, ◌∙◌, arith}
use Rattle.std.specs.Prelude.{◌≤ℤ◌, ◌-◌, ◌==◌, if◌then◌else◌}
use Rattle.std.proofs.lemmas.Bool.{cases_lt, eqb-false, le-leb}
use Rattle.std.proofs.lemmas.Int.{ints}
use Rattle.scr_partial_sums.specs.Cells.{close_in, high_in, low_in}
use Rattle.scr_partial_sums.specs.Tables.{IsOneAmount}
use Rattle.scr_partial_sums.specs.declared.cell.Kept.TheVariants as kept
use Rattle.scr_partial_sums.specs.declared.figure.Figure.{Figure}
use Rattle.scr_partial_sums.proofs.Cells.{close_at, high_at, kept_of, low_at, narrow-is}

module _ (bits : ℕ) (ordered : low_in bits ≤ℤ high_in bits) (most : ℕ) where
  abbrev own : Figure
  own = record { span = record { low = low_in bits; high = high_in bits; ordered = ordered }; close = close_in bits }

  -- the upper half of the bits is that of nothing
  pub amount-of : bits / 2 ^ 64 ≡ 2 ^ 25 → bits % 2 ^ 64 ≤ most
      → (figure : Figure) × (kept_of bits ordered ≡ kept.Here figure) × IsOneAmount most figure
  amount-of upper lower =
      let unmarked : bits / 2 ^ 90 / 2 ^ 36 ≡ 0 = omega (arith, upper) in (
        own,
        narrow-is bits ordered own.span own.close (omega (arith, upper)) refl refl refl,
        record {
          one = omega (arith, ints, upper);
          not_negative = omega (arith, ints, upper);
          few = omega (arith, ints, upper, lower);
          settled = ap (λ (n : ℕ). n == 1) unmarked;
        },
      )

  -- no others stand for one
  pub amount-bits : most < 2 ^ 64 → (figure : Figure) → kept_of bits ordered ≡ kept.Here figure → IsOneAmount most figure
      → (bits / 2 ^ 64 ≡ 2 ^ 25) × (bits % 2 ^ 64 ≤ most)
  amount-bits low figure is amount = by (cases_lt bits (2 ^ 127))
    where
      digits : bits < 2 ^ 127 → low_in bits ≡ figure.span.low → high_in bits ≡ figure.span.high → (bits / 2 ^ 90 / 2 ^ 36 ≡ 1 → ⊥)
          → (bits / 2 ^ 64 ≡ 2 ^ 25) × (bits % 2 ^ 64 ≤ most)
      digits few from upto not = top (cases_lt (bits / 2 ^ 90 / 2 ^ 36) 1)
        where
          top : (bits / 2 ^ 90 / 2 ^ 36 < 1) ⊎ (1 ≤ bits / 2 ^ 90 / 2 ^ 36) → (bits / 2 ^ 64 ≡ 2 ^ 25) × (bits % 2 ^ 64 ≤ most)
          top (inl none) =
              let one = amount.one in
              let positive = amount.not_negative in
              let small = amount.few in
              let thin : bits / 2 ^ 90 ≡ 0 = omega (arith, ints, from, upto, none, one) in (
                omega (arith, ints, from, thin, positive, small, low),
                omega (arith, ints, from, thin, positive, small, low),
              )
          top (inr some) = let one : bits / 2 ^ 90 / 2 ^ 36 ≡ 1 = omega (arith, few, some) in absurd (not one)

      by : (bits < 2 ^ 127) ⊎ (2 ^ 127 ≤ bits) → (bits / 2 ^ 64 ≡ 2 ^ 25) × (bits % 2 ^ 64 ≤ most)
      by (inl few) =
          let here : kept_of bits ordered ≡ kept.Here own = narrow-is bits ordered own.span own.close few refl refl refl in
          let same : kept.Here own ≡ kept.Here figure = sym here ∙ is in
          digits few (ap low_at same) (ap high_at same) (eqb-false (bits / 2 ^ 90 / 2 ^ 36) 1 (ap close_at same ∙ amount.settled))
      by (inr far) =
          let apart : kept_of bits ordered ≡ kept.Apart (bits - 2 ^ 127) =
          ap (λ (b : Bool). if b then kept.Apart (bits - 2 ^ 127) else kept.Here own) (le-leb (2 ^ 127) bits far) in
          let clash : kept.Apart (bits - 2 ^ 127) ≡ kept.Here figure = sym apart ∙ is in
          absurd (cc)
