-- How figures are rounded outward to hundredths of what is told.
use Rattle.std.proofs.Common.{◌≡◌, ◌∙◌, ℕ, zero, suc, ◌<◌, ◌/◌, ℤ, pos, negsuc, neg_ℤ, ◌+ℤ◌, ◌-ℤ◌, ◌<ℤ◌, ◌≤ℤ◌, refl, ap, lit<, arith}
use Rattle.std.proofs.lemmas.Int.{ints}
use Rattle.std.proofs.lemmas.Nat.{div_below}
use Rattle.std.specs.Int.{int_div_euclid}
use Rattle.std.specs.Prelude.{int_div}
use Rattle.scr_num.specs.Rounding.{ceil_div, floor_div}
use Rattle.scr_figure_titles.specs.Units.{scale}
use Rattle.scr_figure_titles.specs.declared.unit.Unit.{Unit}
use Rattle.scr_figure_titles.specs.declared.unit.Unit.TheVariants as units

pub scale_positive : (unit : Unit) → 0 < scale unit
scale_positive units.Cents = lit< tt
scale_positive units.Grains = lit< tt
scale_positive units.Nanocents = lit< tt
scale_positive units.Attocents = lit< tt
scale_positive units.Millionth = lit< tt
scale_positive units.FineSquares = lit< tt
scale_positive units.GrainSquares = lit< tt
scale_positive units.Movements = lit< tt
scale_positive units.Lapses = lit< tt
scale_positive units.Bands = lit< tt

pub floor-is : (z : ℤ) (d : ℕ) → int_div_euclid z (pos d) ≡ floor_div z d
floor-is (pos n) d = refl
floor-is (negsuc n) d = refl

pub ceil-positive : (z : ℤ) (d : ℕ) → pos 0 <ℤ z → (int_div (z -ℤ pos 1) (pos d) +ℤ pos 1) ≡ ceil_div z d
ceil-positive (pos zero) d l = absurd (omega (arith, ints))
ceil-positive (pos (suc n)) d l =
    let less : (pos (suc n) -ℤ pos 1) ≡ pos n = omega (arith, ints) in
    let more : (pos (n / d) +ℤ pos 1) ≡ pos (suc (n / d)) = omega (arith, ints) in
    ap (λ (x : ℤ). int_div x (pos d) +ℤ pos 1) less ∙ more
ceil-positive (negsuc n) d l = absurd (omega (arith, ints))

-- nil has no other sign
nil : (n : ℕ) → n < 1 → pos n ≡ neg_ℤ (pos n)
nil n e = omega (arith, ints)

-- what is nil or less is not raised
pub ceil-other : (z : ℤ) (d : ℕ) → 0 < d → z ≤ℤ pos 0 → int_div z (pos d) ≡ ceil_div z d
ceil-other (pos zero) d h l = nil (0 / d) (div_below 0 d 1 h (omega arith))
ceil-other (pos (suc n)) d h l = absurd (omega (arith, ints))
ceil-other (negsuc n) d h l = refl
