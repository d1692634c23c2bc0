-- What is left of an amount after an absorption.
use Rattle.std.proofs.Common.{ℕ, ◌*◌, pos, ◌-ℤ◌, ap, arith, lit<}
use Rattle.std.proofs.lemmas.Int.{ints}
use Rattle.scr_num.specs.Fraction.{zero_fraction, whole}
use Rattle.scr_num.specs.Figure.{Figure, Frac, Diff}
use Rattle.scr_num.specs.Rounding.{Ends}
use Rattle.scr_num.specs.Enclosure.{Encloses}
use Rattle.scr_num.proofs.Enclosing.{Encloses-exact, Encloses-sub, Encloses-max}
use Rattle.scr_agg.specs.Absorbed.{net_figure, net_ends}

-- cents in grains
cents : (n : ℕ) → Encloses 1000 (pos (1000 * n)) (pos (1000 * n)) (Frac (whole (pos n)))
cents n = Encloses-exact 1000 (pos (1000 * n)) (whole (pos n))
    (record { positive = lit< tt; equal = ap pos (omega arith) })

nothing : Encloses 1000 (pos 0) (pos 0) (Frac zero_fraction)
nothing = Encloses-exact 1000 (pos 0) zero_fraction (record { positive = lit< tt; equal = omega (arith, ints) })

pub Encloses-net : (gross : Ends) (absorb : ℕ) (figure : Figure) → Encloses 1000 gross.low gross.high figure
    → Encloses 1000 (net_ends gross absorb).low (net_ends gross absorb).high (net_figure figure absorb)
Encloses-net gross absorb figure h =
    Encloses-max 1000 (pos 0) (pos 0) (gross.low -ℤ pos (1000 * absorb)) (gross.high -ℤ pos (1000 * absorb))
    (Frac zero_fraction) (Diff figure (Frac (whole (pos absorb)))) nothing
    (Encloses-sub 1000 gross.low gross.high (pos (1000 * absorb)) (pos (1000 * absorb)) figure
    (Frac (whole (pos absorb))) h (cents absorb))
