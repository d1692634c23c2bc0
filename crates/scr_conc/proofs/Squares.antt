-- The squares of the requirements are exact, and the ends of the root of their sum enclose it.
use Rattle.std.proofs.Common.{◌≡◌, ℕ, ◌+◌, ◌-◌, ◌*◌, ◌^◌, ◌<◌, ◌≤◌, ℤ, pos, negsuc, ◌-ℤ◌, ◌*ℤ◌, List, [], ◌∷◌, map, sum_by, refl, sym, ap, ap₂, ◌∙◌, arith, lit<, mul-pos, mul-le-mul, le_of_mul-le-mul_right, lt_of_mul-lt-mul_right}
use Rattle.std.proofs.lemmas.Bool.{cond_both}
use Rattle.std.proofs.lemmas.Int.{ints}
use Rattle.std.proofs.lemmas.List.Sums.{sum_by-cons}
use Rattle.scr_num.specs.Fraction.{Fraction, over, whole, minus, product, square, is_less, zero_fraction}
use Rattle.scr_num.specs.Figure.{Figure, Frac, RootOf}
use Rattle.scr_num.specs.Rounding.{Ends, exact_ends, add_ends, root_ends}
use Rattle.scr_num.specs.Sums.{sum_ends, EncloseEach}
use Rattle.scr_num.specs.Amounts.{IsAmount}
use Rattle.scr_num.specs.Enclosure.{Encloses, Measures}
use Rattle.scr_num.proofs.AmountBounds.{is_amount, amount-scale}
use Rattle.scr_num.proofs.Roots.{ceil_root-least, roots-in-order}
use Rattle.scr_num.proofs.Enclosing.{Encloses-exact, Encloses-root_of, Encloses-divided, Encloses-same}
use Rattle.scr_num.proofs.SumLemmas.{Encloses-sum_fraction}
use Rattle.scr_conc.specs.Thresholds.{threshold_exact, factor_exact, threshold_units, factor_units}
use Rattle.scr_conc.specs.Concentration.{Exposure, excess_exact, requirement_exact, square_exact, squares_exact, concentration_figure}
use Rattle.scr_conc.specs.ConcentrationEnds.{requirement_units, square_units, exposure_square_units, squares_units, concentration_ends}
use Rattle.scr_conc.proofs.Table.{threshold-exact, factor-exact, charge-size}

-- ---- products of whole numbers of a finer unit
times_of : (a b pd qd u v : ℕ) (pn qn : ℤ) → 0 < u → 0 < v → pos a *ℤ pos pd ≡ pn *ℤ pos u
    → pos b *ℤ pos qd ≡ qn *ℤ pos v
    → pos (a * b) *ℤ pos (pd * qd) ≡ (pn *ℤ qn) *ℤ pos (u * v)
times_of a b pd qd u v (pos pn) (pos qn) h k e f =
    let first : a * pd ≡ pn * u = omega (arith, ints) in
    let second : b * qd ≡ qn * v = omega (arith, ints) in
    let both : a * pd * (b * qd) ≡ pn * u * (qn * v) = ap₂ ◌*◌ first second in
    omega (arith, ints, both)
times_of a b pd qd u v (negsuc pn) qn h k e f = absurd (omega (arith, ints))
times_of a b pd qd u v (pos pn) (negsuc qn) h k e f = absurd (omega (arith, ints))

Measures-product : (u v a b : ℕ) (p q : Fraction) → Measures u (pos a) p → Measures v (pos b) q
    → Measures (u * v) (pos (a * b)) (product p q)
Measures-product u v a b p q h k = record {
  positive = mul-pos h.positive k.positive;
  equal = times_of a b p.den q.den u v p.num q.num h.positive k.positive h.equal k.equal;
}

-- ---- the excess
cut_positive : (x b ct td n : ℕ) → ct * td ≡ n * 1000 → n * b < x * td
    → pos (1000 * x - ct * b) *ℤ pos td ≡ (pos (x * td) -ℤ pos (n * b)) *ℤ pos 1000
cut_positive x b ct td n e above =
    let same : ct * b * td ≡ n * b * 1000 = omega (arith, ap (λ (m : ℕ). m * b) e) in
    let more : ct * b * td < 1000 * x * td = omega arith in
    let order : ct * b < 1000 * x = lt_of_mul-lt-mul_right td more in
    let split : 1000 * x ≡ 1000 * x - ct * b + ct * b = omega arith in
    difference (1000 * x - ct * b) (ct * b) (x * td) (n * b) td (omega (arith, ap (λ (m : ℕ). m * td) split))
    (omega arith)
  where
    difference : (k c y z td : ℕ) → y * 1000 ≡ k * td + c * td → c * td ≡ z * 1000
        → pos k *ℤ pos td ≡ (pos y -ℤ pos z) *ℤ pos 1000
    difference k c y z td e f =
        let parts : pos y -ℤ pos z ≡ pos (y - z) = omega (arith, ints) in
        rw parts (omega (arith, ints))

cut_none : (x b ct td n : ℕ) → 0 < td → ct * td ≡ n * 1000 → x * td ≤ n * b → 1000 * x - ct * b ≡ 0
cut_none x b ct td n positive e below =
    let same : ct * b * td ≡ n * b * 1000 = omega (arith, ap (λ (m : ℕ). m * b) e) in
    let less : 1000 * x * td ≤ ct * b * td = omega arith in
    let order : 1000 * x ≤ ct * b = le_of_mul-le-mul_right less positive in
    omega arith

pub excess-exact : (base x ct : ℕ) (threshold : Fraction) → Measures 1000 (pos ct) threshold
    → Measures 1000 (pos (1000 * x - ct * base)) (excess_exact (whole (pos base)) (whole (pos x)) threshold)
excess-exact base x ct threshold h = of threshold.num threshold.den threshold.positive h.equal
  where
    of : (z : ℤ) (td : ℕ) (positive : 0 < td) → pos ct *ℤ pos td ≡ z *ℤ pos 1000
        → Measures 1000 (pos (1000 * x - ct * base))
        (excess_exact (whole (pos base)) (whole (pos x)) (over z td positive))
    of (negsuc n) td positive e = absurd (omega (arith, ints))
    of (pos n) td positive e =
        let d = minus (whole (pos x)) (product (over (pos n) td positive) (whole (pos base))) in
        let same : ct * td ≡ n * 1000 = omega (arith, ints) in
        cond_both (is_less zero_fraction d) d zero_fraction (λ p. Measures 1000 (pos (1000 * x - ct * base)) p)
        (λ less. let above : n * base < x * td = grind (arith, ints, less) in
        record {
          positive = lit< tt;
          equal = let cut = cut_positive x base ct td n same above in
              omega (arith, ints, cut);
        })
        (λ not_less. let below : x * td ≤ n * base = grind (arith, ints, not_less) in
        record {
          positive = lit< tt;
          equal = let none = cut_none x base ct td n positive same below in
              omega (arith, ints, none);
        })

-- ---- the square
pub square-exact : (base x ct g : ℕ) (threshold factor : Fraction) → Measures 1000 (pos ct) threshold
    → Measures 100 (pos g) factor
    → Measures 10000000000 (pos (square_units base x ct g))
    (square (requirement_exact (whole (pos base)) (whole (pos x)) threshold factor))
square-exact base x ct g threshold factor h k =
    let excess = excess_exact (whole (pos base)) (whole (pos x)) threshold in
    let units = requirement_units base x ct g in
    let requirement = Measures-product 1000 100 (1000 * x - ct * base) g excess factor
    (excess-exact base x ct threshold h) k in
    Measures-product 100000 100000 units units (product excess factor) (product excess factor) requirement requirement

pub square-none : (base ct g : ℕ) → square_units base 0 ct g ≡ 0
square-none base ct g = let none : requirement_units base 0 ct g ≡ 0 =
    zero_times (1000 * 0 - ct * base) g (omega arith) in rw none (omega arith)
  where
    zero_times : (m n : ℕ) → m ≡ 0 → m * n ≡ 0
    zero_times m n e = rw e (omega arith)

pub requirement-size : (base x ct g : ℕ) → g ≤ 73 → requirement_units base x ct g ≤ 73000 * x
requirement-size base x ct g few =
    let excess : 1000 * x - ct * base ≤ 1000 * x = omega arith in
    let units : requirement_units base x ct g ≤ 1000 * x * 73 = mul-le-mul excess few in
    omega arith

pub square-size : (base x ct g : ℕ) → g ≤ 73 → square_units base x ct g ≤ 73000 * x * (73000 * x)
square-size base x ct g few =
    let small = requirement-size base x ct g few in mul-le-mul small small

-- ---- the sum of all
abbrev exacts : ℕ → List Exposure → List Ends
exacts base exposures = map (λ (e : Exposure). exact_ends (pos (exposure_square_units base e))) exposures

each : (base : ℕ) (exposures : List Exposure) → EncloseEach 10000000000 (exacts base exposures)
    (map Frac (map (square_exact base) exposures))
each base [] = tt
each base (e ∷ rest) = (
  Encloses-exact 10000000000 (pos (exposure_square_units base e)) (square_exact base e)
      (square-exact base e.cents (threshold_units e.kind e.step) (factor_units e.kind e.step)
      (threshold_exact e.kind e.step) (factor_exact e.kind e.step)
      (threshold-exact e.kind e.step) (factor-exact e.kind e.step)),
  each base rest,
)

sum_is : (base : ℕ) (exposures : List Exposure) → sum_ends (exacts base exposures) ≡ exact_ends
    (pos (squares_units base exposures))
sum_is base [] = refl
sum_is base (e ∷ rest) =
    ap (add_ends (exact_ends (pos (exposure_square_units base e)))) (sum_is base rest)
    ∙ ap (λ (n : ℕ). exact_ends (pos n)) (sym (sum_by-cons (exposure_square_units base) e rest))

pub squares-enclosed : (base : ℕ) (exposures : List Exposure)
    → let sum = squares_units base exposures in Encloses 10000000000 (pos sum) (pos sum)
    (Frac (squares_exact base exposures))
squares-enclosed base exposures =
    let is = sum_is base exposures in
    Encloses-same 10000000000 _ _ _ _ _ (sym (ap (λ (x : Ends). x.low) is)) (sym (ap (λ (x : Ends). x.high) is))
    (Encloses-sum_fraction 10000000000 (lit< tt) (exacts base exposures) (map (square_exact base) exposures)
    (each base exposures))

-- ---- the root
pub root-encloses : (sum : ℕ) (figure : Figure) → Encloses 10000000000 (pos sum) (pos sum) figure
    → let e = concentration_ends sum in Encloses 1000 e.low e.high (RootOf figure)
root-encloses sum figure h =
    Encloses-divided 1000 100 (root_ends (exact_ends (pos sum))) (RootOf figure) (lit< tt)
    (Encloses-root_of 100000 (pos sum) (pos sum) figure h)

pub concentration-encloses : (base : ℕ) (exposures : List Exposure)
    → let e = concentration_ends (squares_units base exposures) in
    Encloses 1000 e.low e.high (concentration_figure base exposures)
concentration-encloses base exposures =
    root-encloses (squares_units base exposures) (Frac (squares_exact base exposures)) (squares-enclosed base exposures)

-- ---- how large they are
squares-le : (base : ℕ) (exposures : List Exposure)
    → let all = 73000 * sum_by (λ (e : Exposure). e.cents) exposures in squares_units base exposures ≤ all * all
squares-le base [] = omega arith
squares-le base (e ∷ rest) =
    let one = square-size base e.cents (threshold_units e.kind e.step) (factor_units e.kind e.step)
    (charge-size e.kind e.step) in
    let others = squares-le base rest in
    rw (sum_by-cons (exposure_square_units base) e rest, sum_by-cons (λ (x : Exposure). x.cents) e rest) (omega arith)

pub squares-size : (base : ℕ) (exposures : List Exposure)
    → sum_by (λ (e : Exposure). e.cents) exposures ≤ 50000000000000
    → squares_units base exposures ≤ 14 * 10 ^ 36
squares-size base exposures few =
    let all : 73000 * sum_by (λ (e : Exposure). e.cents) exposures ≤ 3650000000000000000 = omega arith in
    omega (arith, squares-le base exposures, mul-le-mul all all)

pub root-size : (sum : ℕ) → sum ≤ 14 * 10 ^ 36 → IsAmount (38 * 10 ^ 15) (concentration_ends sum)
root-size sum few =
    amount-scale (38 * 10 ^ 17) (38 * 10 ^ 15) 1 100 (root_ends (exact_ends (pos sum))) (lit< tt) (omega arith)
    (is_amount (38 * 10 ^ 17) (root_ends (exact_ends (pos sum))) (omega (arith, ints))
    (omega (arith, ints, roots-in-order sum sum (omega arith)))
    (omega (arith, ints, ceil_root-least sum (38 * 10 ^ 17) (omega arith))))
