-- Sums of any number: their ends enclose them, and their parts may be grouped in any way.
use Rattle.std.proofs.Common.{◌≡◌, ℕ, ◌+◌, ◌<◌, ◌≤◌, ℤ, pos, ◌+ℤ◌, ◌≤ℤ◌, List, [], ◌∷◌, ◌++◌, map, sum_by, unsigned_abs, refl, sym, ap, ◌∙◌, arith}
use Rattle.std.specs.List.{AllByRecursion, flat_map}
use Rattle.std.proofs.lemmas.Int.{ints}
use Rattle.std.proofs.lemmas.List.Concat.{flat_map-cons}
use Rattle.std.proofs.lemmas.List.Sums.{sum_by-cons}
use Rattle.scr_num.specs.Fraction.{Fraction, zero_fraction}
use Rattle.scr_num.specs.Figure.{Figure, Frac, Max}
use Rattle.scr_num.specs.Rounding.{Ends, exact_ends, add_ends, max_ends}
use Rattle.scr_num.specs.Sizes.{IsWithin, AreTogether}
use Rattle.scr_num.specs.Enclosure.{Encloses, EncloseAll}
use Rattle.scr_num.specs.Sums.{sum_fraction, sum_figure, sum_ends, parts_of, EncloseEach}
use Rattle.scr_num.proofs.AddedEnds.{same_ends, add_ends-assoc, zero-add_ends}
use Rattle.scr_num.proofs.Enclosing.{Encloses-exact, Encloses-add, Encloses-plus, Encloses-max}

pub Encloses-zero : (unit : ℕ) → 0 < unit → Encloses unit (pos 0) (pos 0) (Frac zero_fraction)
Encloses-zero unit positive = Encloses-exact unit (pos 0) zero_fraction
    (record { positive = positive; equal = omega (arith, ints) })

-- the greater of 0 and a figure
pub Encloses-cut_first : (unit : ℕ) (e : Ends) (f : Figure) → Encloses unit e.low e.high f
    → let cut = max_ends (exact_ends (pos 0)) e in Encloses unit cut.low cut.high (Max (Frac zero_fraction) f)
Encloses-cut_first unit e f h = Encloses-max unit (pos 0) (pos 0) e.low e.high (Frac zero_fraction) f
    (Encloses-zero unit h.positive) h

pub Encloses-cut_last : (unit : ℕ) (e : Ends) (f : Figure) → Encloses unit e.low e.high f
    → let cut = max_ends e (exact_ends (pos 0)) in Encloses unit cut.low cut.high (Max f (Frac zero_fraction))
Encloses-cut_last unit e f h = Encloses-max unit e.low e.high (pos 0) (pos 0) f (Frac zero_fraction) h
    (Encloses-zero unit h.positive)

-- ---- sums
pub Encloses-sum : (unit : ℕ) → 0 < unit → (es : List Ends) (fs : List Figure) → EncloseEach unit es fs
    → Encloses unit (sum_ends es).low (sum_ends es).high (sum_figure fs)
Encloses-sum unit positive [] [] h = Encloses-zero unit positive
Encloses-sum unit positive [] (f ∷ fs) h = absurd h
Encloses-sum unit positive (e ∷ es) [] h = absurd h
Encloses-sum unit positive (e ∷ es) (f ∷ fs) h =
    let rest = sum_ends es in
    Encloses-add unit e.low e.high rest.low rest.high f (sum_figure fs) h.0 (Encloses-sum unit positive es fs h.1)

pub Encloses-sum_fraction : (unit : ℕ) → 0 < unit → (es : List Ends) (ps : List Fraction)
    → EncloseEach unit es (map Frac ps)
    → Encloses unit (sum_ends es).low (sum_ends es).high (Frac (sum_fraction ps))
Encloses-sum_fraction unit positive [] [] h = Encloses-zero unit positive
Encloses-sum_fraction unit positive [] (p ∷ ps) h = absurd h
Encloses-sum_fraction unit positive (e ∷ es) [] h = absurd h
Encloses-sum_fraction unit positive (e ∷ es) (p ∷ ps) h =
    let rest = sum_ends es in
    let all = sum_ends (e ∷ es) in
    Encloses-plus unit all.low all.high p (sum_fraction ps)
    (Encloses-add unit e.low e.high rest.low rest.high (Frac p) (Frac (sum_fraction ps)) h.0
    (Encloses-sum_fraction unit positive es ps h.1))

pub parts-enclosed : (unit : ℕ) (es : List Ends) (fs : List Figure) → AllByRecursion (λ e. pos 0 ≤ℤ e.low) es
    → EncloseEach unit es fs
    → EncloseAll unit es (parts_of fs)
parts-enclosed unit [] [] h k = tt
parts-enclosed unit [] (f ∷ fs) h k = absurd k
parts-enclosed unit (e ∷ es) [] h k = absurd k
parts-enclosed unit (e ∷ es) (f ∷ fs) h k = (h.0, k.0, parts-enclosed unit es fs h.1 k.1)

-- ---- grouping and order
pub sum_ends-append : (xs ys : List Ends) → sum_ends (xs ++ ys) ≡ add_ends (sum_ends xs) (sum_ends ys)
sum_ends-append [] ys = sym (zero-add_ends (sum_ends ys))
sum_ends-append (x ∷ xs) ys = ap (add_ends x) (sum_ends-append xs ys)
    ∙ sym (add_ends-assoc x (sum_ends xs) (sum_ends ys))

pub sum_ends-flat_map : {X : Type 0} (group : X → List Ends) (xs : List X)
    → sum_ends (flat_map group xs) ≡ sum_ends (map (λ x. sum_ends (group x)) xs)
sum_ends-flat_map group [] = refl
sum_ends-flat_map group (x ∷ xs) =
    ap sum_ends (flat_map-cons group x xs) ∙ sum_ends-append (group x) (flat_map group xs)
    ∙ ap (add_ends (sum_ends (group x))) (sum_ends-flat_map group xs)

pub add_ends-swap : (a b : Ends) → add_ends a b ≡ add_ends b a
add_ends-swap a b = same_ends _ _ _ _ (swap a.low b.low) (swap a.high b.high)
  where
    swap : (x y : ℤ) → x +ℤ y ≡ y +ℤ x
    swap x y = omega (arith, ints)

pub sum_ends-swap : (xs ys : List Ends) → sum_ends (xs ++ ys) ≡ sum_ends (ys ++ xs)
sum_ends-swap xs ys = sum_ends-append xs ys ∙ add_ends-swap (sum_ends xs) (sum_ends ys) ∙ sym (sum_ends-append ys xs)

-- ---- sizes
pub abs-add : (a b : ℤ) → unsigned_abs (a +ℤ b) ≤ unsigned_abs a + unsigned_abs b
abs-add a b = omega (arith, ints)

pub sum_ends-low_size : (es : List Ends) → unsigned_abs (sum_ends es).low ≤ sum_by (λ (e : Ends). unsigned_abs e.low) es
sum_ends-low_size [] = omega (arith, ints)
sum_ends-low_size (e ∷ es) =
    omega (
      arith,
      abs-add e.low (sum_ends es).low,
      sum_ends-low_size es,
      sum_by-cons (λ (x : Ends). unsigned_abs x.low) e es,
    )

pub sum_ends-high_size : (es : List Ends)
    → unsigned_abs (sum_ends es).high ≤ sum_by (λ (e : Ends). unsigned_abs e.high) es
sum_ends-high_size [] = omega (arith, ints)
sum_ends-high_size (e ∷ es) =
    omega (
      arith,
      abs-add e.high (sum_ends es).high,
      sum_ends-high_size es,
      sum_by-cons (λ (x : Ends). unsigned_abs x.high) e es,
    )

pub sum_ends-within : (most : ℕ) (es : List Ends) → AreTogether most es → IsWithin most (sum_ends es)
sum_ends-within most es h = record {
  low = omega (arith, sum_ends-low_size es, h.lows);
  high = omega (arith, sum_ends-high_size es, h.highs);
}
