-- Sums by maturity and sums payment by payment have one value.
use Rattle.std.proofs.Common.{◌≡◌, ℕ, zero, suc, ◌+◌, ◌*◌, ◌<◌, ◌≤◌, Bool, true, false, inl, inr, refl, ap, sym, List, [], ◌∷◌, map, ℤ, pos, ◌+ℤ◌, ◌*ℤ◌, eq-eqb, arith, nat_le}
use Rattle.std.specs.Prelude.{int_le, if◌then◌else◌}
use Rattle.std.specs.List.{range_with_len}
use Rattle.std.proofs.lemmas.Int.{ints}
use Rattle.std.proofs.lemmas.Bool.{cases_eq, ne_eqb}
use Rattle.std.proofs.lemmas.Bool.Decides.{nat_tests}
use borrow.Author.Differences.{up, down}
use Rattle.scr_num.specs.Fraction.{Fraction, over, whole, zero_fraction, plus, product}
use Rattle.scr_num.specs.Figure.{Frac, AtMost}
use Rattle.scr_num.specs.Enclosure.{Encloses}
use Rattle.scr_num.proofs.Fractions.{≼_refl, ≼_trans, plus_mono, over-plus_le, over-plus_ge, times_split}
use Rattle.scr_dates.specs.declared.{day.Day.Day, term.Maturity.Maturity}
use Rattle.scr_dates.specs.declared.term.Maturity.TheVariants.{Past, Years, TooFar}
use Rattle.scr_dates.specs.Years.{maturity_of, years_to, least_from}
use Rattle.scr_num.specs.Sums.{Equals, weighted_sum}
use Rattle.scr_flow.specs.Due.{amount_at, due_in, dues, AreNear}
use Rattle.scr_flow.specs.Payments.{worth_at, payments_exact}

-- ---- fractions of one value
one-same : (p q : Fraction) → p.num ≡ q.num → p.den ≡ q.den → Equals p q
one-same p q e f = record { below = ≼_refl p q e f; above = ≼_refl q p (sym e) (sym f) }

one-trans : (p q r : Fraction) → Equals p q → Equals q r → Equals p r
one-trans p q r h k = record { below = ≼_trans p q r h.below k.below; above = ≼_trans r q p k.above h.above }

one-plus : (p p' q q' : Fraction) → Equals p p' → Equals q q' → Equals (plus p q) (plus p' q')
one-plus p p' q q' h k = record { below = plus_mono p p' q q' h.below k.below; above = plus_mono p' p q' q h.above k.above }

pub Encloses-one : (unit : ℕ) (low high : ℤ) (p q : Fraction) → Equals p q → Encloses unit low high (Frac p) → Encloses unit low high (Frac q)
unfolding AtMost
Encloses-one unit low high p q h k = record {
  positive = k.positive;
  at_most = ≼_trans (over low unit k.positive) p q k.at_most h.below;
  at_least = ≼_trans q p (over high unit k.positive) h.above k.at_least;
}

-- nothing, and a sum with nothing
product-none : (p : Fraction) → Equals (product (whole (pos 0)) p) zero_fraction
product-none p = record { below = record { cross = omega (arith, ints) }; above = record { cross = omega (arith, ints) } }

plus-none : (p : Fraction) → Equals (plus zero_fraction p) p
plus-none p = one-same (plus zero_fraction p) p (omega (arith, ints)) (omega arith)

none-plus : (p : Fraction) → Equals (plus p zero_fraction) p
none-plus p = one-same (plus p zero_fraction) p (omega (arith, ints)) (omega arith)

-- sums of four in another order
plus-crossed : (a b c d : Fraction) → Equals (plus (plus a b) (plus c d)) (plus (plus a c) (plus b d))
plus-crossed a b c d =
    one-same (plus (plus a b) (plus c d)) (plus (plus a c) (plus b d)) (nums a.num b.num c.num d.num a.den b.den c.den d.den) (omega arith)
  where
    nums : (a b c d : ℤ) (m n o p : ℕ)
        → (a *ℤ pos n +ℤ b *ℤ pos m) *ℤ pos (o * p) +ℤ (c *ℤ pos p +ℤ d *ℤ pos o) *ℤ pos (m * n)
        ≡ (a *ℤ pos o +ℤ c *ℤ pos m) *ℤ pos (n * p) +ℤ (b *ℤ pos p +ℤ d *ℤ pos n) *ℤ pos (m * o)
    nums a b c d m n o p =
        let ab = times_split (a *ℤ pos n +ℤ b *ℤ pos m) (up a * n + up b * m) (down a * n + down b * m) (o * p) (omega (arith, ints)) in
        let cd = times_split (c *ℤ pos p +ℤ d *ℤ pos o) (up c * p + up d * o) (down c * p + down d * o) (m * n) (omega (arith, ints)) in
        let ac = times_split (a *ℤ pos o +ℤ c *ℤ pos m) (up a * o + up c * m) (down a * o + down c * m) (n * p) (omega (arith, ints)) in
        let bd = times_split (b *ℤ pos p +ℤ d *ℤ pos n) (up b * p + up d * n) (down b * p + down d * n) (m * o) (omega (arith, ints)) in
        omega (arith, ints, ab, cd, ac, bd)

-- a product with a difference of natural numbers
product-split : (z w : ℤ) (u d : ℕ) → up z + d ≡ u + down z → up (z *ℤ w) + (d * up w + u * down w) ≡ (u * up w + d * down w) + down (z *ℤ w)
product-split z w u d h =
    let e : (up z + d) * up w ≡ (u + down z) * up w = ap (λ (x : ℕ). x * up w) h in
    let f : (up z + d) * down w ≡ (u + down z) * down w = ap (λ (x : ℕ). x * down w) h in
    omega (arith, ints, e, f)

pub sum-times : (a b w : ℤ) → (a +ℤ b) *ℤ w ≡ a *ℤ w +ℤ b *ℤ w
sum-times a b w = let s = product-split (a +ℤ b) w (up a + up b) (down a + down b) (omega (arith, ints)) in omega (arith, ints, s)

-- a sum of amounts times a fraction
product-plus : (a b : ℤ) (p : Fraction) → Equals (product (whole (a +ℤ b)) p) (plus (product (whole a) p) (product (whole b) p))
product-plus a b p =
    let d = 1 * p.den in
    let positive = (product (whole a) p).positive in
    let sum = over (a *ℤ p.num +ℤ b *ℤ p.num) d positive in
    let split = one-same (product (whole (a +ℤ b)) p) sum (sum-times a b p.num) refl in
    let parts : Equals sum (plus (product (whole a) p) (product (whole b) p)) =
    record { below = over-plus_le (a *ℤ p.num) (b *ℤ p.num) d positive positive positive; above = over-plus_ge (a *ℤ p.num) (b *ℤ p.num) d positive positive positive } in
    one-trans _ sum _ split parts

module _ (worth : ℕ → Fraction) where
  abbrev along : (ℕ → ℤ) → ℕ → ℕ → Fraction
  along f first n = weighted_sum worth first (map f (range_with_len first n))

  -- a sum of two amounts each year
  along-plus : (f g : ℕ → ℤ) (first n : ℕ) → Equals (along (λ k. f k +ℤ g k) first n) (plus (along f first n) (along g first n))
  unfolding weighted_sum
  along-plus f g first zero = one-same zero_fraction (plus zero_fraction zero_fraction) refl refl
  along-plus f g first (suc n) =
      let w = worth first in
      let a = product (whole (f first)) w in
      let b = product (whole (g first)) w in
      one-trans _ (plus (plus a b) (plus (along f (first + 1) n) (along g (first + 1) n))) _
      (one-plus _ (plus a b) _ _ (product-plus (f first) (g first) w) (along-plus f g (first + 1) n))
      (plus-crossed a b (along f (first + 1) n) (along g (first + 1) n))

  -- nothing in any year
  along-none : (f : ℕ → ℤ) (first n : ℕ) → ((k : ℕ) → first ≤ k → f k ≡ pos 0) → Equals (along f first n) zero_fraction
  unfolding weighted_sum
  along-none f first zero none = one-same zero_fraction zero_fraction refl refl
  along-none f first (suc n) none =
      let here : Equals (product (whole (f first)) (worth first)) zero_fraction = rw (none first (omega arith)) (product-none (worth first)) in
      one-trans _ (plus zero_fraction zero_fraction) _
      (one-plus _ zero_fraction _ zero_fraction here (along-none f (first + 1) n (λ k le. none k (omega (arith, le)))))
      (one-same (plus zero_fraction zero_fraction) zero_fraction refl refl)

  -- one amount in one of the years
  along-one : (f : ℕ → ℤ) (amount : ℤ) (year first n : ℕ) → f year ≡ amount → ((k : ℕ) → (k ≡ year → ⊥) → f k ≡ pos 0) → first ≤ year → year < first + n
      → Equals (along f first n) (product (whole amount) (worth year))
  unfolding weighted_sum
  along-one f amount year first zero is others from to = absurd (omega (arith, from, to))
  along-one f amount year first (suc n) is others from to =
      elim (cases_eq first year) [
        | inl same ↦
            let here : product (whole (f first)) (worth first) ≡ product (whole amount) (worth year) = rw (same, is) refl in
            one-trans _ (plus (product (whole amount) (worth year)) zero_fraction) _
            (one-plus _ (product (whole amount) (worth year)) _ zero_fraction (one-of here)
            (along-none f (first + 1) n (λ k le. others k (λ e. absurd (omega (arith, le, e, same))))))
            (none-plus (product (whole amount) (worth year)))
        | inr other ↦
            let none : Equals (product (whole (f first)) (worth first)) zero_fraction = rw (others first other) (product-none (worth first)) in
            one-trans _ (plus zero_fraction (product (whole amount) (worth year))) _
            (one-plus _ zero_fraction _ (product (whole amount) (worth year)) none
            (along-one f amount year (first + 1) n is others (omega (arith, from, other)) (omega (arith, to))))
            (plus-none (product (whole amount) (worth year)))
      ]
    where
      one-of : {p q : Fraction} → p ≡ q → Equals p q
      one-of {p} {q} e = one-same p q (ap (λ (x : Fraction). x.num) e) (ap (λ (x : Fraction). x.den) e)

  -- ---- one payment
  pub at-maturity : (m : Maturity) (amount : ℤ) → ((years : ℕ) → m ≡ TooFar years → ⊥) → ((n : ℕ) → m ≡ Years n → (1 ≤ n) × (n ≤ 100))
      → Equals (along (λ years. amount_at years m amount) 1 100) (product (whole amount) (worth_at worth m))
  at-maturity Past amount near within =
      one-trans _ zero_fraction _ (along-none (λ years. pos 0) 1 100 (λ k le. refl)) (nothing amount)
    where
      nothing : (amount : ℤ) → Equals zero_fraction (product (whole amount) zero_fraction)
      nothing amount = record { below = record { cross = omega (arith, ints) }; above = record { cross = omega (arith, ints) } }
  at-maturity (Years n) amount near within =
      along-one (λ years. amount_at years (Years n) amount) amount n 1 100 (rw (eq-eqb n n refl) refl) (λ k other. rw (ne_eqb n k (λ e. other (sym e))) refl)
      (within n refl).0 (omega (arith, (within n refl).1))
  at-maturity (TooFar n) amount near within = absurd (near n refl)

-- ---- a maturity is of 1 to 100 years
least-above : (test : ℕ → Bool) (more n : ℕ) → n ≤ least_from test more n
unfolding least_from
least-above test zero n = omega arith
least-above test (suc more) n = by (test n) (least-above test more (n + 1))
  where
    by : (b : Bool) → n + 1 ≤ least_from test more (n + 1) → n ≤ (if b then n else least_from test more (n + 1))
    by true h = omega arith
    by false h = omega (arith, h)

years-above : (asof pay : ℤ) → 1 ≤ years_to asof pay
unfolding years_to
years-above asof pay = least-above _ _ 1

pub years-within : (asof pay : ℤ) (n : ℕ) → maturity_of asof pay ≡ Years n → (1 ≤ n) × (n ≤ 100)
years-within asof pay n e = by (int_le pay asof) (nat_le (years_to asof pay) 100) (years_to asof pay) refl (years-above asof pay) n e
  where
    by : (past within : Bool) (years : ℕ) → nat_le years 100 ≡ within → 1 ≤ years → (n : ℕ)
        → (if past then Past else (if within then Years years else TooFar years)) ≡ Years n → (1 ≤ n) × (n ≤ 100)
    by true within years test least n e = cc
    by false true years test least n e =
        let same : years ≡ n = cc in
        let le : years ≤ 100 = grind (arith, nat_tests) in
        (omega (arith, same, least), omega (arith, same, le))
    by false false years test least n e = cc

-- ---- all payments
pub by-maturity : (worth : ℕ → Fraction) (asof : ℤ) (payments : List (Day × ℤ)) → AreNear asof payments
    → Equals (weighted_sum worth 1 (dues asof payments)) (payments_exact worth asof payments)
unfolding due_in payments_exact
by-maturity worth asof [] near = along-none worth (λ years. pos 0) 1 100 (λ k le. refl)
by-maturity worth asof (p ∷ payments) near =
    let m = maturity_of asof p.0.number in
    let here = product (whole p.1) (worth_at worth m) in
    one-trans _ (plus (along worth (λ years. amount_at years m p.1) 1 100) (along worth (due_in asof payments) 1 100)) _
    (along-plus worth (λ years. amount_at years m p.1) (due_in asof payments) 1 100)
    (one-plus _ here _ (payments_exact worth asof payments)
    (at-maturity worth m p.1 (near 0 p (omega arith)) (years-within asof p.0.number))
    (by-maturity worth asof payments (λ k d within. near (suc k) d (omega (arith, within)))))
