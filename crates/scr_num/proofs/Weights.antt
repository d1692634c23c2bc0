-- Sums of differences are differences of sums.
use Rattle.std.proofs.Common.{◌≡◌, ℕ, ◌+◌, ◌*◌, ℤ, pos, ◌+ℤ◌, ◌-ℤ◌, ◌*ℤ◌, List, [], ◌∷◌, map, refl, ap, arith}
use Rattle.std.proofs.lemmas.Int.{ints}
use Rattle.std.specs.Int.Signed.{≤ℤ_refl}
use Rattle.scr_num.specs.Fraction.{Fraction, over, whole, zero_fraction, plus, minus, product}
use Rattle.scr_num.specs.Figure.{Frac, AtMost}
use Rattle.scr_num.specs.Enclosure.{Encloses}
use Rattle.scr_num.specs.Sums.{Equals, weighted_sum}
use Rattle.scr_num.proofs.Fractions.{≼_trans, ≼-by, plus_mono, times_split}
use borrow.Author.Differences.{up, down}

pub equals : (p q : Fraction) → p.num *ℤ pos q.den ≡ q.num *ℤ pos p.den → Equals p q
equals p q e = record {
  below = record { cross = rw e (≤ℤ_refl (q.num *ℤ pos p.den)) };
  above = record { cross = rw (← e) (≤ℤ_refl (p.num *ℤ pos q.den)) };
}

pub Equals-trans : (p q r : Fraction) → Equals p q → Equals q r → Equals p r
Equals-trans p q r h k = record { below = ≼_trans p q r h.below k.below; above = ≼_trans r q p k.above h.above }

pub Equals-plus : (p p' q q' : Fraction) → Equals p p' → Equals q q' → Equals (plus p q) (plus p' q')
Equals-plus p p' q q' h k =
    record { below = plus_mono p p' q q' h.below k.below; above = plus_mono p' p q' q h.above k.above }

pub Encloses-equal : (unit : ℕ) (low high : ℤ) (p q : Fraction) → Equals p q → Encloses unit low high (Frac p)
    → Encloses unit low high (Frac q)
unfolding AtMost
Encloses-equal unit low high p q e h = record {
  positive = h.positive;
  at_most = ≼_trans (over low unit h.positive) p q h.at_most e.below;
  at_least = ≼_trans q p (over high unit h.positive) e.above h.at_least;
}

-- ---- by natural numbers, with each numerator as a difference
equals_by : (p q : Fraction) (pu pd qu qd : ℕ) → up p.num + pd ≡ pu + down p.num → up q.num + qd ≡ qu + down q.num
    → pu * q.den + qd * p.den ≡ qu * p.den + pd * q.den → Equals p q
equals_by p q pu pd qu qd e f same = record {
  below = ≼-by p q pu pd qu qd e f (omega (arith, same));
  above = ≼-by q p qu qd pu pd f e (omega (arith, same));
}

product_split : (a w : ℤ) (u d : ℕ) → up w + d ≡ u + down w
    → up (a *ℤ w) + (up a * d + down a * u) ≡ (up a * u + down a * d) + down (a *ℤ w)
product_split a w u d h =
    let above : up a * (up w + d) ≡ up a * (u + down w) = ap (λ (x : ℕ). up a * x) h in
    let below : down a * (up w + d) ≡ down a * (u + down w) = ap (λ (x : ℕ). down a * x) h in
    omega (arith, ints, above, below)

-- the difference of two numerators over their product of denominators
minus_split : (x y : ℤ) (xd yd xu xw yu yw : ℕ) → up x + xw ≡ xu + down x → up y + yw ≡ yu + down y
    → up (x *ℤ pos yd -ℤ y *ℤ pos xd) + (xw * yd + yu * xd) ≡ (xu * yd + yw * xd) + down (x *ℤ pos yd -ℤ y *ℤ pos xd)
minus_split x y xd yd xu xw yu yw h k = omega (arith, ints, times_split x xu xw yd h, times_split y yu yw xd k)

plus_split : (x y : ℤ) (xd yd xu xw yu yw : ℕ) → up x + xw ≡ xu + down x → up y + yw ≡ yu + down y
    → up (x *ℤ pos yd +ℤ y *ℤ pos xd) + (xw * yd + yw * xd) ≡ (xu * yd + yu * xd) + down (x *ℤ pos yd +ℤ y *ℤ pos xd)
plus_split x y xd yd xu xw yu yw h k = omega (arith, ints, times_split x xu xw yd h, times_split y yu yw xd k)

itself : (z : ℤ) → up z + down z ≡ up z + down z
itself z = refl

-- a product with a difference
worth_differs : (amount : ℤ) (p q : Fraction)
    → Equals (product (whole amount) (minus p q)) (minus (product (whole amount) p) (product (whole amount) q))
worth_differs amount p q =
    let a = up amount in
    let b = down amount in
    equals_by (product (whole amount) (minus p q)) (minus (product (whole amount) p) (product (whole amount) q)) _ _ _ _
    (product_split amount (p.num *ℤ pos q.den -ℤ q.num *ℤ pos p.den) _ _
    (minus_split p.num q.num p.den q.den _ _ _ _ (itself p.num) (itself q.num)))
    (minus_split (amount *ℤ p.num) (amount *ℤ q.num) (1 * p.den) (1 * q.den) _ _ _ _
    (product_split amount p.num _ _ (itself p.num)) (product_split amount q.num _ _ (itself q.num)))
    (omega arith)

amount_differs : (a b : ℤ) (p : Fraction)
    → Equals (product (whole (a -ℤ b)) p) (minus (product (whole a) p) (product (whole b) p))
amount_differs a b p =
    equals_by (product (whole (a -ℤ b)) p) (minus (product (whole a) p) (product (whole b) p))
    (up (a -ℤ b) * up p.num + down (a -ℤ b) * down p.num) _ _ _
    (product_split (a -ℤ b) p.num _ _ (itself p.num))
    (minus_split (a *ℤ p.num) (b *ℤ p.num) (1 * p.den) (1 * p.den) _ _ _ _
    (product_split a p.num _ _ (itself p.num)) (product_split b p.num _ _ (itself p.num)))
    (of_parts (up (a -ℤ b)) (down (a -ℤ b)) (up a) (down a) (up b) (down b) (up p.num) (down p.num) p.den
    (omega (arith, ints)))
  where
    of_parts : (u d au ad bu bd pu pd den : ℕ) → u + ad + bu ≡ au + bd + d
        → (u * pu + d * pd) * (1 * den * (1 * den))
        + ((au * pd + ad * pu) * (1 * den) + (bu * pu + bd * pd) * (1 * den)) * (1 * den)
        ≡ ((au * pu + ad * pd) * (1 * den) + (bu * pd + bd * pu) * (1 * den)) * (1 * den) + (u * pd + d * pu)
        * (1 * den * (1 * den))
    of_parts u d au ad bu bd pu pd den h =
        let above : (u + ad + bu) * (pu * (den * den)) ≡ (au + bd + d) * (pu * (den * den)) =
        ap (λ (x : ℕ). x * (pu * (den * den))) h in
        let below : (u + ad + bu) * (pd * (den * den)) ≡ (au + bd + d) * (pd * (den * den)) =
        ap (λ (x : ℕ). x * (pd * (den * den))) h in
        omega (arith, above, below)

sum_differs : (a b x y : Fraction) → Equals (plus (minus a b) (minus x y)) (minus (plus a x) (plus b y))
sum_differs a b x y =
    equals_by (plus (minus a b) (minus x y)) (minus (plus a x) (plus b y)) _ _ _ _
    (plus_split (a.num *ℤ pos b.den -ℤ b.num *ℤ pos a.den) (x.num *ℤ pos y.den -ℤ y.num *ℤ pos x.den) (a.den * b.den)
    (x.den * y.den) _ _ _ _
    (minus_split a.num b.num a.den b.den _ _ _ _ (itself a.num) (itself b.num))
    (minus_split x.num y.num x.den y.den _ _ _ _ (itself x.num) (itself y.num)))
    (minus_split (a.num *ℤ pos x.den +ℤ x.num *ℤ pos a.den) (b.num *ℤ pos y.den +ℤ y.num *ℤ pos b.den) (a.den * x.den)
    (b.den * y.den) _ _ _ _
    (plus_split a.num x.num a.den x.den _ _ _ _ (itself a.num) (itself x.num))
    (plus_split b.num y.num b.den y.den _ _ _ _ (itself b.num) (itself y.num)))
    (omega arith)

none_differs : Equals zero_fraction (minus zero_fraction zero_fraction)
none_differs = equals _ _ refl

next : (p a b q x y : Fraction) → Equals p (minus a b) → Equals q (minus x y)
    → Equals (plus p q) (minus (plus a x) (plus b y))
next p a b q x y h k =
    Equals-trans (plus p q) (plus (minus a b) (minus x y)) (minus (plus a x) (plus b y))
    (Equals-plus p (minus a b) q (minus x y) h k) (sum_differs a b x y)

pub worths-differ : (before after : ℕ → Fraction) (place : ℕ) (amounts : List ℤ)
    → Equals (weighted_sum (λ k. minus (before k) (after k)) place amounts)
    (minus (weighted_sum before place amounts) (weighted_sum after place amounts))
unfolding weighted_sum
worths-differ before after place [] = none_differs
worths-differ before after place (x ∷ xs) =
    next _ (product (whole x) (before place)) (product (whole x) (after place)) _ (weighted_sum before (place + 1) xs)
    (weighted_sum after (place + 1) xs)
    (worth_differs x (before place) (after place)) (worths-differ before after (place + 1) xs)

pub amounts-differ : {X : Type 0} (worth : ℕ → Fraction) (a b : X → ℤ) (place : ℕ) (xs : List X)
    → Equals (weighted_sum worth place (map (λ x. a x -ℤ b x) xs))
    (minus (weighted_sum worth place (map a xs)) (weighted_sum worth place (map b xs)))
unfolding weighted_sum
amounts-differ worth a b place [] = none_differs
amounts-differ worth a b place (x ∷ xs) =
    next _ (product (whole (a x)) (worth place)) (product (whole (b x)) (worth place)) _
    (weighted_sum worth (place + 1) (map a xs)) (weighted_sum worth (place + 1) (map b xs))
    (amount_differs (a x) (b x) (worth place)) (amounts-differ worth a b (place + 1) xs)
