-- Each operator's ends enclose the figure made of the figures that its arguments' ends enclose.
use Rattle.std.proofs.Common.{◌⊎◌, ◌≡◌, ℕ, zero, suc, ◌+◌, ◌*◌, ◌<◌, ◌≤◌, inl, inr, ℤ, pos, negsuc, ◌+ℤ◌, ◌-ℤ◌, ◌*ℤ◌, ◌≤ℤ◌, arith, ap, mul-pos, mul-le-mul_right, le_of_mul-le-mul_right}
use Rattle.std.proofs.lemmas.Int.{ints, clamps}
use Rattle.std.specs.Int.Signed.{≤ℤ_refl}
use Rattle.std.specs.Int.{int_max, int_min}
use borrow.Author.Differences.{up, down, at_most_in}
use Rattle.scr_num.specs.Fraction.{Fraction, Share, ◌≼◌, over, zero_fraction, plus, minus}
use Rattle.scr_num.specs.Figure.{Figure, Frac, Sum, Diff, Times, Max, Min, RootOf, AtMost, AtLeast}
use Rattle.scr_num.specs.declared.span.Span.{Span}
use Rattle.scr_num.specs.Rounding.{Ends, ends, scale_ends, floor_div, ceil_div, floor_root, ceil_root, or_zero}
use Rattle.scr_num.specs.Enclosure.{Encloses, Measures, Converts}
use Rattle.scr_num.proofs.Roots.{floor_root-zero, floor_root-square, ceil_root-square}
use Rattle.scr_num.proofs.Quotients.{floor_div-times, ceil_div-times}
use Rattle.scr_num.proofs.Fractions.{≼_trans, plus_mono, minus_mono, over_mono, over-plus_le, over-plus_ge, over-minus_le, over-minus_ge, times_split}
use Rattle.scr_num.proofs.Witnesses.{lower-le-upper, AtMost-down, AtLeast-up}

-- ---- one number
pub Encloses-exact : (unit : ℕ) (v : ℤ) (p : Fraction) → Measures unit v p → Encloses unit v v (Frac p)
unfolding AtMost
Encloses-exact unit v p h = record {
  positive = h.positive;
  at_most = record { cross = rw h.equal (≤ℤ_refl (p.num *ℤ pos unit)) };
  at_least = record { cross = rw (← h.equal) (≤ℤ_refl (v *ℤ pos p.den)) };
}

-- ---- a sum
pub Encloses-add : (unit : ℕ) (a b c d : ℤ) (f g : Figure) → Encloses unit a b f → Encloses unit c d g
    → Encloses unit (a +ℤ c) (b +ℤ d) (Sum f g)
unfolding AtMost
Encloses-add unit a b c d f g h k = record {
  positive = h.positive;
  at_most = (
    over a unit h.positive,
    over c unit k.positive,
    h.at_most,
    k.at_most,
    over-plus_le a c unit h.positive h.positive k.positive,
  );
  at_least = (
    over b unit h.positive,
    over d unit k.positive,
    h.at_least,
    k.at_least,
    over-plus_ge b d unit h.positive h.positive k.positive,
  );
}

-- ---- a difference
pub Encloses-sub : (unit : ℕ) (a b c d : ℤ) (f g : Figure) → Encloses unit a b f → Encloses unit c d g
    → Encloses unit (a -ℤ d) (b -ℤ c) (Diff f g)
unfolding AtMost
Encloses-sub unit a b c d f g h k = record {
  positive = h.positive;
  at_most = (
    over a unit h.positive,
    over d unit k.positive,
    h.at_most,
    k.at_least,
    over-minus_le a d unit h.positive h.positive k.positive,
  );
  at_least = (
    over b unit h.positive,
    over c unit k.positive,
    h.at_least,
    k.at_most,
    over-minus_ge b c unit h.positive h.positive k.positive,
  );
}

-- ---- a sum and a difference of fractions, each of which comes to a fraction
pub Encloses-plus : (unit : ℕ) (low high : ℤ) (p q : Fraction) → Encloses unit low high (Sum (Frac p) (Frac q))
    → Encloses unit low high (Frac (plus p q))
unfolding AtMost
Encloses-plus unit low high p q h =
    let a = h.at_most in
    let b = h.at_least in
    record {
      positive = h.positive;
      at_most = ≼_trans (over low unit h.positive) (plus a.0 a.1) (plus p q) a.4 (plus_mono a.0 p a.1 q a.2 a.3);
      at_least = ≼_trans (plus p q) (plus b.0 b.1) (over high unit h.positive) (plus_mono p b.0 q b.1 b.2 b.3) b.4;
    }

pub Encloses-minus : (unit : ℕ) (low high : ℤ) (p q : Fraction) → Encloses unit low high (Diff (Frac p) (Frac q))
    → Encloses unit low high (Frac (minus p q))
unfolding AtMost
Encloses-minus unit low high p q h =
    let a = h.at_most in
    let b = h.at_least in
    record {
      positive = h.positive;
      at_most = ≼_trans (over low unit h.positive) (minus a.0 a.1) (minus p q) a.4 (minus_mono a.0 p a.1 q a.2 a.3);
      at_least = ≼_trans (minus p q) (minus b.0 b.1) (over high unit h.positive) (minus_mono p b.0 q b.1 b.2 b.3) b.4;
    }

-- ---- a product with a fraction, which may change the unit
share_below : (q v : ℤ) (num den old new pn pd : ℕ) → 0 < den → pn * (den * new) ≡ pd * (num * old)
    → (q *ℤ pos den) ≤ℤ (v *ℤ pos num)
    → (q *ℤ pos (old * pd)) ≤ℤ ((v *ℤ pos pn) *ℤ pos new)
share_below q v num den old new pn pd positive e h =
    let a : (up q * den + down v * num) * (old * pd) ≤ (up v * num + down q * den) * (old * pd) =
    mul-le-mul_right (old * pd) (omega (arith, ints)) in
    let b : (up q * (old * pd) + down v * pn * new) * den ≤ (up v * pn * new + down q * (old * pd)) * den =
    omega (arith, a, ap (λ (x : ℕ). up v * x) e, ap (λ (x : ℕ). down v * x) e) in
    let c = le_of_mul-le-mul_right b positive in
    at_most_in _ _
    (omega (arith, ints, c, times_split (v *ℤ pos pn) (up v * pn) (down v * pn) new (omega (arith, ints))))

share_above : (q v : ℤ) (num den old new pn pd : ℕ) → 0 < den → pn * (den * new) ≡ pd * (num * old)
    → (v *ℤ pos num) ≤ℤ (q *ℤ pos den)
    → ((v *ℤ pos pn) *ℤ pos new) ≤ℤ (q *ℤ pos (old * pd))
share_above q v num den old new pn pd positive e h =
    let a : (up v * num + down q * den) * (old * pd) ≤ (up q * den + down v * num) * (old * pd) =
    mul-le-mul_right (old * pd) (omega (arith, ints)) in
    let b : (up v * pn * new + down q * (old * pd)) * den ≤ (up q * (old * pd) + down v * pn * new) * den =
    omega (arith, a, ap (λ (x : ℕ). up v * x) e, ap (λ (x : ℕ). down v * x) e) in
    let c = le_of_mul-le-mul_right b positive in
    at_most_in _ _
    (omega (arith, ints, c, times_split (v *ℤ pos pn) (up v * pn) (down v * pn) new (omega (arith, ints))))

pub Encloses-scale : (old new num den : ℕ) (low high : ℤ) (f : Figure) (share : Share) → 0 < den
    → Converts old new num den share → Encloses old low high f
    → Encloses new (floor_div (low *ℤ pos num) den) (ceil_div (high *ℤ pos num) den) (Times f share)
unfolding AtMost
Encloses-scale old new num den low high f share positive c h = record {
  positive = c.positive;
  at_most = (
    over low old h.positive,
    h.at_most,
    record {
      cross = share_below _ low num den old new share.num share.den positive c.equal
          (floor_div-times (low *ℤ pos num) den positive);
    },
  );
  at_least = (
    over high old h.positive,
    h.at_least,
    record {
      cross = share_above _ high num den old new share.num share.den positive c.equal
          (ceil_div-times (high *ℤ pos num) den positive);
    },
  );
}

-- ---- a root, from the squared unit
unit_positive : (unit : ℕ) → 0 < unit * unit → 0 < unit
unit_positive zero h = h
unit_positive (suc n) h = omega arith

pub over_zero : (unit n : ℕ) (positive : 0 < unit) → n ≡ 0 → over (pos n) unit positive ≼ zero_fraction
over_zero unit n positive e = record { cross = omega (arith, ints) }

pub over_nonneg : (unit n : ℕ) (positive : 0 < unit) → zero_fraction ≼ over (pos n) unit positive
over_nonneg unit n positive = record { cross = omega (arith, ints) }

pub AtMost-root : (unit : ℕ) (low : ℤ) (f : Figure) (positive : 0 < unit) (squared : 0 < unit * unit)
    → AtMost (over low (unit * unit) squared) f
    → AtMost (over (pos (floor_root (or_zero low))) unit positive) (RootOf f)
unfolding AtMost
AtMost-root unit (negsuc n) f positive squared h = inl (over_zero unit (floor_root 0) positive floor_root-zero)
AtMost-root unit (pos n) f positive squared h =
    inr (
      over (pos n) (unit * unit) squared,
      h,
      over_mono (pos (floor_root n) *ℤ pos (floor_root n)) (pos n) (unit * unit) (mul-pos positive positive) squared
          (omega (arith, ints, floor_root-square n)),
    )

pub AtLeast-root : (unit : ℕ) (high : ℤ) (f : Figure) (positive : 0 < unit) (squared : 0 < unit * unit)
    → AtLeast (over high (unit * unit) squared) f
    → AtLeast (over (pos (ceil_root (or_zero high))) unit positive) (RootOf f)
unfolding AtMost
AtLeast-root unit high f positive squared h = (
  over_nonneg unit (ceil_root (or_zero high)) positive,
  (
    over high (unit * unit) squared,
    h,
    over_mono high (pos (ceil_root (or_zero high)) *ℤ pos (ceil_root (or_zero high))) (unit * unit) squared
        (mul-pos positive positive)
        (below high (ceil_root (or_zero high)) (ceil_root-square (or_zero high))),
  ),
)
  where
    below : (z : ℤ) (r : ℕ) → or_zero z ≤ r * r → z ≤ℤ (pos r *ℤ pos r)
    below (pos n) r h = omega (arith, ints)
    below (negsuc n) r h = omega (arith, ints)

pub Encloses-root_of : (unit : ℕ) (low high : ℤ) (f : Figure) → Encloses (unit * unit) low high f
    → Encloses unit (pos (floor_root (or_zero low))) (pos (ceil_root (or_zero high))) (RootOf f)
Encloses-root_of unit low high f h =
    let positive = unit_positive unit h.positive in
    record {
      positive = positive;
      at_most = AtMost-root unit low f positive h.positive h.at_most;
      at_least = AtLeast-root unit high f positive h.positive h.at_least;
    }

-- ---- a coarser unit
coarser_below : (q v : ℤ) (unit k : ℕ) → (q *ℤ pos k) ≤ℤ v → (q *ℤ pos (unit * k)) ≤ℤ (v *ℤ pos unit)
coarser_below q v unit k h =
    let a : (up q * k + down v) * unit ≤ (up v + down q * k) * unit = mul-le-mul_right unit (omega (arith, ints)) in
    omega (arith, ints)

coarser_above : (q v : ℤ) (unit k : ℕ) → v ≤ℤ (q *ℤ pos k) → (v *ℤ pos unit) ≤ℤ (q *ℤ pos (unit * k))
coarser_above q v unit k h =
    let a : (up v + down q * k) * unit ≤ (up q * k + down v) * unit = mul-le-mul_right unit (omega (arith, ints)) in
    omega (arith, ints)

pub Encloses-coarser : (unit k : ℕ) (low high : ℤ) (f : Figure) → 0 < k → Encloses (unit * k) low high f
    → Encloses unit (floor_div low k) (ceil_div high k) f
Encloses-coarser unit k low high f positive h =
    let unit_is = factor unit k h.positive in
    record {
      positive = unit_is;
      at_most = AtMost-down f (over (floor_div low k) unit unit_is) (over low (unit * k) h.positive)
          (record { cross = coarser_below (floor_div low k) low unit k (floor_div-times low k positive) }) h.at_most;
      at_least = AtLeast-up f (over high (unit * k) h.positive) (over (ceil_div high k) unit unit_is)
          (record { cross = coarser_above (ceil_div high k) high unit k (ceil_div-times high k positive) }) h.at_least;
    }
  where
    factor : (m n : ℕ) → 0 < m * n → 0 < m
    factor zero n h = absurd (omega arith)
    factor (suc m) n h = omega arith

-- the same of a quotient as it is worked out
pub Encloses-divided : (unit k : ℕ) (e : Ends) (f : Figure) → 0 < k → Encloses (unit * k) e.low e.high f
    → Encloses unit (scale_ends e 1 k).low (scale_ends e 1 k).high f
Encloses-divided unit k e f positive h =
    let once : (z : ℤ) → z *ℤ pos 1 ≡ z = λ z. omega (arith, ints) in
    let coarser = Encloses-coarser unit k e.low e.high f positive h in
    record {
      positive = coarser.positive;
      at_most = rw (once e.low) coarser.at_most;
      at_least = rw (once e.high) coarser.at_least;
    }

-- ---- the greater and the smaller of two figures
at_most_at : (unit : ℕ) (v w : ℤ) (f : Figure) (positive positive' : 0 < unit) → v ≤ℤ w
    → AtMost (over w unit positive') f → AtMost (over v unit positive) f
at_most_at unit v w f positive positive' h below =
    AtMost-down f (over v unit positive) (over w unit positive') (over_mono v w unit positive positive' h) below

at_least_at : (unit : ℕ) (v w : ℤ) (f : Figure) (positive positive' : 0 < unit) → v ≤ℤ w
    → AtLeast (over v unit positive') f → AtLeast (over w unit positive) f
at_least_at unit v w f positive positive' h above =
    AtLeast-up f (over v unit positive') (over w unit positive) (over_mono v w unit positive' positive h) above

pub either_max : (a c : ℤ) → (int_max a c ≡ a) ⊎ (int_max a c ≡ c)
either_max a c = grind (arith, ints, clamps)

either_min : (a c : ℤ) → (int_min a c ≡ a) ⊎ (int_min a c ≡ c)
either_min a c = grind (arith, ints, clamps)

pub Encloses-max : (unit : ℕ) (a b c d : ℤ) (f g : Figure) → Encloses unit a b f → Encloses unit c d g
    → Encloses unit (int_max a c) (int_max b d) (Max f g)
unfolding AtMost
Encloses-max unit a b c d f g h k = record {
  positive = h.positive;
  at_most = elim (either_max a c) [
    | inl e ↦ inl (at_most_at unit (int_max a c) a f h.positive h.positive (omega (arith, ints, e)) h.at_most)
    | inr e ↦ inr (at_most_at unit (int_max a c) c g h.positive k.positive (omega (arith, ints, e)) k.at_most)
  ];
  at_least = (
    at_least_at unit b (int_max b d) f h.positive h.positive (omega (arith, ints, clamps)) h.at_least,
    at_least_at unit d (int_max b d) g h.positive k.positive (omega (arith, ints, clamps)) k.at_least,
  );
}

pub Encloses-min : (unit : ℕ) (a b c d : ℤ) (f g : Figure) → Encloses unit a b f → Encloses unit c d g
    → Encloses unit (int_min a c) (int_min b d) (Min f g)
unfolding AtMost
Encloses-min unit a b c d f g h k = record {
  positive = h.positive;
  at_most = (
    at_most_at unit (int_min a c) a f h.positive h.positive (omega (arith, ints, clamps)) h.at_most,
    at_most_at unit (int_min a c) c g h.positive k.positive (omega (arith, ints, clamps)) k.at_most,
  );
  at_least = elim (either_min b d) [
    | inl e ↦ inl (at_least_at unit b (int_min b d) f h.positive h.positive (omega (arith, ints, e)) h.at_least)
    | inr e ↦ inr (at_least_at unit d (int_min b d) g h.positive k.positive (omega (arith, ints, e)) k.at_least)
  ];
}

-- ---- wider ends, and two that enclose one figure
pub Encloses-wider : (unit : ℕ) (low low' high high' : ℤ) (f : Figure) → low' ≤ℤ low → high ≤ℤ high'
    → Encloses unit low high f → Encloses unit low' high' f
Encloses-wider unit low low' high high' f a b h = record {
  positive = h.positive;
  at_most = AtMost-down f (over low' unit h.positive) (over low unit h.positive)
      (over_mono low' low unit h.positive h.positive a) h.at_most;
  at_least = AtLeast-up f (over high unit h.positive) (over high' unit h.positive)
      (over_mono high high' unit h.positive h.positive b) h.at_least;
}

pub Encloses-overlap : (unit unit' : ℕ) (low high low' high' : ℤ) (f : Figure) → Encloses unit low high f
    → Encloses unit' low' high' f → (low *ℤ pos unit') ≤ℤ (high' *ℤ pos unit)
Encloses-overlap unit unit' low high low' high' f h k =
    let order = lower-le-upper f (over low unit h.positive) (over high' unit' k.positive) h.at_most k.at_least in
    order.cross

-- ends that are written in another way
pub Encloses-same : (unit : ℕ) (low low' high high' : ℤ) (f : Figure) → low ≡ low' → high ≡ high'
    → Encloses unit low' high' f → Encloses unit low high f
Encloses-same unit low low' high high' f a b h = rw (a, b) h

-- a span with those ends
pub Encloses-span : (unit : ℕ) (span : Span) (e : Ends) (f : Figure) → ends span ≡ e → Encloses unit e.low e.high f
    → Encloses unit span.low span.high f
Encloses-span unit span e f same h =
    Encloses-same unit span.low e.low span.high e.high f (ap (λ (x : Ends). x.low) same)
    (ap (λ (x : Ends). x.high) same) h
