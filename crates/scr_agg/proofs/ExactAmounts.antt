-- The greater of two fractions, and what an absorption leaves of one, as figures that come to a fraction.
use Rattle.std.proofs.Common.{◌≡◌, ℕ, ℤ, pos, Bool, true, false, cond, inl, inr, refl}
use Rattle.scr_num.specs.Fraction.{Fraction, ◌≼◌, over, minus, whole, zero_fraction, is_less, greater}
use Rattle.scr_num.specs.Figure.{Frac, Max, AtMost}
use Rattle.scr_num.specs.Enclosure.{Encloses}
use Rattle.scr_num.proofs.Fractions.{≼_refl, ≼_trans, minus_mono}
use Rattle.scr_agg.specs.Absorbed.{net_figure, net_exact}
use Rattle.scr_agg.proofs.Chosen.{not_less, less_le}

-- ---- the greater of two fractions
greater-left : (p q : Fraction) → p ≼ greater p q
greater-left p q = of (is_less p q) refl
  where
    of : (b : Bool) → is_less p q ≡ b → p ≼ cond b q p
    of true e = less_le p q e
    of false e = ≼_refl p p refl refl

greater-right : (p q : Fraction) → q ≼ greater p q
greater-right p q = of (is_less p q) refl
  where
    of : (b : Bool) → is_less p q ≡ b → q ≼ cond b q p
    of true e = ≼_refl q q refl refl
    of false e = not_less p q e

greater-least : (p q r : Fraction) → p ≼ r → q ≼ r → greater p q ≼ r
greater-least p q r h k = of (is_less p q)
  where
    of : (b : Bool) → cond b q p ≼ r
    of true = k
    of false = h

-- ---- figures
pub Encloses-greater : (unit : ℕ) (low high : ℤ) (p q : Fraction) → Encloses unit low high (Max (Frac p) (Frac q))
    → Encloses unit low high (Frac (greater p q))
unfolding AtMost
Encloses-greater unit low high p q h = record {
  positive = h.positive;
  at_most = elim h.at_most [
    | inl a ↦ ≼_trans (over low unit h.positive) p (greater p q) a (greater-left p q)
    | inr b ↦ ≼_trans (over low unit h.positive) q (greater p q) b (greater-right p q)
  ];
  at_least = greater-least p q (over high unit h.positive) h.at_least.0 h.at_least.1;
}

-- what is at most and at least a difference, as one of the difference
pub Encloses-net_exact : (unit : ℕ) (low high : ℤ) (gross : Fraction) (absorb : ℕ)
    → Encloses unit low high (net_figure (Frac gross) absorb)
    → Encloses unit low high (Frac (net_exact gross absorb))
unfolding AtMost
Encloses-net_exact unit low high gross absorb h =
    let taken = whole (pos absorb) in
    let left = minus gross taken in
    let b = h.at_least.1 in
    Encloses-greater unit low high zero_fraction left
    (record {
      positive = h.positive;
      at_most = elim h.at_most [
        | inl a ↦ inl a
        | inr a ↦ inr
            (≼_trans (over low unit h.positive) (minus a.0 a.1) left a.4 (minus_mono a.0 gross a.1 taken a.2 a.3))
      ];
      at_least = (
        h.at_least.0,
        ≼_trans left (minus b.0 b.1) (over high unit h.positive)
            (minus_mono gross b.0 taken b.1 b.2 b.3) b.4,
      );
    })
