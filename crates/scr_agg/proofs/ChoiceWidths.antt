-- How far apart the ends of what is chosen are, and how near alternatives are between which the choice stays open.
use Rattle.std.proofs.Common.{◌≡◌, ℕ, zero, suc, ◌+◌, ◌<◌, ◌≤◌, List, [], ◌∷◌, map, fold, length, ℤ, pos, ◌+ℤ◌, ◌≤ℤ◌, int_lt, ltb, Bool, true, false, ◌&&◌, refl, sym, ap, ◌∙◌, arith}
use Rattle.std.specs.List.{AllByRecursion}
use Rattle.std.specs.Ordering.{int_eq}
use Rattle.std.proofs.lemmas.Int.{ints}
use Rattle.std.proofs.lemmas.Bool.{false_from_ne_true, true≢false, or_parts}
use Rattle.scr_num.specs.Fraction.{Fraction, ◌≼◌, over, plus}
use Rattle.scr_num.specs.Figure.{Frac}
use Rattle.scr_num.specs.Rounding.{Ends, exact_ends, max_ends}
use Rattle.scr_num.specs.Enclosure.{Encloses}
use Rattle.scr_num.specs.Narrow.{IsNarrow}
use Rattle.scr_num.proofs.Spreads.{narrow-wider, narrow-exact, narrow-max}
use Rattle.scr_num.proofs.Fractions.{≼_refl, ≼_trans, plus_mono, over_mono, over-plus_le}
use Rattle.scr_agg.specs.Choice.{Outcome, outcome_at}
use Rattle.scr_agg.specs.Unbeaten.{Alternative, alternative_at, are_one, outweighs, beats, is_beaten, unbeaten, unbeaten_below, mask_of, HasSeveral, hull_of, greatest_of, chosen_gross, chosen_net, EncloseOutcome, EncloseOutcomes}
use Rattle.scr_agg.specs.Nearness.{AreNear, IsExact, HasOpen}
use Rattle.scr_agg.proofs.Alternatives.{Beats, is_beaten-found, by_place, count-skip, count-next, unbeaten_below-zero}
use Rattle.scr_agg.proofs.Bits.{several_bits}
use Rattle.scr_agg.proofs.Enclosed.{low_below, high_above, enclosed_at}

narrow-none : (w : ℕ) → IsNarrow w (exact_ends (pos 0))
narrow-none w = narrow-wider 0 w (exact_ends (pos 0)) (omega arith) (narrow-exact (pos 0))

-- ---- the net requirement
greatest-narrow : (w : ℕ) (e : Ends) (es : List Ends) → IsNarrow w e → AllByRecursion (IsNarrow w) es
    → IsNarrow w (fold max_ends e es)
greatest-narrow w e [] h all = h
greatest-narrow w e (next ∷ es) h all =
    greatest-narrow w (max_ends e next) es (narrow-max w e next h all.0) all.1

nets_of : (w : ℕ) (list : List Alternative) → AllByRecursion (λ a. IsNarrow w a.net) list
    → AllByRecursion (IsNarrow w) (map (λ (a : Alternative). a.net) list)
nets_of w [] all = tt
nets_of w (a ∷ rest) all = (all.0, nets_of w rest all.1)

greatest_of-narrow : (w : ℕ) (es : List Ends) → AllByRecursion (IsNarrow w) es → IsNarrow w (greatest_of es)
greatest_of-narrow w [] all = narrow-none w
greatest_of-narrow w (e ∷ es) all = greatest-narrow w e es all.0 all.1

pub narrow-chosen_net : (w : ℕ) (list : List Alternative) → AllByRecursion (λ a. IsNarrow w a.net) list
    → IsNarrow w (chosen_net list)
narrow-chosen_net w list all = greatest_of-narrow w _ (nets_of w list all)

-- ---- the gross requirement
gross_at : (w : ℕ) (list : List Alternative) (k : ℕ) → AllByRecursion (λ a. IsNarrow w a.gross) list
    → IsNarrow w (alternative_at list k).gross
gross_at w [] k all = narrow-none w
gross_at w (a ∷ rest) zero all = all.0
gross_at w (a ∷ rest) (suc k) all = gross_at w rest k all.1

net_at : (w : ℕ) (list : List Alternative) (k : ℕ) → AllByRecursion (λ a. IsNarrow w a.net) list
    → IsNarrow w (alternative_at list k).net
net_at w [] k all = narrow-none w
net_at w (a ∷ rest) zero all = all.0
net_at w (a ∷ rest) (suc k) all = net_at w rest k all.1

-- the hull of one is itself
one_place : (w : ℕ) (list : List Alternative) (places : List ℕ) → AllByRecursion (λ a. IsNarrow w a.gross) list
    → (2 ≤ length places → ⊥) → IsNarrow w (hull_of (map (λ k. (alternative_at list k).gross) places))
one_place w list [] all few = narrow-none w
one_place w list (k ∷ []) all few = gross_at w list k all
one_place w list (k ∷ j ∷ places) all few = absurd (few (omega arith))

pub narrow-chosen_gross : (w : ℕ) (list : List Alternative) → AllByRecursion (λ a. IsNarrow w a.gross) list
    → (HasSeveral (mask_of list) → ⊥) → IsNarrow w (chosen_gross list)
narrow-chosen_gross w list all one = one_place w list (unbeaten list) all (λ more. one ((several_bits list).1 more))

-- ---- two places that nothing beats
record Place (list : List Alternative) (n : ℕ) : Type 0 where
  place : ℕ
  within : place < n
  free : is_beaten list place ≡ false

record Pair (list : List Alternative) (n : ℕ) : Type 0 where
  one : ℕ
  other : ℕ
  order : one < other
  within : other < n
  one_free : is_beaten list one ≡ false
  other_free : is_beaten list other ≡ false

record Found (list : List Alternative) (n : ℕ) : Type 0 where
  some : 1 ≤ length (unbeaten_below list n) → Place list n
  several : 2 ≤ length (unbeaten_below list n) → Pair list n

place-wider : (list : List Alternative) (n : ℕ) → Place list n → Place list (n + 1)
place-wider list n p =
    let lt = p.within in record { place = p.place; within = omega (arith, lt); free = p.free }

pair-wider : (list : List Alternative) (n : ℕ) → Pair list n → Pair list (n + 1)
pair-wider list n p =
    let lt = p.within in
    record {
      one = p.one;
      other = p.other;
      order = p.order;
      within = omega (arith, lt);
      one_free = p.one_free;
      other_free = p.other_free;
    }

found-skip : (list : List Alternative) (n : ℕ) → is_beaten list n ≡ true → Found list n → Found list (n + 1)
found-skip list n e h =
    let same = count-skip list n e in
    record {
      some = λ k. place-wider list n (h.some (omega (arith, same, k)));
      several = λ k. pair-wider list n (h.several (omega (arith, same, k)));
    }

found-next : (list : List Alternative) (n : ℕ) → is_beaten list n ≡ false → Found list n → Found list (n + 1)
found-next list n e h =
    let more = count-next list n e in
    record {
      some = λ k. record { place = n; within = omega arith; free = e };
      several = λ k. let p = h.some (omega (arith, more, k)) in record {
        one = p.place;
        other = n;
        order = p.within;
        within = omega arith;
        one_free = p.free;
        other_free = e;
      };
    }

found : (list : List Alternative) (n : ℕ) → Found list n
found list =
    by_place list (Found list)
    (let none : length (unbeaten_below list 0) ≡ 0 = ap length (unbeaten_below-zero list) in
    record { some = λ k. absurd (omega (arith, none, k)); several = λ k. absurd (omega (arith, none, k)) })
    (found-skip list) (found-next list)

-- ---- what does not beat the other is not above it
not_above : (a b : ℤ) → int_lt b a ≡ false → a ≤ℤ b
not_above a b e = grind (arith, ints)

int_eq-same : (a b : ℤ) → a ≡ b → int_eq a b ≡ true
int_eq-same a b e = grind (arith, ints)

are_one-same : (a b : Ends) → IsExact a → IsExact b → a.low ≡ b.low → are_one a b ≡ true
are_one-same a b h k e = rw (int_eq-same a.low a.high h.same, int_eq-same b.low b.high k.same, int_eq-same a.low b.low e) refl

nets_meet : (earlier : Bool) (a b : Alternative) → beats earlier a b ≡ false → a.net.low ≤ℤ b.net.high
nets_meet earlier a b e =
    not_above a.net.low b.net.high
    (or_parts (int_lt b.net.high a.net.low) (are_one a.net b.net && outweighs earlier a.gross b.gross) e).0

after : (x y : Bool) → x ≡ true → (x && y) ≡ false → y ≡ false
after true y e f = f
after false y e f = cc

grosses_meet : (earlier : Bool) (a b : Alternative) → beats earlier a b ≡ false → are_one a.net b.net ≡ true
    → a.gross.low ≤ℤ b.gross.high
grosses_meet earlier a b e one =
    let lighter = after (are_one a.net b.net) (outweighs earlier a.gross b.gross) one
    (or_parts (int_lt b.net.high a.net.low) (are_one a.net b.net && outweighs earlier a.gross b.gross) e).1 in
    not_above a.gross.low b.gross.high
    (or_parts (int_lt b.gross.high a.gross.low) (are_one a.gross b.gross && earlier) lighter).0

-- ---- numbers within ends that meet
near_above : (unit w : ℕ) (a b : Ends) (p q : Fraction) (positive : 0 < unit) → Encloses unit a.low a.high (Frac p)
    → Encloses unit b.low b.high (Frac q) → a.high ≤ℤ (b.low +ℤ pos w) → p ≼ plus q (over (pos w) unit positive)
near_above unit w a b p q positive h k le =
    let high = over a.high unit h.positive in
    let low = over b.low unit k.positive in
    let gap = over (pos w) unit positive in
    let sum = over (b.low +ℤ pos w) unit positive in
    ≼_trans p high (plus q gap) (high_above unit a.low a.high p h)
    (≼_trans high sum (plus q gap) (over_mono a.high (b.low +ℤ pos w) unit h.positive positive le)
    (≼_trans sum (plus low gap) (plus q gap) (over-plus_le b.low (pos w) unit positive k.positive positive)
    (plus_mono low q gap gap (low_below unit b.low b.high q k) (≼_refl gap gap refl refl))))

near : (unit w : ℕ) (a b : Ends) (p q : Fraction) → Encloses unit a.low a.high (Frac p)
    → Encloses unit b.low b.high (Frac q) → IsNarrow w a → IsNarrow w b → a.low ≤ℤ b.high → b.low ≤ℤ a.high
    → AreNear unit (w + w) p q
near unit w a b p q h k narrow slim meet touch = record {
  positive = h.positive;
  first = near_above unit (w + w) a b p q h.positive h k (omega (arith, ints, narrow.apart, slim.apart, meet, touch));
  second = near_above unit (w + w) b a q p h.positive k h (omega (arith, ints, narrow.apart, slim.apart, meet, touch));
}

unbeaten_by : (list : List Alternative) (j place : ℕ) → j < length list → is_beaten list place ≡ false
    → beats (ltb j place) (alternative_at list j) (alternative_at list place) ≡ false
unbeaten_by list j place lt free =
    false_from_ne_true (Beats list j place)
    (λ e. true≢false (sym (is_beaten-found list place j lt e) ∙ free))

pub open_choice : (unit w : ℕ) (list : List Alternative) (outcomes : List Outcome)
    → EncloseOutcomes unit list outcomes → AllByRecursion (λ a. IsNarrow w a.gross) list
    → AllByRecursion (λ a. IsNarrow w a.net) list → 2 ≤ length (unbeaten list)
    → HasOpen unit (w + w) list outcomes
open_choice unit w list outcomes h grosses nets several =
    let pair = (found list (length list)).several several in
    let i = pair.one in
    let j = pair.other in
    let order = pair.order in
    let listed = pair.within in
    let there : i < length list = omega (arith, order, listed) in
    let a = alternative_at list i in
    let b = alternative_at list j in
    let o = outcome_at outcomes i in
    let p = outcome_at outcomes j in
    let in_a : EncloseOutcome unit a o = enclosed_at unit list outcomes h i there in
    let in_b : EncloseOutcome unit b p = enclosed_at unit list outcomes h j listed in
    let first = unbeaten_by list i j there pair.other_free in
    let second = unbeaten_by list j i listed pair.one_free in
    record {
      first = i;
      second = j;
      order = order;
      listed = listed;
      near = record {
        nets = near unit w a.net b.net o.net p.net in_a.net in_b.net (net_at w list i nets) (net_at w list j nets)
            (nets_meet (ltb i j) a b first) (nets_meet (ltb j i) b a second);
        grosses = λ exact known same. near unit w a.gross b.gross o.gross p.gross in_a.gross in_b.gross
            (gross_at w list i grosses) (gross_at w list j grosses)
            (grosses_meet (ltb i j) a b first (are_one-same a.net b.net exact known same))
            (grosses_meet (ltb j i) b a second (are_one-same b.net a.net known exact (sym same)));
      };
    }
