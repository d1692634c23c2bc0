-- Operational risk as worked out encloses the exact figures, and how large it is.
use Rattle.std.proofs.Common.{◌≡◌, refl, ℕ, ◌+◌, ◌*◌, ◌<◌, ◌≤◌, ℤ, pos, ◌-ℤ◌, ◌*ℤ◌, ◌≤ℤ◌, ap, ap₂, ◌∙◌, unsigned_abs, arith, lit<, lit≤}
use Rattle.std.proofs.lemmas.Int.{ints, clamps}
use borrow.Author.Differences.{up, down}
use Rattle.scr_num.specs.Fraction.{Fraction, Share, whole, percent, product}
use Rattle.scr_num.specs.Figure.{Figure, Frac, Max, Min, Times}
use Rattle.scr_num.specs.Rounding.{Ends, exact_ends, max_ends, min_ends, scale_ends}
use Rattle.scr_num.specs.Amounts.{IsAmount}
use Rattle.scr_num.specs.Enclosure.{Encloses, Measures}
use Rattle.scr_num.proofs.AmountBounds.{is_amount, amount-high, amount-add, amount-cut, amount-scale}
use Rattle.scr_num.proofs.Fractions.{times_split}
use Rattle.scr_num.proofs.Enclosing.{Encloses-exact, Encloses-add, Encloses-max, Encloses-min, Encloses-scale}
use Rattle.scr_num.proofs.SumLemmas.{Encloses-cut_first}
use Rattle.scr_profile.specs.declared.operational.OpInput.{OpInput}
use Rattle.scr_loss.specs.Operational.{IsWithinLimits, percent_share, beyond, life_growth, or_nil, level_figure, growth_figure, prem_figure, life_provisions_share, prov_figure, cap_figure, op_figure}
use Rattle.scr_loss.specs.OperationalEnds.{fifths_beyond, counted_ends, or_nil_ends, level_ends, growth_ends, prem_ends, prov_ends, cap_ends, op_ends}

-- ---- fifths of a cent
beyond-measure : (now before : ℕ) → Measures 5 (fifths_beyond now before) (beyond now before)
beyond-measure now before =
    let same : fifths_beyond now before ≡ (pos now *ℤ pos 5) -ℤ ((pos 6 *ℤ pos before) *ℤ pos 1) = omega (arith, ints) in
    record { positive = lit< tt; equal = ap (λ (z : ℤ). z *ℤ pos 5) same }

-- of two differences, each in fifths
growth-numbers : (a b : ℤ) → (a -ℤ b) *ℤ pos 25 ≡ ((a *ℤ pos 5) -ℤ (b *ℤ pos 5)) *ℤ pos 5
growth-numbers a b =
    let left = times_split (a -ℤ b) (up a + down b) (down a + up b) 25 (omega (arith, ints)) in
    let right = times_split ((a *ℤ pos 5) -ℤ (b *ℤ pos 5)) (5 * up a + 5 * down b) (5 * down a + 5 * up b) 5 (omega (arith, ints)) in
    omega (arith, ints, left, right)

growth-measure : (op : OpInput) → Measures 5 (fifths_beyond op.el op.pel -ℤ fifths_beyond op.eul op.peul) (life_growth op)
growth-measure op =
    let a = (pos op.el *ℤ pos 5) -ℤ ((pos 6 *ℤ pos op.pel) *ℤ pos 1) in
    let b = (pos op.eul *ℤ pos 5) -ℤ ((pos 6 *ℤ pos op.peul) *ℤ pos 1) in
    let same_a : fifths_beyond op.el op.pel ≡ a = omega (arith, ints) in
    let same_b : fifths_beyond op.eul op.peul ≡ b = omega (arith, ints) in
    record { positive = lit< tt; equal = ap₂ (λ (x y : ℤ). (x -ℤ y) *ℤ pos 25) same_a same_b ∙ growth-numbers a b }

-- ---- parts that are shares of exact amounts
share-encloses : (unit grains n : ℕ) (x : ℤ) (p : Fraction) → n * (1 * 1000) ≡ 100 * (grains * unit) → Measures unit x p
    → Encloses 1000 (counted_ends x grains).low (counted_ends x grains).high (Times (Frac p) (percent_share n))
share-encloses unit grains n x p e h =
    Encloses-scale unit 1000 grains 1 x x (Frac p) (percent_share n) (lit< tt) (record { positive = lit< tt; equal = e }) (Encloses-exact unit x p h)

whole-measure : (x : ℤ) → Measures 1 x (whole x)
whole-measure x = record { positive = lit< tt; equal = refl }

level-encloses : (op : OpInput) → Encloses 1000 (level_ends op).low (level_ends op).high (level_figure op)
level-encloses op =
    let life = counted_ends (pos op.el -ℤ pos op.eul) 40 in
    let nonlife = counted_ends (pos op.en) 30 in
    Encloses-add 1000 life.low life.high nonlife.low nonlife.high _ _
    (share-encloses 1 40 4 (pos op.el -ℤ pos op.eul) (whole (pos op.el -ℤ pos op.eul)) refl (whole-measure (pos op.el -ℤ pos op.eul)))
    (share-encloses 1 30 3 (pos op.en) (whole (pos op.en)) refl (whole-measure (pos op.en)))

growth-encloses : (op : OpInput) → Encloses 1000 (growth_ends op).low (growth_ends op).high (growth_figure op)
growth-encloses op =
    let x = fifths_beyond op.el op.pel -ℤ fifths_beyond op.eul op.peul in
    let y = fifths_beyond op.en op.pen in
    let life = or_nil_ends (counted_ends x 8) in
    let nonlife = or_nil_ends (counted_ends y 6) in
    Encloses-add 1000 life.low life.high nonlife.low nonlife.high _ _
    (Encloses-cut_first 1000 (counted_ends x 8) (Times (Frac (life_growth op)) (percent_share 4)) (share-encloses 5 8 4 x (life_growth op) refl (growth-measure op)))
    (Encloses-cut_first 1000 (counted_ends y 6) (Times (Frac (beyond op.en op.pen)) (percent_share 3)) (share-encloses 5 6 3 y (beyond op.en op.pen) refl (beyond-measure op.en op.pen)))

pub prem-encloses : (op : OpInput) → Encloses 1000 (prem_ends op).low (prem_ends op).high (prem_figure op)
prem-encloses op =
    Encloses-add 1000 (level_ends op).low (level_ends op).high (growth_ends op).low (growth_ends op).high (level_figure op) (growth_figure op)
    (level-encloses op) (growth-encloses op)

-- ---- provisions
provisions-encloses : (num den : ℕ) (x : ℤ) (share : Share) → 0 < den → share.num * (den * 1000) ≡ share.den * (num * 1)
    → let e = scale_ends (or_nil_ends (exact_ends x)) num den in Encloses 1000 e.low e.high (Times (or_nil (Frac (whole x))) share)
provisions-encloses num den x share positive e =
    let nil = or_nil_ends (exact_ends x) in
    Encloses-scale 1 1000 num den nil.low nil.high (or_nil (Frac (whole x))) share positive (record { positive = lit< tt; equal = e })
    (Encloses-cut_first 1 (exact_ends x) (Frac (whole x)) (Encloses-exact 1 x (whole x) (whole-measure x)))

pub prov-encloses : (op : OpInput) → Encloses 1000 (prov_ends op).low (prov_ends op).high (prov_figure op)
prov-encloses op =
    let life = scale_ends (or_nil_ends (exact_ends (op.tpl -ℤ op.tpul))) 9 2 in
    let nonlife = scale_ends (or_nil_ends (exact_ends op.tpn)) 30 1 in
    Encloses-add 1000 life.low life.high nonlife.low nonlife.high _ _
    (provisions-encloses 9 2 (op.tpl -ℤ op.tpul) life_provisions_share (lit< tt) refl) (provisions-encloses 30 1 op.tpn (percent_share 3) (lit< tt) refl)

magnitudes : (a b : ℤ) (n : ℕ) → unsigned_abs a ≤ n → unsigned_abs b ≤ n → (a -ℤ b) ≤ℤ pos (2 * n)
magnitudes a b n h k = omega (arith, ints)

magnitude : (a : ℤ) (n : ℕ) → unsigned_abs a ≤ n → a ≤ℤ pos n
magnitude a n h = omega (arith, ints)

nil-size : (most : ℕ) (x : ℤ) → x ≤ℤ pos most → IsAmount most (or_nil_ends (exact_ends x))
nil-size most x h = amount-cut most (exact_ends x) (omega (arith, ints)) h

pub prov-size : (op : OpInput) → IsWithinLimits op → IsAmount 390000000000000 (prov_ends op)
prov-size op h =
    let life = or_nil_ends (exact_ends (op.tpl -ℤ op.tpul)) in
    let nonlife = or_nil_ends (exact_ends op.tpn) in
    amount-add 90000000000000 300000000000000 (scale_ends life 9 2) (scale_ends nonlife 30 1)
    (amount-scale 20000000000000 90000000000000 9 2 life (lit< tt) (lit≤ tt)
    (nil-size 20000000000000 (op.tpl -ℤ op.tpul) (magnitudes op.tpl op.tpul 10000000000000 h.tpl h.tpul)))
    (amount-scale 10000000000000 300000000000000 30 1 nonlife (lit< tt) (lit≤ tt) (nil-size 10000000000000 op.tpn (magnitude op.tpn 10000000000000 h.tpn)))

-- ---- the cap, and all
pub cap-encloses : (bscr : Ends) (f : Figure) → Encloses 1000 bscr.low bscr.high f → Encloses 1000 (cap_ends bscr).low (cap_ends bscr).high (cap_figure f)
cap-encloses bscr f h =
    Encloses-scale 1000 1000 3 10 bscr.low bscr.high f (percent_share 30) (lit< tt) (record { positive = lit< tt; equal = refl }) h

pub cap-size : (a b : ℕ) (bscr : Ends) → 3 * a ≤ 10 * b → IsAmount a bscr → IsAmount b (cap_ends bscr)
cap-size a b bscr h k = amount-scale a b 3 10 bscr (lit< tt) (omega arith) k

pub expenses-encloses : (cents : ℕ) → Encloses 1000 (pos (250 * cents)) (pos (250 * cents)) (Frac (product (percent 25) (whole (pos cents))))
expenses-encloses cents =
    Encloses-exact 1000 (pos (250 * cents)) (product (percent 25) (whole (pos cents))) (record { positive = lit< tt; equal = omega (arith, ints) })

pub op-encloses : (cap prem prov : Ends) (f g h : Figure) (expul : ℕ) → Encloses 1000 cap.low cap.high f → Encloses 1000 prem.low prem.high g
    → Encloses 1000 prov.low prov.high h
    → Encloses 1000 (op_ends cap prem prov expul).low (op_ends cap prem prov expul).high (op_figure f g h expul)
op-encloses cap prem prov f g h expul in_cap in_prem in_prov =
    let greater = max_ends prem prov in
    let limited = min_ends cap greater in
    Encloses-add 1000 limited.low limited.high (pos (250 * expul)) (pos (250 * expul)) (Min f (Max g h)) (Frac (product (percent 25) (whole (pos expul))))
    (Encloses-min 1000 cap.low cap.high greater.low greater.high f (Max g h) in_cap
    (Encloses-max 1000 prem.low prem.high prov.low prov.high g h in_prem in_prov))
    (expenses-encloses expul)

pub op-size : (a b : ℕ) (cap prem prov : Ends) (expul : ℕ) → IsAmount a cap → prem.low ≤ℤ prem.high → IsAmount b prov
    → IsAmount (a + 250 * expul) (op_ends cap prem prov expul)
op-size a b cap prem prov expul h order k =
    let least = h.not_negative in
    let rising = h.ordered in
    let most = amount-high a cap h in
    let least' = k.not_negative in
    let rising' = k.ordered in
    is_amount (a + 250 * expul) (op_ends cap prem prov expul) (omega (arith, ints, clamps)) (omega (arith, ints, clamps)) (omega (arith, ints, clamps))
