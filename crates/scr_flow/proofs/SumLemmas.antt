-- Sums of payments times spans: what they enclose, how a loop makes them, and how large they are.
use Rattle.std.proofs.Common.{◌≡◌, ℕ, zero, suc, ◌+◌, ◌-◌, ◌*◌, ◌<◌, ◌≤◌, refl, ap, sym, subst, ◌∙◌, List, [], ◌∷◌, length, get_or, drop, drop-cons, add-zero, add-one, mul-le-mul_right, ℤ, pos, negsuc, ◌+ℤ◌, ◌-ℤ◌, ◌*ℤ◌, ◌≤ℤ◌, ◌<ℤ◌, unsigned_abs, arith}
use Rattle.std.specs.Prelude.{sum_by}
use Rattle.std.proofs.lemmas.Int.{ints, unsigned_abs-mul}
use Rattle.std.proofs.lemmas.List.{drop_all}
use Rattle.std.proofs.lemmas.List.Sums.{sum_by-cons}
use Rattle.scr_num.specs.Fraction.{Fraction, ◌≼◌, over, whole, zero_fraction, minus, product}
use Rattle.scr_num.specs.Figure.{Frac, AtMost}
use Rattle.scr_num.specs.Rounding.{Ends, exact_ends, add_ends}
use Rattle.scr_num.specs.Enclosure.{Encloses}
use Rattle.scr_num.proofs.Fractions.{≼_refl, ≼_trans, multiple_mono, negative_multiple_mono}
use Rattle.scr_num.proofs.Enclosing.{Encloses-exact, Encloses-add, Encloses-plus}
use Rattle.scr_num.proofs.AddedEnds.{add_ends-assoc, add_ends-zero}
use Rattle.scr_num.proofs.Quotients.{times_le}
use borrow.Author.Differences.{up, down}
use Rattle.scr_num.specs.Sums.{weighted_sum}
use Rattle.scr_yield_curve.specs.declared.table.TheConstants.{MAX_DISCOUNT}
use Rattle.scr_flow.specs.Sums.{flow_ends, weighted_ends}

-- ---- fractions that spans enclose
module _ (unit : ℕ) where
  Encloses-zero : 0 < unit → Encloses unit (pos 0) (pos 0) (Frac zero_fraction)
  Encloses-zero positive = Encloses-exact unit (pos 0) zero_fraction (record { positive = positive; equal = omega (arith, ints) })

  -- fractions of one value differ by exactly 0
  pub Encloses-equal : 0 < unit → (p q : Fraction) → p ≼ q → q ≼ p → Encloses unit (pos 0) (pos 0) (Frac (minus p q))
  unfolding AtMost
  Encloses-equal positive p q h k = record { positive = positive; at_most = record { cross = none_below p.num q.num p.den q.den k.cross }; at_least = record { cross = none_above p.num q.num p.den q.den h.cross } }
    where
      none_below : (a c : ℤ) (b d : ℕ) → (c *ℤ pos b) ≤ℤ (a *ℤ pos d) → (pos 0 *ℤ pos (b * d)) ≤ℤ ((a *ℤ pos d -ℤ c *ℤ pos b) *ℤ pos unit)
      none_below a c b d h = let t = times_le (pos 0) (a *ℤ pos d -ℤ c *ℤ pos b) unit (omega (arith, ints, h)) in omega (arith, ints, t)

      none_above : (a c : ℤ) (b d : ℕ) → (a *ℤ pos d) ≤ℤ (c *ℤ pos b) → ((a *ℤ pos d -ℤ c *ℤ pos b) *ℤ pos unit) ≤ℤ (pos 0 *ℤ pos (b * d))
      none_above a c b d h = let t = times_le (a *ℤ pos d -ℤ c *ℤ pos b) (pos 0) unit (omega (arith, ints, h)) in omega (arith, ints, t)

  Encloses-flow : (flow : ℤ) (e : Ends) (p : Fraction) → Encloses unit e.low e.high (Frac p)
      → Encloses unit (flow_ends flow e).low (flow_ends flow e).high (Frac (product (whole flow) p))
  unfolding AtMost
  Encloses-flow (pos n) e p h = record {
    positive = h.positive;
    at_most =
        ≼_trans (over (pos n *ℤ e.low) unit h.positive) (product (whole (pos n)) (over e.low unit h.positive)) (product (whole (pos n)) p)
        (≼_refl _ _ refl (omega arith)) (multiple_mono n (over e.low unit h.positive) p h.at_most);
    at_least =
        ≼_trans (product (whole (pos n)) p) (product (whole (pos n)) (over e.high unit h.positive)) (over (pos n *ℤ e.high) unit h.positive)
        (multiple_mono n p (over e.high unit h.positive) h.at_least) (≼_refl _ _ refl (omega arith));
  }
  Encloses-flow (negsuc n) e p h = record {
    positive = h.positive;
    at_most =
        ≼_trans (over (negsuc n *ℤ e.high) unit h.positive) (product (whole (negsuc n)) (over e.high unit h.positive)) (product (whole (negsuc n)) p)
        (≼_refl _ _ refl (omega arith)) (negative_multiple_mono n p (over e.high unit h.positive) h.at_least);
    at_least =
        ≼_trans (product (whole (negsuc n)) p) (product (whole (negsuc n)) (over e.low unit h.positive)) (over (negsuc n *ℤ e.low) unit h.positive)
        (negative_multiple_mono n (over e.low unit h.positive) p h.at_most) (≼_refl _ _ refl (omega arith));
  }

  -- the sum encloses the sum of payments times what the spans enclose
  pub Encloses-weighted : 0 < unit → (worth : ℕ → Fraction) (years : ℕ) (flows : List ℤ) (es : List Ends) → length flows ≡ length es
      → ((k : ℕ) (d : Ends) → k < length es → Encloses unit (get_or es k d).low (get_or es k d).high (Frac (worth (years + k))))
      → Encloses unit (weighted_ends flows es).low (weighted_ends flows es).high (Frac (weighted_sum worth years flows))
  unfolding weighted_ends weighted_sum
  Encloses-weighted positive worth years [] es e h = Encloses-zero positive
  Encloses-weighted positive worth years (flow ∷ flows) [] e h = absurd (omega (arith, e))
  Encloses-weighted positive worth years (flow ∷ flows) (x ∷ es) e h =
      let here = product (whole flow) (worth years) in
      let rest = weighted_sum worth (years + 1) flows in
      Encloses-plus unit _ _ here rest
      (Encloses-add unit (flow_ends flow x).low (flow_ends flow x).high (weighted_ends flows es).low (weighted_ends flows es).high (Frac here) (Frac rest)
      (Encloses-flow flow x (worth years) (rw add-zero at (h 0 x (omega arith))))
      (Encloses-weighted positive worth (years + 1) flows es (omega (arith, e))
      (λ k d within. subst (λ (y : ℕ). Encloses unit (get_or es k d).low (get_or es k d).high (Frac (worth y))) (omega arith) (h (suc k) d (omega (arith, within))))))

-- ---- a loop that adds place by place
pub weighted_ends-drop : (flows : List ℤ) (es : List Ends) (i : ℕ) (z : ℤ) (d : Ends) → i < length flows → i < length es
    → weighted_ends (drop i flows) (drop i es) ≡ add_ends (flow_ends (get_or flows i z) (get_or es i d)) (weighted_ends (drop (i + 1) flows) (drop (i + 1) es))
unfolding weighted_ends
weighted_ends-drop flows es i z d a b = rw (add-one, drop-cons flows i z, drop-cons es i d) refl

pub one_more : (sum term whole : Ends) (flows : List ℤ) (es : List Ends) (i : ℕ) (z : ℤ) (d : Ends) → i < length flows → i < length es
    → term ≡ flow_ends (get_or flows i z) (get_or es i d)
    → add_ends sum (weighted_ends (drop i flows) (drop i es)) ≡ whole
    → add_ends (add_ends sum term) (weighted_ends (drop (i + 1) flows) (drop (i + 1) es)) ≡ whole
one_more sum term whole flows es i z d a b is h =
    let rest = weighted_ends (drop (i + 1) flows) (drop (i + 1) es) in
    add_ends-assoc sum term rest ∙ ap (λ (t : Ends). add_ends sum (add_ends t rest)) is ∙ ap (add_ends sum) (sym (weighted_ends-drop flows es i z d a b)) ∙ h

pub all_added : (sum whole : Ends) (flows : List ℤ) (es : List Ends) (i : ℕ) → length flows ≤ i → add_ends sum (weighted_ends (drop i flows) (drop i es)) ≡ whole → sum ≡ whole
unfolding weighted_ends
all_added sum whole flows es i le h = sym (add_ends-zero sum) ∙ (rw (drop_all i flows le) at h)

-- ---- sizes
pub sum_by-drop : {A : Type 0} (f : A → ℕ) (xs : List A) (i : ℕ) (d : A) → i < length xs → sum_by f (drop i xs) ≡ f (get_or xs i d) + sum_by f (drop (i + 1) xs)
sum_by-drop f xs i d within = rw (add-one, drop-cons xs i d) (sum_by-cons f (get_or xs i d) (drop (suc i) xs))

pub size_of_product : (flow end : ℤ) (most : ℕ) → unsigned_abs end ≤ most → unsigned_abs (flow *ℤ end) ≤ most * unsigned_abs flow
size_of_product flow end most le = let scaled = mul-le-mul_right (unsigned_abs flow) le in omega (arith, unsigned_abs-mul flow end, scaled)

-- ---- a payment times a span
order_kept : (n : ℕ) (a b : ℤ) → a ≤ℤ b → (pos n *ℤ a) ≤ℤ (pos n *ℤ b)
order_kept n a b h =
    let scaled : (up a + down b) * n ≤ (up b + down a) * n = mul-le-mul_right n (omega (arith, ints)) in omega (arith, ints, scaled)

order_turned : (n : ℕ) (a b : ℤ) → a ≤ℤ b → (negsuc n *ℤ b) ≤ℤ (negsuc n *ℤ a)
order_turned n a b h =
    let scaled : (up a + down b) * suc n ≤ (up b + down a) * suc n = mul-le-mul_right (suc n) (omega (arith, ints)) in omega (arith, ints, scaled)

pub negative_order : (flow low high : ℤ) → flow <ℤ pos 0 → low ≤ℤ high → (flow *ℤ high) ≤ℤ (flow *ℤ low)
negative_order (pos n) low high h k = absurd (omega (arith, ints))
negative_order (negsuc n) low high h k = order_turned n low high k

pub other_order : (flow low high : ℤ) → pos 0 ≤ℤ flow → low ≤ℤ high → (flow *ℤ low) ≤ℤ (flow *ℤ high)
other_order (pos n) low high h k = order_kept n low high k
other_order (negsuc n) low high h k = absurd (omega (arith, ints))

-- a payment of at least 0 exchanges no ends
pub natural_ends : (flow : ℤ) (e : Ends) → pos 0 ≤ℤ flow → flow_ends flow e ≡ record { low = flow *ℤ e.low; high = flow *ℤ e.high }
natural_ends (pos n) e h = refl
natural_ends (negsuc n) e h = absurd (omega (arith, ints))

-- a negative one exchanges them
pub negative_ends : (flow : ℤ) (e : Ends) → flow <ℤ pos 0 → flow_ends flow e ≡ record { low = flow *ℤ e.high; high = flow *ℤ e.low }
negative_ends (pos n) e h = absurd (omega (arith, ints))
negative_ends (negsuc n) e h = refl

-- ---- a loop over all places
-- the most that one is worth
abbrev pub most : ℕ
most = MAX_DISCOUNT

-- the sum over the places before i: with the others it makes the whole, and it is no larger than its payments
pub record IsSumBefore (i : ℕ) (flows : List ℤ) (es : List Ends) (sum : Ends) : Type 0 where
  pub places : 0 < i → length flows ≡ length es
  pub so_far : add_ends sum (weighted_ends (drop i flows) (drop i es)) ≡ weighted_ends flows es
  pub low : unsigned_abs sum.low + most * sum_by unsigned_abs (drop i flows) ≤ most * sum_by unsigned_abs flows
  pub high : unsigned_abs sum.high + most * sum_by unsigned_abs (drop i flows) ≤ most * sum_by unsigned_abs flows

size_more : (f rest all : ℕ) (b x y : ℤ) → b ≡ x +ℤ y → unsigned_abs y ≤ most * f → unsigned_abs x + most * (f + rest) ≤ all → unsigned_abs b + most * rest ≤ all
size_more f rest all b x y e small h = omega (arith, ints, e, small, h)

pub sum_more : (i : ℕ) (flows : List ℤ) (es : List Ends) (sum term : Ends) (z : ℤ) (d : Ends) → i < length flows → length flows ≡ length es
    → term ≡ flow_ends (get_or flows i z) (get_or es i d)
    → unsigned_abs term.low ≤ most * unsigned_abs (get_or flows i z) → unsigned_abs term.high ≤ most * unsigned_abs (get_or flows i z)
    → IsSumBefore i flows es sum → IsSumBefore (i + 1) flows es (add_ends sum term)
sum_more i flows es sum term z d a same is low high h =
    let rest = sum_by-drop unsigned_abs flows i z a in
    let b : i < length es = omega (arith, a, same) in
    record {
      places = λ some. same;
      so_far = one_more sum term (weighted_ends flows es) flows es i z d a b is h.so_far;
      low = size_more (unsigned_abs (get_or flows i z)) (sum_by unsigned_abs (drop (i + 1) flows)) (most * sum_by unsigned_abs flows) (sum.low +ℤ term.low) sum.low term.low refl low
          (rw rest at h.low);
      high = size_more (unsigned_abs (get_or flows i z)) (sum_by unsigned_abs (drop (i + 1) flows)) (most * sum_by unsigned_abs flows) (sum.high +ℤ term.high) sum.high term.high refl high
          (rw rest at h.high);
    }

-- where nothing is paid, the sum stays
flow_zero : (e : Ends) → flow_ends (pos 0) e ≡ exact_ends (pos 0)
flow_zero e =
    let low : (pos 0 *ℤ e.low) ≡ pos 0 = omega (arith, ints) in
    let high : (pos 0 *ℤ e.high) ≡ pos 0 = omega (arith, ints) in
    rw (low, high) refl

pub sum_kept : (i : ℕ) (flows : List ℤ) (es : List Ends) (sum : Ends) (z : ℤ) → i < length flows → length flows ≡ length es → get_or flows i z ≡ pos 0
    → IsSumBefore i flows es sum → IsSumBefore (i + 1) flows es sum
sum_kept i flows es sum z a same none h =
    let d = exact_ends (pos 0) in
    let term : d ≡ flow_ends (get_or flows i z) (get_or es i d) = rw none (sym (flow_zero (get_or es i d))) in
    subst (IsSumBefore (i + 1) flows es) (add_ends-zero sum) (sum_more i flows es sum d z d a same term (omega arith) (omega arith) h)

-- the same over all places before another one
sum_skipped : (n i : ℕ) (flows : List ℤ) (es : List Ends) (sum : Ends) → i + n ≤ length flows → length flows ≡ length es
    → ((k : ℕ) → i ≤ k → k < i + n → get_or flows k (pos 0) ≡ pos 0) → IsSumBefore i flows es sum → IsSumBefore (i + n) flows es sum
sum_skipped zero i flows es sum within same none h = let here : i ≡ i + zero = omega arith in subst (λ (k : ℕ). IsSumBefore k flows es sum) here h
sum_skipped (suc n) i flows es sum within same none h =
    let next = sum_kept i flows es sum (pos 0) (omega (arith, within)) same (none i (omega arith) (omega arith)) h in
    let here : i + 1 + n ≡ i + suc n = omega arith in
    subst (λ (k : ℕ). IsSumBefore k flows es sum) here
    (sum_skipped n (i + 1) flows es sum (omega (arith, within)) same (λ k a b. none k (omega (arith, a)) (omega (arith, b))) next)

pub sum_passed : (i j : ℕ) (flows : List ℤ) (es : List Ends) (sum : Ends) → i ≤ j → j ≤ length flows → length flows ≡ length es
    → ((k : ℕ) → i ≤ k → k < j → get_or flows k (pos 0) ≡ pos 0) → IsSumBefore i flows es sum → IsSumBefore j flows es sum
sum_passed i j flows es sum later within same none h =
    let here : i + (j - i) ≡ j = omega (arith, later) in
    subst (λ (k : ℕ). IsSumBefore k flows es sum) here
    (sum_skipped (j - i) i flows es sum (omega (arith, later, within)) same (λ k a b. none k a (omega (arith, b, later))) h)
