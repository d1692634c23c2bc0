-- How large the sums of payments are, from the definitions alone.
use Rattle.std.proofs.Common.{◌≡◌, ℕ, zero, suc, ◌+◌, ◌*◌, ◌≤◌, inl, inr, refl, ap, sym, subst, ◌∙◌, List, [], ◌∷◌, length, map, sum_by, ℤ, pos, negsuc, ◌+ℤ◌, ◌*ℤ◌, unsigned_abs, eq-eqb, arith, lit<, mul-le-mul_right}
use Rattle.std.specs.Prelude.{All}
use Rattle.std.specs.List.{range_with_len}
use Rattle.std.specs.Ordering.{int_eq}
use Rattle.std.proofs.lemmas.Int.{ints, unsigned_abs-mul}
use Rattle.std.proofs.lemmas.Bool.{cond_both, cases_eq, ne_eqb}
use Rattle.std.proofs.lemmas.List.FromFn.{length-map-range_with_len}
use Rattle.std.proofs.lemmas.List.Sums.{sum_by-cons}
use Rattle.scr_num.specs.Rounding.{Ends, exact_ends, add_ends, sub_ends, floor_div, ceil_div}
use Rattle.scr_num.proofs.Quotients.{ceil_div-times, ceil_div-next}
use Rattle.scr_dates.specs.declared.{day.Day.Day, term.Maturity.Maturity}
use Rattle.scr_dates.specs.declared.term.Maturity.TheVariants.{Past, Years, TooFar}
use Rattle.scr_dates.specs.Years.{maturity_of}
use Rattle.scr_yield_curve.specs.DiscountEnds.{IsDiscount}
use Rattle.scr_yield_curve.specs.declared.table.TheConstants.{MAX_DISCOUNT}
use Rattle.scr_dates.specs.Payments.{total}
use Rattle.scr_flow.specs.Due.{amount_at, due_in, dues}
use Rattle.scr_flow.specs.Sums.{flow_ends, weighted_ends}
use Rattle.scr_yield_curve.specs.Falls.{difference, differences}
use Rattle.scr_flow.specs.LossEnds.{present_ends, loss_ends, scaled_ends}
use Rattle.scr_num.specs.Sizes.{IsWithin}

-- ---- what falls due
abbrev size_along : (ℕ → ℤ) → ℕ → ℕ → ℕ
size_along f first n = sum_by unsigned_abs (map f (range_with_len first n))

size-plus : (f g : ℕ → ℤ) (first n : ℕ) → size_along (λ k. f k +ℤ g k) first n ≤ size_along f first n + size_along g first n
size-plus f g first zero = omega arith
size-plus f g first (suc n) =
    let here : unsigned_abs (f first +ℤ g first) ≤ unsigned_abs (f first) + unsigned_abs (g first) = omega (arith, ints) in
    omega (
      arith,
      here,
      size-plus f g (first + 1) n,
      sum_by-cons unsigned_abs (f first +ℤ g first) (map (λ k. f k +ℤ g k) (range_with_len (first + 1) n)),
      sum_by-cons unsigned_abs (f first) (map f (range_with_len (first + 1) n)),
      sum_by-cons unsigned_abs (g first) (map g (range_with_len (first + 1) n)),
    )

size-none : (f : ℕ → ℤ) (first n : ℕ) → ((k : ℕ) → first ≤ k → f k ≡ pos 0) → size_along f first n ≡ 0
size-none f first zero none = refl
size-none f first (suc n) none =
    let here : unsigned_abs (f first) ≡ 0 = rw (none first (omega arith)) refl in
    omega (arith, here, size-none f (first + 1) n (λ k le. none k (omega (arith, le))), sum_by-cons unsigned_abs (f first) (map f (range_with_len (first + 1) n)))

size-one : (f : ℕ → ℤ) (year first n : ℕ) → ((k : ℕ) → (k ≡ year → ⊥) → f k ≡ pos 0) → size_along f first n ≤ unsigned_abs (f year)
size-one f year first zero others = omega arith
size-one f year first (suc n) others =
    let whole = sum_by-cons unsigned_abs (f first) (map f (range_with_len (first + 1) n)) in
    elim (cases_eq first year) [
      | inl same ↦
          let here : unsigned_abs (f first) ≡ unsigned_abs (f year) = ap (λ (k : ℕ). unsigned_abs (f k)) same in
          omega (arith, whole, here, size-none f (first + 1) n (λ k le. others k (λ e. absurd (omega (arith, le, e, same)))))
      | inr other ↦
          let here : unsigned_abs (f first) ≡ 0 = rw (others first other) refl in
          omega (arith, whole, here, size-one f year (first + 1) n others)
    ]

size-due : (m : Maturity) (amount : ℤ) → size_along (λ years. amount_at years m amount) 1 100 ≤ unsigned_abs amount
size-due Past amount = let none = size-none (λ years. pos 0) 1 100 (λ k le. refl) in omega (arith, none)
size-due (Years n) amount =
    let one = size-one (λ years. amount_at years (Years n) amount) n 1 100 (λ k other. rw (ne_eqb n k (λ e. other (sym e))) refl) in
    let here : unsigned_abs (amount_at n (Years n) amount) ≡ unsigned_abs amount = rw (eq-eqb n n refl) refl in
    omega (arith, one, here)
size-due (TooFar n) amount = let none = size-none (λ years. pos 0) 1 100 (λ k le. refl) in omega (arith, none)

pub dues-within : (asof : ℤ) (payments : List (Day × ℤ)) → sum_by unsigned_abs (dues asof payments) ≤ total payments
unfolding due_in
dues-within asof [] = let none = size-none (λ years. pos 0) 1 100 (λ k le. refl) in omega (arith, none)
dues-within asof (p ∷ payments) =
    let m = maturity_of asof p.0.number in
    let both = size-plus (λ years. amount_at years m p.1) (due_in asof payments) 1 100 in
    omega (arith, both, size-due m p.1, dues-within asof payments, sum_by-cons (λ (q : Day × ℤ). unsigned_abs q.1) p payments)

pub length-dues : (asof : ℤ) (payments : List (Day × ℤ)) → length (dues asof payments) ≡ 100
length-dues asof payments = length-map-range_with_len (due_in asof payments) 1 100

-- ---- payments times numbers between ends
within-flow : (flow : ℤ) (e : Ends) → IsWithin MAX_DISCOUNT e → IsWithin (MAX_DISCOUNT * unsigned_abs flow) (flow_ends flow e)
within-flow (pos n) e h = record { low = times (pos n) e.low h.low; high = times (pos n) e.high h.high }
  where
    times : (z w : ℤ) → unsigned_abs w ≤ MAX_DISCOUNT → unsigned_abs (z *ℤ w) ≤ MAX_DISCOUNT * unsigned_abs z
    times z w le = let scaled = mul-le-mul_right (unsigned_abs z) le in omega (arith, unsigned_abs-mul z w, scaled)
within-flow (negsuc n) e h = record { low = times (negsuc n) e.high h.high; high = times (negsuc n) e.low h.low }
  where
    times : (z w : ℤ) → unsigned_abs w ≤ MAX_DISCOUNT → unsigned_abs (z *ℤ w) ≤ MAX_DISCOUNT * unsigned_abs z
    times z w le = let scaled = mul-le-mul_right (unsigned_abs z) le in omega (arith, unsigned_abs-mul z w, scaled)

within-add : (m n : ℕ) (a b : Ends) → IsWithin m a → IsWithin n b → IsWithin (m + n) (add_ends a b)
within-add m n a b h k = record { low = abs_plus a.low b.low m n h.low k.low; high = abs_plus a.high b.high m n h.high k.high }
  where
    abs_plus : (x y : ℤ) (m n : ℕ) → unsigned_abs x ≤ m → unsigned_abs y ≤ n → unsigned_abs (x +ℤ y) ≤ m + n
    abs_plus x y m n h k = omega (arith, ints, h, k)

within-none : (m : ℕ) → IsWithin m (exact_ends (pos 0))
within-none m = record { low = omega arith; high = omega arith }

within-same : (m n : ℕ) (e : Ends) → m ≡ n → IsWithin m e → IsWithin n e
within-same m n e is h = subst (λ (k : ℕ). IsWithin k e) is h

within-weighted : (flows : List ℤ) (es : List Ends) → All (IsWithin MAX_DISCOUNT) es → IsWithin (MAX_DISCOUNT * sum_by unsigned_abs flows) (weighted_ends flows es)
unfolding weighted_ends
within-weighted [] es all = within-none _
within-weighted (flow ∷ flows) [] all = within-none _
within-weighted (flow ∷ flows) (e ∷ es) all =
    within-same (MAX_DISCOUNT * unsigned_abs flow + MAX_DISCOUNT * sum_by unsigned_abs flows) _ _
    (shared MAX_DISCOUNT (unsigned_abs flow) (sum_by unsigned_abs flows) ∙ ap (λ (n : ℕ). MAX_DISCOUNT * n) (sym (sum_by-cons unsigned_abs flow flows)))
    (within-add _ _ (flow_ends flow e) (weighted_ends flows es) (within-flow flow e (all 0 e (omega arith)))
    (within-weighted flows es (λ k d within. all (suc k) d (omega (arith, within)))))
  where
    shared : (m a b : ℕ) → m * a + m * b ≡ m * (a + b)
    shared m a b = omega arith

pub within-discount : (e : Ends) → IsDiscount e → IsWithin MAX_DISCOUNT e
within-discount e h = record { low = omega (arith, ints, h.low, h.ordered, h.high); high = omega (arith, ints, h.low, h.ordered, h.high) }

pub present-within : (flows : List ℤ) (table : List Ends) → All IsDiscount table → IsWithin (MAX_DISCOUNT * sum_by unsigned_abs flows) (present_ends flows table)
present-within flows table all = within-weighted flows table (λ k d within. within-discount _ (all k d within))

-- ---- falls of discounts
within-fall : (base : ℤ) (from : Ends) (stressed : ℤ) (to : Ends) → IsDiscount from → IsDiscount to → IsWithin MAX_DISCOUNT (difference base from stressed to)
within-fall base from stressed to h k =
    cond_both (int_eq base stressed) (exact_ends (pos 0)) (sub_ends from to) (IsWithin MAX_DISCOUNT)
    (λ same. within-none MAX_DISCOUNT)
    (λ other. record {
      low = omega (arith, ints, h.low, h.ordered, h.high, k.low, k.ordered, k.high);
      high = omega (arith, ints, h.low, h.ordered, h.high, k.low, k.ordered, k.high);
    })

within-falls : (bases : List ℤ) (froms : List Ends) (stresseds : List ℤ) (tos : List Ends) → All IsDiscount froms → All IsDiscount tos
    → All (IsWithin MAX_DISCOUNT) (differences bases froms stresseds tos)
unfolding differences
within-falls [] froms stresseds tos h k i d within = absurd (omega (arith, within))
within-falls (n ∷ bases) [] stresseds tos h k i d within = absurd (omega (arith, within))
within-falls (n ∷ bases) (e ∷ froms) [] tos h k i d within = absurd (omega (arith, within))
within-falls (n ∷ bases) (e ∷ froms) (m ∷ stresseds) [] h k i d within = absurd (omega (arith, within))
within-falls (n ∷ bases) (e ∷ froms) (m ∷ stresseds) (f ∷ tos) h k zero d within = within-fall n e m f (h 0 e (omega arith)) (k 0 f (omega arith))
within-falls (n ∷ bases) (e ∷ froms) (m ∷ stresseds) (f ∷ tos) h k (suc i) d within =
    within-falls bases froms stresseds tos (λ j c inside. h (suc j) c (omega (arith, inside))) (λ j c inside. k (suc j) c (omega (arith, inside))) i d (omega (arith, within))

pub loss-within : (flows base stressed : List ℤ) (from to : List Ends) → All IsDiscount from → All IsDiscount to
    → IsWithin (MAX_DISCOUNT * sum_by unsigned_abs flows) (loss_ends flows base from stressed to)
loss-within flows base stressed from to h k = within-weighted flows (differences base from stressed to) (within-falls base from stressed to h k)

-- ---- a share of a million
floor-within : (z : ℤ) (n : ℕ) → unsigned_abs z ≤ n * 1_000_000 → unsigned_abs (floor_div z 1_000_000) ≤ n
floor-within (pos k) n h = omega (arith, h)
floor-within (negsuc k) n h = omega (arith, h)

ceil-within : (z : ℤ) (n : ℕ) → unsigned_abs z ≤ n * 1_000_000 → unsigned_abs (ceil_div z 1_000_000) ≤ n
ceil-within z n h =
    let above = ceil_div-times z 1_000_000 (lit< tt) in
    let next = ceil_div-next z 1_000_000 (lit< tt) in
    omega (arith, ints, above, next, h)

pub scaled-within : (unit : Ends) (cents : ℕ) → IsWithin 13_700_000_000_000_000_000_000_000 unit → IsWithin (13_700_000_000_000_000_000 * cents) (scaled_ends unit cents)
scaled-within unit cents h = record {
  low = floor-within (unit.low *ℤ pos cents) _ (product unit.low h.low);
  high = ceil-within (unit.high *ℤ pos cents) _ (product unit.high h.high);
}
  where
    product : (z : ℤ) → unsigned_abs z ≤ 13_700_000_000_000_000_000_000_000 → unsigned_abs (z *ℤ pos cents) ≤ 13_700_000_000_000_000_000 * cents * 1_000_000
    product z le = let scaled = mul-le-mul_right cents le in omega (arith, unsigned_abs-mul z (pos cents), scaled)
