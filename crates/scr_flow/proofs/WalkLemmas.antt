-- Payments of one sign add up: what they are worth by a table, payment by payment.
use Rattle.std.proofs.Common.{◌≡◌, ℕ, zero, suc, ◌+◌, ◌*◌, ◌<◌, ◌≤◌, refl, ap, ap₂, sym, ◌∙◌, List, [], ◌∷◌, length, get_or, drop, drop-cons, add-one, map, ℤ, pos, negsuc, ◌+ℤ◌, ◌*ℤ◌, ◌≤ℤ◌, unsigned_abs, eq-eqb, arith}
use Rattle.std.specs.Prelude.{All, nat_eq}
use Rattle.std.specs.List.{range_with_len}
use Rattle.std.proofs.lemmas.Int.{ints}
use Rattle.std.proofs.lemmas.Bool.{cond_both, ne_eqb}
use Rattle.std.proofs.lemmas.List.{drop_all}
use Rattle.std.proofs.lemmas.List.Sums.{get_or-le-sum_by}
use Rattle.scr_num.specs.Rounding.{Ends, exact_ends, add_ends}
use Rattle.scr_num.proofs.AddedEnds.{add_ends-assoc, add_ends-zero, zero-add_ends}
use Rattle.scr_dates.specs.declared.{day.Day.Day, term.Maturity.Maturity}
use Rattle.scr_dates.specs.declared.term.Maturity.TheVariants.{Past, Years, TooFar}
use Rattle.scr_dates.specs.Years.{maturity_of}
use Rattle.scr_flow.specs.Due.{amount_at, due_in, dues}
use Rattle.scr_flow.specs.Sums.{flow_ends, weighted_ends}
use Rattle.scr_flow.proofs.OneValue.{sum-times}
use Rattle.scr_flow.proofs.DueLemmas.{amounts}
use Rattle.scr_flow.proofs.SumLemmas.{most, sum_by-drop}

abbrev none : Ends
none = exact_ends (pos 0)

-- two payments of at least 0 at one maturity
pub flow-plus : (a b : ℤ) (e : Ends) → pos 0 ≤ℤ a → pos 0 ≤ℤ b → flow_ends (a +ℤ b) e ≡ add_ends (flow_ends a e) (flow_ends b e)
flow-plus (pos m) (pos n) e x y =
    ap₂ (λ (l h : ℤ). record { low = l; high = h }) (sum-times (pos m) (pos n) e.low) (sum-times (pos m) (pos n) e.high)
flow-plus (pos m) (negsuc n) e x y = absurd (omega (arith, ints, y))
flow-plus (negsuc m) b e x y = absurd (omega (arith, ints, x))

flow-none : (e : Ends) → flow_ends (pos 0) e ≡ none
flow-none e =
    let low : (pos 0 *ℤ e.low) ≡ pos 0 = omega (arith, ints) in
    let high : (pos 0 *ℤ e.high) ≡ pos 0 = omega (arith, ints) in
    rw (low, high) refl

crossed : (a b c d : Ends) → add_ends (add_ends a b) (add_ends c d) ≡ add_ends (add_ends a c) (add_ends b d)
crossed a b c d =
    ap₂ (λ (l h : ℤ). record { low = l; high = h }) (four a.low b.low c.low d.low) (four a.high b.high c.high d.high)
  where
    four : (a b c d : ℤ) → (a +ℤ b) +ℤ (c +ℤ d) ≡ (a +ℤ c) +ℤ (b +ℤ d)
    four a b c d = omega (arith, ints)

abbrev along : (ℕ → ℤ) → ℕ → ℕ → List Ends → Ends
along f first n table = weighted_ends (map f (range_with_len first n)) table

-- sums of two amounts of at least 0 each year
along-plus : (f g : ℕ → ℤ) (first n : ℕ) (table : List Ends) → ((k : ℕ) → pos 0 ≤ℤ f k) → ((k : ℕ) → pos 0 ≤ℤ g k)
    → along (λ k. f k +ℤ g k) first n table ≡ add_ends (along f first n table) (along g first n table)
unfolding weighted_ends
along-plus f g first zero table x y = refl
along-plus f g first (suc n) [] x y = refl
along-plus f g first (suc n) (e ∷ table) x y =
    ap₂ add_ends (flow-plus (f first) (g first) e (x first) (y first)) (along-plus f g (first + 1) n table x y)
    ∙ crossed (flow_ends (f first) e) (flow_ends (g first) e) (along f (first + 1) n table) (along g (first + 1) n table)

-- nothing in any year
along-none : (f : ℕ → ℤ) (first n : ℕ) (table : List Ends) → ((k : ℕ) → first ≤ k → f k ≡ pos 0) → along f first n table ≡ none
unfolding weighted_ends
along-none f first zero table zeros = refl
along-none f first (suc n) [] zeros = refl
along-none f first (suc n) (e ∷ table) zeros =
    ap₂ add_ends (ap (λ (z : ℤ). flow_ends z e) (zeros first (omega arith)) ∙ flow-none e) (along-none f (first + 1) n table (λ k le. zeros k (omega (arith, le))))
    ∙ zero-add_ends none

-- one amount in one of the years
along-one : (f : ℕ → ℤ) (amount : ℤ) (place first n : ℕ) (table : List Ends) (d : Ends) → f (first + place) ≡ amount → ((k : ℕ) → (k ≡ first + place → ⊥) → f k ≡ pos 0)
    → place < n → length table ≡ n → along f first n table ≡ flow_ends amount (get_or table place d)
unfolding weighted_ends
along-one f amount place first zero table d is others within count = absurd (omega (arith, within))
along-one f amount place first (suc n) [] d is others within count = absurd (omega (arith, count))
along-one f amount zero first (suc n) (e ∷ table) d is others within count =
    ap₂ add_ends (ap (λ (z : ℤ). flow_ends z e) (ap f (omega arith) ∙ is)) (along-none f (first + 1) n table (λ k le. others k (λ same. absurd (omega (arith, le, same)))))
    ∙ add_ends-zero (flow_ends amount e)
along-one f amount (suc place) first (suc n) (e ∷ table) d is others within count =
    ap₂ add_ends (ap (λ (z : ℤ). flow_ends z e) (others first (λ same. absurd (omega (arith, same)))) ∙ flow-none e)
    (along-one f amount place (first + 1) n table d (ap f (omega arith) ∙ is) (λ k other. others k (λ same. other (omega (arith, same)))) (omega (arith, within)) (omega (arith, count)))
    ∙ zero-add_ends (flow_ends amount (get_or table place d))

-- ---- what falls due is at least 0
amount-natural : (years : ℕ) (m : Maturity) (amount : ℤ) → pos 0 ≤ℤ amount → pos 0 ≤ℤ amount_at years m amount
amount-natural years Past amount h = omega (arith, ints)
amount-natural years (Years n) amount h = cond_both (nat_eq n years) amount (pos 0) (λ (z : ℤ). pos 0 ≤ℤ z) (λ same. h) (λ other. omega (arith, ints))
amount-natural years (TooFar n) amount h = omega (arith, ints)

due-natural : (asof : ℤ) (payments : List (Day × ℤ)) (years : ℕ) → All (λ payment. pos 0 ≤ℤ payment.1) payments → pos 0 ≤ℤ due_in asof payments years
unfolding due_in
due-natural asof [] years each = omega (arith, ints)
due-natural asof (p ∷ payments) years each =
    let here = amount-natural years (maturity_of asof p.0.number) p.1 (each 0 p (omega arith)) in
    let rest = due-natural asof payments years (λ k d within. each (suc k) d (omega (arith, within))) in
    omega (arith, ints, here, rest)

-- ---- the first payment and the others
split : (asof : ℤ) (p : Day × ℤ) (payments : List (Day × ℤ)) (table : List Ends) → All (λ payment. pos 0 ≤ℤ payment.1) (p ∷ payments)
    → weighted_ends (dues asof (p ∷ payments)) table
    ≡ add_ends (along (λ years. amount_at years (maturity_of asof p.0.number) p.1) 1 100 table) (weighted_ends (dues asof payments) table)
unfolding due_in
split asof p payments table each =
    along-plus (λ years. amount_at years (maturity_of asof p.0.number) p.1) (due_in asof payments) 1 100 table
    (λ k. amount-natural k (maturity_of asof p.0.number) p.1 (each 0 p (omega arith)))
    (λ k. due-natural asof payments k (λ j d within. each (suc j) d (omega (arith, within))))

past-one : (m : Maturity) (amount : ℤ) (table : List Ends) → m ≡ Past → along (λ years. amount_at years m amount) 1 100 table ≡ none
past-one m amount table is = rw is (along-none (λ years. pos 0) 1 100 table (λ k le. refl))

due-one : (m : Maturity) (amount : ℤ) (place : ℕ) (table : List Ends) (d : Ends) → m ≡ Years (1 + place) → place < 100 → length table ≡ 100
    → along (λ years. amount_at years m amount) 1 100 table ≡ flow_ends amount (get_or table place d)
due-one m amount place table d is within count =
    rw is (along-one (λ years. amount_at years (Years (1 + place)) amount) amount place 1 100 table d (rw (eq-eqb (1 + place) (1 + place) refl) refl)
    (λ k other. rw (ne_eqb (1 + place) k (λ e. other (sym e))) refl) within count)

tail-natural : (i : ℕ) (payments : List (Day × ℤ)) → All (λ payment. pos 0 ≤ℤ payment.1) payments → All (λ payment. pos 0 ≤ℤ payment.1) (drop i payments)
tail-natural zero payments each = each
tail-natural (suc i) [] each = λ k d within. absurd (omega (arith, within))
tail-natural (suc i) (p ∷ payments) each = tail-natural i payments (λ k d within. each (suc k) d (omega (arith, within)))

-- ---- the payments before i: with the others they make the whole, and they lose no more than they are
pub record IsLostBefore (i : ℕ) (asof : ℤ) (pairs : List (Day × ℤ)) (table : List Ends) (sum : Ends) : Type 0 where
  pub so_far : add_ends sum (weighted_ends (dues asof (drop i pairs)) table) ≡ weighted_ends (dues asof pairs) table
  pub low : unsigned_abs sum.low + most * amounts (drop i pairs) ≤ most * amounts pairs
  pub high : unsigned_abs sum.high + most * amounts (drop i pairs) ≤ most * amounts pairs

pub lost-begun : (asof : ℤ) (pairs : List (Day × ℤ)) (table : List Ends) → IsLostBefore 0 asof pairs table none
lost-begun asof pairs table = record { so_far = zero-add_ends (weighted_ends (dues asof pairs) table); low = omega arith; high = omega arith }

module _ (i : ℕ) (asof : ℤ) (pairs : List (Day × ℤ)) (table : List Ends) (sum : Ends) (p : Day × ℤ) (within : i < length pairs) (natural : All (λ payment. pos 0 ≤ℤ payment.1) pairs)
    (h : IsLostBefore i asof pairs table sum) where
  abbrev here : Day × ℤ
  here = get_or pairs i p

  at-split : weighted_ends (dues asof (drop i pairs)) table
      ≡ add_ends (along (λ years. amount_at years (maturity_of asof here.0.number) here.1) 1 100 table) (weighted_ends (dues asof (drop (i + 1) pairs)) table)
  at-split =
      let cut : drop i pairs ≡ here ∷ drop (i + 1) pairs = rw add-one (drop-cons pairs i p within) in
      ap (λ (l : List (Day × ℤ)). weighted_ends (dues asof l) table) cut ∙ split asof here (drop (i + 1) pairs) table (rw cut at (tail-natural i pairs natural))

  sizes : amounts (drop i pairs) ≡ unsigned_abs here.1 + amounts (drop (i + 1) pairs)
  sizes = sum_by-drop (λ (pair : Day × ℤ). unsigned_abs pair.1) pairs i p within

  pub lost-past : maturity_of asof here.0.number ≡ Past → IsLostBefore (i + 1) asof pairs table sum
  lost-past past =
      let rest = weighted_ends (dues asof (drop (i + 1) pairs)) table in
      let low = h.low in
      let high = h.high in
      let size = sizes in
      record {
        so_far = ap (add_ends sum) (sym (at-split ∙ ap (λ (e : Ends). add_ends e rest) (past-one (maturity_of asof here.0.number) here.1 table past) ∙ zero-add_ends rest)) ∙ h.so_far;
        low = omega (arith, low, size);
        high = omega (arith, high, size);
      }

  pub lost-due : (place : ℕ) (term : Ends) (d : Ends) → maturity_of asof here.0.number ≡ Years (1 + place) → place < 100 → length table ≡ 100 → term ≡ flow_ends here.1 (get_or table place d)
      → unsigned_abs term.low ≤ most * unsigned_abs here.1 → unsigned_abs term.high ≤ most * unsigned_abs here.1 → IsLostBefore (i + 1) asof pairs table (add_ends sum term)
  lost-due place term d due few count is low high =
      let rest = weighted_ends (dues asof (drop (i + 1) pairs)) table in
      let size = sizes in
      let low_before = h.low in
      let high_before = h.high in
      record {
        so_far = add_ends-assoc sum term rest
            ∙ ap (add_ends sum) (sym (at-split ∙ ap (λ (e : Ends). add_ends e rest) (due-one (maturity_of asof here.0.number) here.1 place table d due few count ∙ sym is)))
            ∙ h.so_far;
        low = smaller (unsigned_abs here.1) (amounts (drop (i + 1) pairs)) (most * amounts pairs) sum.low term.low low (rw size at low_before);
        high = smaller (unsigned_abs here.1) (amounts (drop (i + 1) pairs)) (most * amounts pairs) sum.high term.high high (rw size at high_before);
      }
    where
      smaller : (f rest all : ℕ) (x y : ℤ) → unsigned_abs y ≤ most * f → unsigned_abs x + most * (f + rest) ≤ all → unsigned_abs (x +ℤ y) + most * rest ≤ all
      smaller f rest all x y small before = omega (arith, ints, small, before)

pub lost-ended : (i : ℕ) (asof : ℤ) (pairs : List (Day × ℤ)) (table : List Ends) (sum : Ends) → length pairs ≤ i → IsLostBefore i asof pairs table sum
    → sum ≡ weighted_ends (dues asof pairs) table
unfolding due_in
lost-ended i asof pairs table sum le h =
    let rest : weighted_ends (dues asof (drop i pairs)) table ≡ none =
    ap (λ (l : List (Day × ℤ)). weighted_ends (dues asof l) table) (drop_all i pairs le) ∙ along-none (λ years. pos 0) 1 100 table (λ k l. refl) in
    sym (add_ends-zero sum) ∙ ap (add_ends sum) (sym rest) ∙ h.so_far

-- one payment is no larger than all together
pub amount-small : (i : ℕ) (pairs : List (Day × ℤ)) (p : Day × ℤ) → i < length pairs → unsigned_abs (get_or pairs i p).1 ≤ amounts pairs
amount-small i pairs p within = get_or-le-sum_by (λ (pair : Day × ℤ). unsigned_abs pair.1) pairs i p within
