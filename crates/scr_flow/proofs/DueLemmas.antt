-- The amounts due at each maturity, payment by payment.
use Rattle.std.proofs.Common.{◌≡◌, ℕ, ◌+◌, ◌<◌, ◌≤◌, inl, inr, refl, ap, sym, ◌∙◌, List, length, get_or, set, drop, drop-cons, add-one, map, ℤ, pos, ◌+ℤ◌, unsigned_abs, arith, get_or-set_other, get_or-set_same, length-set, eq-eqb, replicate}
use Rattle.std.proofs.lemmas.List.{get_or-replicate, drop_all}
use Rattle.std.specs.Prelude.{sum_by}
use Rattle.std.specs.List.{range_with_len}
use Rattle.std.proofs.lemmas.Int.{ints}
use Rattle.std.proofs.lemmas.Bool.{cases_eq, ne_eqb}
use Rattle.std.proofs.lemmas.List.Sums.{sum_by-set, get_or-le-sum_by}
use Rattle.scr_dates.specs.declared.day.Day.{Day}
use Rattle.scr_dates.specs.declared.term.Maturity.{Maturity}
use Rattle.scr_dates.specs.declared.term.Maturity.TheVariants.{Past, Years, TooFar}
use Rattle.scr_dates.specs.Payments.{years_of}
use Rattle.scr_dates.specs.Years.{maturity_of}
use Rattle.scr_yield_curve.proofs.CurveLemmas.{list_by_place}
use Rattle.scr_flow.specs.Due.{amount_at, due_in}
use Rattle.scr_flow.proofs.SumLemmas.{sum_by-drop}

abbrev pub amounts : List (Day × ℤ) → ℕ
amounts pairs = sum_by (λ pair. unsigned_abs pair.1) pairs

-- the sums over the payments before i: with the others they make the whole, and they are no larger than their payments
pub record IsDueBefore (i : ℕ) (asof : ℤ) (pairs : List (Day × ℤ)) (flows : List ℤ) : Type 0 where
  pub places : length flows ≡ 100
  pub so_far : (k : ℕ) (d : ℤ) → k < 100 → get_or flows k d +ℤ due_in asof (drop i pairs) (k + 1) ≡ due_in asof pairs (k + 1)
  pub size : sum_by unsigned_abs flows + amounts (drop i pairs) ≤ amounts pairs

due_in-drop : (asof : ℤ) (pairs : List (Day × ℤ)) (years i : ℕ) (d : Day × ℤ) → i < length pairs
    → due_in asof (drop i pairs) years
    ≡ amount_at years (maturity_of asof (get_or pairs i d).0.number) (get_or pairs i d).1 +ℤ due_in asof (drop (i + 1) pairs) years
unfolding due_in
due_in-drop asof pairs years i d within = rw (add-one, drop-cons pairs i d) refl

-- ---- a payment that is past
pub past_added : (i : ℕ) (asof : ℤ) (pairs : List (Day × ℤ)) (flows : List ℤ) (p : Day × ℤ) → i < length pairs → maturity_of asof (get_or pairs i p).0.number ≡ Past
    → IsDueBefore i asof pairs flows → IsDueBefore (i + 1) asof pairs flows
past_added i asof pairs flows p within past h = record {
  places = h.places;
  so_far = λ k d in100.
      let next : due_in asof (drop i pairs) (k + 1) ≡ pos 0 +ℤ due_in asof (drop (i + 1) pairs) (k + 1) = rw past at (due_in-drop asof pairs (k + 1) i p within) in
      let same : due_in asof (drop i pairs) (k + 1) ≡ due_in asof (drop (i + 1) pairs) (k + 1) = omega (arith, ints, next) in
      rw same at (h.so_far k d in100);
  size = let rest = sum_by-drop (λ (pair : Day × ℤ). unsigned_abs pair.1) pairs i p within in let before = h.size in omega (arith, rest, before);
}

-- ---- a payment that falls due after n years
at_its_maturity : (k n : ℕ) (amount : ℤ) → k + 1 ≡ n → amount_at (k + 1) (Years n) amount ≡ amount
at_its_maturity k n amount e = rw (eq-eqb n (k + 1) (sym e)) refl

at_another : (k n : ℕ) (amount : ℤ) → (k + 1 ≡ n → ⊥) → amount_at (k + 1) (Years n) amount ≡ pos 0
at_another k n amount e = rw (ne_eqb n (k + 1) (λ h. e (sym h))) refl

pub due_added : (i : ℕ) (asof : ℤ) (pairs : List (Day × ℤ)) (flows : List ℤ) (p : Day × ℤ) (n place : ℕ) (z : ℤ) → i < length pairs → place + 1 ≡ n → place < 100
    → maturity_of asof (get_or pairs i p).0.number ≡ Years n
    → IsDueBefore i asof pairs flows → IsDueBefore (i + 1) asof pairs (set flows place (get_or flows place z +ℤ (get_or pairs i p).1))
due_added i asof pairs flows p n place z within is in100 due h =
    let amount = (get_or pairs i p).1 in
    let inside : place < length flows = let places = h.places in omega arith in
    record {
      places = length-set flows place _ ∙ h.places;
      so_far = λ k d k_in.
          let rest = due_in asof (drop (i + 1) pairs) (k + 1) in
          let next : due_in asof (drop i pairs) (k + 1) ≡ amount_at (k + 1) (Years n) amount +ℤ rest = rw due at (due_in-drop asof pairs (k + 1) i p within) in
          elim (cases_eq k place) [
            | inl same ↦
                let here : get_or (set flows place (get_or flows place z +ℤ amount)) k d ≡ get_or flows place z +ℤ amount =
                rw same (get_or-set_same flows place (get_or flows place z +ℤ amount) d inside) in
                let old : get_or flows k z ≡ get_or flows place z = ap (λ (j : ℕ). get_or flows j z) same in
                let before = h.so_far k z k_in in
                let paid : due_in asof (drop i pairs) (k + 1) ≡ amount +ℤ rest = next ∙ ap (λ (a : ℤ). a +ℤ rest) (at_its_maturity k n amount (omega (arith, same, is))) in
                moved _ _ amount rest _ _ _ here old before paid
            | inr other ↦
                let here = get_or-set_other flows place k (get_or flows place z +ℤ amount) d other in
                let before = h.so_far k d k_in in
                let paid : due_in asof (drop i pairs) (k + 1) ≡ pos 0 +ℤ rest =
                next ∙ ap (λ (a : ℤ). a +ℤ rest) (at_another k n amount (λ e. other (omega (arith, e, is)))) in
                kept _ _ rest _ _ here before paid
          ];
      size =
          let changed = sum_by-set unsigned_abs flows place (get_or flows place z +ℤ amount) z inside in
          let paid = sum_by-drop (λ (pair : Day × ℤ). unsigned_abs pair.1) pairs i p within in
          let before = h.size in
          sizes (get_or flows place z) amount _ _ _ _ _ changed paid before;
    }
  where
    moved : (x old amount rest left whole here : ℤ) → here ≡ old +ℤ amount → x ≡ old → x +ℤ left ≡ whole → left ≡ amount +ℤ rest → here +ℤ rest ≡ whole
    moved x old amount rest left whole here a b c d = omega (arith, ints, a, b, c, d)

    kept : (x here rest left whole : ℤ) → here ≡ x → x +ℤ left ≡ whole → left ≡ pos 0 +ℤ rest → here +ℤ rest ≡ whole
    kept x here rest left whole a b c = omega (arith, ints, a, b, c)

    sizes : (x a : ℤ) (new old rest left all : ℕ) → new + unsigned_abs x ≡ old + unsigned_abs (x +ℤ a) → left ≡ unsigned_abs a + rest → old + left ≤ all → new + rest ≤ all
    sizes x a new old rest left all changed paid before = omega (arith, ints, changed, paid, before)

-- ---- before the first payment, at each, and after the last
pub due_begun : (asof : ℤ) (pairs : List (Day × ℤ)) → IsDueBefore 0 asof pairs (replicate 100 (pos 0))
due_begun asof pairs = record {
  places = refl;
  so_far = λ k d in100. let none = get_or-replicate 100 k (pos 0) d in100 in omega (arith, ints, none);
  size = omega arith;
}

pub due_small : (i : ℕ) (asof : ℤ) (pairs : List (Day × ℤ)) (flows : List ℤ) (p : Day × ℤ) (place : ℕ) (z : ℤ) → i < length pairs → place < 100 → IsDueBefore i asof pairs flows
    → unsigned_abs (get_or flows place z) + unsigned_abs (get_or pairs i p).1 ≤ amounts pairs
due_small i asof pairs flows p place z within in100 h =
    let places = h.places in
    let size = h.size in
    let inside : place < length flows = omega arith in
    let part = get_or-le-sum_by unsigned_abs flows place z inside in
    let paid = sum_by-drop (λ (pair : Day × ℤ). unsigned_abs pair.1) pairs i p within in
    omega (arith, part, paid, size)

pub due_ended : (i : ℕ) (asof : ℤ) (pairs : List (Day × ℤ)) (flows : List ℤ) → length pairs ≤ i → IsDueBefore i asof pairs flows
    → flows ≡ map (λ years. due_in asof pairs years) (range_with_len 1 100)
unfolding due_in
due_ended i asof pairs flows le h =
    rw h.places at (list_by_place (λ years. due_in asof pairs years) 1 flows
    (λ k d within.
    let places = h.places in
    let sum : get_or flows k d +ℤ pos 0 ≡ due_in asof pairs (k + 1) = rw (drop_all i pairs le) at (h.so_far k d (omega (arith, within, places))) in
    let same : get_or flows k d ≡ due_in asof pairs (k + 1) = omega (arith, ints, sum) in
    same ∙ ap (λ (j : ℕ). due_in asof pairs j) (omega arith)))

-- ---- what the years of a near payment tell of its maturity
pub past-of : (m : Maturity) → ((years : ℕ) → m ≡ TooFar years → ⊥) → ((n : ℕ) → m ≡ Years n → (1 ≤ n) × (n ≤ 100)) → years_of m ≡ 0 → m ≡ Past
past-of Past near within e = refl
past-of (Years n) near within e = let least = (within n refl).0 in absurd (omega (arith, e, least))
past-of (TooFar n) near within e = absurd (near n refl)

pub due-of : (m : Maturity) (n : ℕ) → ((years : ℕ) → m ≡ TooFar years → ⊥) → 1 ≤ n → years_of m ≡ n → m ≡ Years n
due-of Past n near some e = absurd (omega (arith, e, some))
due-of (Years k) n near some e = ap Years e
due-of (TooFar k) n near some e = absurd (near k refl)
