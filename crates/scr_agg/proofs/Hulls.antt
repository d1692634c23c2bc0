-- The hull and the greatest of several ends.
use Rattle.std.proofs.Common.{pos, ◌≡◌, ℕ, zero, suc, ◌+◌, ◌<◌, ℤ, ◌≤ℤ◌, List, [], ◌∷◌, ◌++◌, map, fold, length, get_or}
use Rattle.std.proofs.Common.{sym, ap, ap₂, ◌∙◌, arith, true, false, Option, Some, None, inl, inr, ◌⊎◌}
use Rattle.std.specs.Prelude.{IfSome, IfNone}
use Rattle.std.specs.Int.{int_max}
use Rattle.std.specs.Int.Signed.{≤ℤ_refl}
use Rattle.std.proofs.lemmas.Int.{ints, clamps}
use Rattle.std.proofs.lemmas.List.{map-append, length-map, get_or-map}
use Rattle.std.proofs.lemmas.List.Sums.{fold-append}
use Rattle.std.proofs.lemmas.Bool.{cases_lt, true≢false}
use Rattle.scr_num.specs.declared.span.Span.{Span}
use Rattle.scr_num.specs.Fraction.{Fraction, ◌≼◌, over}
use Rattle.scr_num.specs.Rounding.{Ends, ends, exact_ends, hull_ends, max_ends}
use Rattle.scr_num.proofs.Enclosing.{either_max}
use Rattle.scr_agg.specs.Unbeaten.{Covers, chosen_gross, chosen_net, Alternative, alternative_at, hull_of, is_beaten}
use Rattle.scr_agg.specs.Unbeaten.{unbeaten_below, unbeaten, greatest_of}
use Rattle.scr_agg.proofs.Alternatives.{by_place, unbeaten-skip, unbeaten-next, unbeaten_below-zero, count-skip}
use Rattle.scr_agg.proofs.Alternatives.{count-next}

-- ---- the hull
pub covers_same : (e : Ends) → Covers e e
covers_same e = record { low = ≤ℤ_refl e.low; high = ≤ℤ_refl e.high }

pub hull_left : (a b e : Ends) → Covers a e → Covers (hull_ends a b) e
hull_left a b e h = record { low = omega (arith, ints, clamps, h.low); high = omega (arith, ints, clamps, h.high) }

pub hull_right : (a b : Ends) → Covers (hull_ends a b) b
hull_right a b = record { low = omega (arith, ints, clamps); high = omega (arith, ints, clamps) }

-- the hull of one more
pub hull_of-append : (es : List Ends) (e x : Ends) → hull_of ((e ∷ es) ++ x ∷ []) ≡ hull_ends (hull_of (e ∷ es)) x
hull_of-append es e x = fold-append hull_ends e es (x ∷ [])

covers_last : (es : List Ends) (x : Ends) → Covers (hull_of (es ++ x ∷ [])) x
covers_last [] x = covers_same x
covers_last (e ∷ es) x = rw (hull_of-append es e x) (hull_right (hull_of (e ∷ es)) x)

covers_more : (es : List Ends) (x y : Ends) → 0 < length es → Covers (hull_of es) y → Covers (hull_of (es ++ x ∷ [])) y
covers_more [] x y some h = absurd (omega arith)
covers_more (e ∷ es) x y some h = rw (hull_of-append es e x) (hull_left (hull_of (e ∷ es)) x y h)

-- ---- the hull of the gross requirements that nothing beats
abbrev pub gross_at : List Alternative → ℕ → Ends
gross_at list k = (alternative_at list k).gross

abbrev pub hull_below : List Alternative → ℕ → Ends
hull_below list n = hull_of (map (gross_at list) (unbeaten_below list n))

hull-skip : (list : List Alternative) (n : ℕ) → is_beaten list n ≡ true → hull_below list (n + 1) ≡ hull_below list n
hull-skip list n e = ap (λ ks. hull_of (map (gross_at list) ks)) (unbeaten-skip list n e)

hull-next : (list : List Alternative) (n : ℕ) → is_beaten list n ≡ false
    → hull_below list (n + 1) ≡ hull_of (map (gross_at list) (unbeaten_below list n) ++ gross_at list n ∷ [])
hull-next list n e = ap (λ ks. hull_of (map (gross_at list) ks)) (unbeaten-next list n e)
    ∙ ap hull_of (map-append (gross_at list) (unbeaten_below list n) (n ∷ []))

-- each of them below n is held, and then there is one
record CoversBelow (list : List Alternative) (n : ℕ) : Type 0 where
  each : (i : ℕ) → i < n → is_beaten list i ≡ false → Covers (hull_below list n) (gross_at list i)
  some : (i : ℕ) → i < n → is_beaten list i ≡ false → 0 < length (unbeaten_below list n)

covers-skip : (list : List Alternative) (n : ℕ) → is_beaten list n ≡ true → CoversBelow list n → CoversBelow list (n + 1)
covers-skip list n e h =
    let before : (i : ℕ) → i < n + 1 → is_beaten list i ≡ false → i < n = λ i lt unbeaten.
    elim (cases_lt i n) [
      | inl less ↦ less
      | inr more ↦ let at : i ≡ n = omega arith in
          absurd (true≢false (sym e ∙ ap (is_beaten list) (sym at) ∙ unbeaten))
    ] in
    record {
      each = λ i lt unbeaten. rw (hull-skip list n e) (h.each i (before i lt unbeaten) unbeaten);
      some = λ i lt unbeaten. rw (count-skip list n e) (h.some i (before i lt unbeaten) unbeaten);
    }

covers-next : (list : List Alternative) (n : ℕ) → is_beaten list n ≡ false → CoversBelow list n → CoversBelow list (n + 1)
covers-next list n e h =
    let es = map (gross_at list) (unbeaten_below list n) in
    record {
      each = λ i lt unbeaten. rw (hull-next list n e) (elim (cases_lt i n) [
        | inl less ↦ covers_more es (gross_at list n) (gross_at list i) (rw length-map (h.some i less unbeaten))
            (h.each i less unbeaten)
        | inr more ↦ let at : i ≡ n = omega arith in rw at (covers_last es (gross_at list n))
      ]);
      some = λ i lt unbeaten. rw (count-next list n e) (omega arith);
    }

covers_below : (list : List Alternative) (n : ℕ) → CoversBelow list n
covers_below list =
    by_place list (CoversBelow list)
    (record { each = λ i lt. absurd (omega arith); some = λ i lt. absurd (omega arith) })
    (covers-skip list) (covers-next list)

pub hull_covers : (list : List Alternative) (n i : ℕ) → i < n → is_beaten list i ≡ false
    → Covers (hull_below list n) (gross_at list i)
hull_covers list n = (covers_below list n).each

pub some_unbeaten : (list : List Alternative) (n i : ℕ) → i < n → is_beaten list i ≡ false
    → 0 < length (unbeaten_below list n)
some_unbeaten list n = (covers_below list n).some

-- ---- as the code goes
abbrev pub HullSoFar : List Alternative → ℕ → Option Span → Type 0
HullSoFar list n None = unbeaten_below list n ≡ []
HullSoFar list n (Some span) = (ends span ≡ hull_below list n) × (0 < length (unbeaten_below list n))

hull_of-joined : (es : List Ends) (x : Ends) → 0 < length es → hull_of (es ++ x ∷ []) ≡ hull_ends (hull_of es) x
hull_of-joined [] x some = absurd (omega arith)
hull_of-joined (e ∷ es) x some = hull_of-append es e x

pub so_far-start : (list : List Alternative) → HullSoFar list 0 None
so_far-start list = unbeaten_below-zero list

pub so_far-skip : (list : List Alternative) (n : ℕ) (so_far : Option Span) → is_beaten list n ≡ true
    → HullSoFar list n so_far → HullSoFar list (n + 1) so_far
so_far-skip list n None e h = unbeaten-skip list n e ∙ h
so_far-skip list n (Some span) e h = (h.0 ∙ sym (hull-skip list n e), rw (count-skip list n e) h.1)

pub so_far-next : (list : List Alternative) (n : ℕ) (so_far : Option Span) (next result : Span)
    → is_beaten list n ≡ false → ends next ≡ gross_at list n
    → IfSome so_far (λ span. ends result ≡ hull_ends (ends span) (ends next)) → IfNone so_far (ends result ≡ ends next)
    → HullSoFar list n so_far → HullSoFar list (n + 1) (Some result)
so_far-next list n None next result e at joined alone h = (
  alone ∙ at ∙ sym (hull-next list n e ∙ ap (λ ks. hull_of (map (gross_at list) ks ++ gross_at list n ∷ [])) h),
  rw (count-next list n e) (omega arith),
)
so_far-next list n (Some span) next result e at joined alone h = (
  joined ∙ ap₂ hull_ends h.0 at
      ∙ sym (hull-next list n e ∙ hull_of-joined (map (gross_at list) (unbeaten_below list n)) (gross_at list n)
      (rw length-map h.1)),
  rw (count-next list n e) (omega arith),
)

-- ---- the greatest
-- it is at least each
pub greatest_above : (e : Ends) (es : List Ends)
    → (e.high ≤ℤ (fold max_ends e es).high)
    × ((k : ℕ) (d : Ends) → k < length es → (get_or es k d).high ≤ℤ (fold max_ends e es).high)
greatest_above e [] = (≤ℤ_refl e.high, λ k d lt. absurd (omega arith))
greatest_above e (x ∷ xs) =
    let rest = greatest_above (max_ends e x) xs in
    let raised : e.high ≤ℤ (max_ends e x).high = omega (arith, ints, clamps) in
    let over_x : x.high ≤ℤ (max_ends e x).high = omega (arith, ints, clamps) in
    (along _ _ _ raised rest.0, at (fold max_ends (max_ends e x) xs).high (along _ _ _ over_x rest.0) rest.1)
  where
    along : (a b c : ℤ) → a ≤ℤ b → b ≤ℤ c → a ≤ℤ c
    along a b c h k = omega (arith, ints)

    at : (top : ℤ) → x.high ≤ℤ top → ((k : ℕ) (d : Ends) → k < length xs → (get_or xs k d).high ≤ℤ top)
        → (k : ℕ) (d : Ends) → k < length (x ∷ xs) → (get_or (x ∷ xs) k d).high ≤ℤ top
    at top here there zero d lt = here
    at top here there (suc k) d lt = there k d (omega arith)

-- where each low is at most q, so is its own
pub greatest_below : (unit : ℕ) (positive : 0 < unit) (q : Fraction) (e : Ends) (es : List Ends)
    → over e.low unit positive ≼ q
    → ((k : ℕ) (d : Ends) → k < length es → over (get_or es k d).low unit positive ≼ q)
    → over (fold max_ends e es).low unit positive ≼ q
greatest_below unit positive q e [] here there = here
greatest_below unit positive q e (x ∷ xs) here there =
    greatest_below unit positive q (max_ends e x) xs
    (either (either_max e.low x.low) here (there 0 x (omega arith))) (λ k d lt. there (suc k) d (omega arith))
  where
    either : (int_max e.low x.low ≡ e.low) ⊎ (int_max e.low x.low ≡ x.low) → over e.low unit positive ≼ q
        → over x.low unit positive ≼ q → over (int_max e.low x.low) unit positive ≼ q
    either (inl same) a b = rw same a
    either (inr same) a b = rw same b

-- ---- what covers each covers the one chosen
-- an operator on ends whose answer lies between all ends that its arguments lie between
KeepsWithin : (Ends → Ends → Ends) → Type 0
KeepsWithin op = (wide a b : Ends) → Covers wide a → Covers wide b → Covers wide (op a b)

hull_keeps : KeepsWithin hull_ends
unfolding KeepsWithin
hull_keeps wide a b h k =
    record { low = omega (arith, ints, clamps, h.low, k.low); high = omega (arith, ints, clamps, h.high, k.high) }

max_keeps : KeepsWithin max_ends
unfolding KeepsWithin
max_keeps wide a b h k =
    record { low = omega (arith, ints, clamps, h.low, k.low); high = omega (arith, ints, clamps, h.high, k.high) }

fold_within : (op : Ends → Ends → Ends) → KeepsWithin op → (wide e : Ends) (es : List Ends) → Covers wide e
    → ((k : ℕ) (d : Ends) → k < length es → Covers wide (get_or es k d))
    → Covers wide (fold op e es)
unfolding KeepsWithin
fold_within op keeps wide e [] here there = here
fold_within op keeps wide e (x ∷ xs) here there =
    fold_within op keeps wide (op e x) xs (keeps wide e x here (there 0 x (omega arith)))
    (λ k d lt. there (suc k) d (omega arith))

hull_of-within : (wide : Ends) (es : List Ends) → Covers wide (exact_ends (pos 0))
    → ((k : ℕ) (d : Ends) → k < length es → Covers wide (get_or es k d)) → Covers wide (hull_of es)
hull_of-within wide [] none each = none
hull_of-within wide (e ∷ es) none each =
    fold_within hull_ends hull_keeps wide e es (each 0 e (omega arith)) (λ k d lt. each (suc k) d (omega arith))

greatest_of-within : (wide : Ends) (es : List Ends) → Covers wide (exact_ends (pos 0))
    → ((k : ℕ) (d : Ends) → k < length es → Covers wide (get_or es k d)) → Covers wide (greatest_of es)
greatest_of-within wide [] none each = none
greatest_of-within wide (e ∷ es) none each =
    fold_within max_ends max_keeps wide e es (each 0 e (omega arith)) (λ k d lt. each (suc k) d (omega arith))

-- a place that nothing beats is one of the list
record PlacesBelow (ks : List ℕ) (n : ℕ) : Type 0 where
  each : (k : ℕ) → k < length ks → get_or ks k 0 < n

one_more : (ks : List ℕ) (n : ℕ) → PlacesBelow ks n → PlacesBelow (ks ++ n ∷ []) (n + 1)
one_more [] n h = record { each = λ k lt. let first : k ≡ 0 = omega arith in rw first (omega arith) }
one_more (j ∷ ks) n h = record {
  each = at (one_more ks n (record { each = λ k lt. h.each (suc k) (omega arith) })).each;
}
  where
    here : j < n
    here = h.each 0 (omega arith)

    at : ((k : ℕ) → k < length (ks ++ n ∷ []) → get_or (ks ++ n ∷ []) k 0 < n + 1) → (k : ℕ)
        → k < length (j ∷ ks ++ n ∷ []) → get_or (j ∷ (ks ++ n ∷ [])) k 0 < n + 1
    at rest zero lt = omega (arith, here)
    at rest (suc k) lt = rest k (omega arith)

places : (list : List Alternative) (n : ℕ) → PlacesBelow (unbeaten_below list n) n
places list =
    by_place list (λ n. PlacesBelow (unbeaten_below list n) n)
    (rw unbeaten_below-zero (record { each = λ k lt. absurd (omega arith) }))
    (λ n e h. rw (unbeaten-skip list n e) (record { each = λ k lt. let below = h.each k lt in omega arith }))
    (λ n e h. rw (unbeaten-next list n e) (one_more (unbeaten_below list n) n h))

pub chosen_gross-within : (wide : Ends) (list : List Alternative) → Covers wide (exact_ends (pos 0))
    → ((k : ℕ) → k < length list → Covers wide (alternative_at list k).gross)
    → Covers wide (chosen_gross list)
chosen_gross-within wide list none each =
    hull_of-within wide (map (gross_at list) (unbeaten list)) none
    (λ k d lt. let within : k < length (unbeaten list) = rw length-map at lt in
    rw (get_or-map (gross_at list) (unbeaten list) k 0 d within)
    (each (get_or (unbeaten list) k 0) ((places list (length list)).each k within)))

pub chosen_net-within : (wide : Ends) (list : List Alternative) → Covers wide (exact_ends (pos 0))
    → ((k : ℕ) → k < length list → Covers wide (alternative_at list k).net)
    → Covers wide (chosen_net list)
chosen_net-within wide list none each =
    greatest_of-within wide (map (λ (a : Alternative). a.net) list) none
    (λ k d lt. let within : k < length list = rw length-map at lt in
    rw (get_or-map (λ (a : Alternative). a.net) list k (record { gross = exact_ends (pos 0); net = exact_ends (pos 0) })
    d within) (each k within))
