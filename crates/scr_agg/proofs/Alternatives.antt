-- Which alternatives something beats, and the lists of those that nothing beats.
use Rattle.std.proofs.Common.{◌≡◌, ℕ, zero, suc, ◌+◌, ◌^◌, ◌<◌, ◌≤◌, pos, Bool, true, false, ltb, inl, inr, ◌⊎◌, subst}
use Rattle.std.proofs.Common.{List, [], ◌∷◌, ◌++◌, length, get_or, sum_by, refl, sym, ap, ◌∙◌, arith, add-one}
use Rattle.std.proofs.Common.{length-append}
use Rattle.std.specs.List.{range_with_len}
use Rattle.std.proofs.lemmas.Bool.{cond-true, cond-false, cases_Bool}
use Rattle.std.proofs.lemmas.List.{length-map, get_or-map}
use Rattle.std.proofs.lemmas.List.Sums.{sum_by-append}
use Rattle.std.proofs.lemmas.List.Folds.{list_any_at, list_any_none}
use Rattle.std.proofs.lemmas.List.FromFn.{length-range_with_len, get_or-range_with_len}
use Rattle.scr_num.specs.Rounding.{exact_ends}
use Rattle.scr_agg.specs.declared.scenario.Scenario.{Scenario}
use Rattle.scr_agg.specs.Unbeaten.{Alternative, alternative, alternatives, alternative_at, beats, is_beaten}
use Rattle.scr_agg.specs.Unbeaten.{unbeaten_below}

-- ---- the alternatives of a list of scenarios
pub length-alternatives : (list : List Scenario) → length (alternatives list) ≡ length list
length-alternatives list = rw length-map refl

pub alternative_of : (list : List Scenario) (j : ℕ) (s : Scenario) → j < length list → s ≡ get_or list j s
    → alternative_at (alternatives list) j ≡ alternative s
alternative_of list j s h e = get_or-map alternative list j s
    (record { gross = exact_ends (pos 0); net = exact_ends (pos 0) }) h ∙ ap alternative (sym e)

-- ---- the one at a place is beaten
abbrev pub Beats : List Alternative → ℕ → ℕ → Bool
Beats list j place = beats (ltb j place) (alternative_at list j) (alternative_at list place)

pub is_beaten-found : (list : List Alternative) (place j : ℕ) → j < length list → Beats list j place ≡ true
    → is_beaten list place ≡ true
unfolding is_beaten
is_beaten-found list place j h e =
    let at : get_or (range_with_len 0 (length list)) j 0 ≡ j = get_or-range_with_len 0 (length list) j 0 h
    ∙ omega arith in
    list_any_at (λ k. Beats list k place) (range_with_len 0 (length list)) j 0 (rw length-range_with_len h)
    (ap (λ k. Beats list k place) at ∙ e)

pub is_beaten-none : (list : List Alternative) (place : ℕ) → ((j : ℕ) → j < length list → Beats list j place ≡ false)
    → is_beaten list place ≡ false
unfolding is_beaten
is_beaten-none list place h =
    list_any_none (λ k. Beats list k place) (range_with_len 0 (length list))
    (λ k d lt. let below : k < length list = rw length-range_with_len at lt in
    ap (λ n. Beats list n place) (get_or-range_with_len 0 (length list) k d below ∙ omega arith) ∙ h k below)

-- ---- the places that nothing beats
pub unbeaten-skip : (list : List Alternative) (n : ℕ) → is_beaten list n ≡ true
    → unbeaten_below list (n + 1) ≡ unbeaten_below list n
unfolding unbeaten_below
unbeaten-skip list n e =
    rw add-one (cond-true (is_beaten list n) (unbeaten_below list n) (unbeaten_below list n ++ n ∷ []) e)

pub unbeaten-next : (list : List Alternative) (n : ℕ) → is_beaten list n ≡ false
    → unbeaten_below list (n + 1) ≡ unbeaten_below list n ++ n ∷ []
unfolding unbeaten_below
unbeaten-next list n e =
    rw add-one (cond-false (is_beaten list n) (unbeaten_below list n) (unbeaten_below list n ++ n ∷ []) e)

pub unbeaten_below-zero : (list : List Alternative) → unbeaten_below list 0 ≡ []
unfolding unbeaten_below
unbeaten_below-zero list = refl

-- place by place: what holds of no place stays with one more, be it beaten or not
pub by_place : (list : List Alternative) (P : ℕ → Type 0) → P 0 → ((n : ℕ) → is_beaten list n ≡ true → P n → P (n + 1))
    → ((n : ℕ) → is_beaten list n ≡ false → P n → P (n + 1))
    → (n : ℕ) → P n
by_place list P none skip next zero = none
by_place list P none skip next (suc n) =
    subst P (add-one n) (step (cases_Bool (is_beaten list n)) (by_place list P none skip next n))
  where
    step : (is_beaten list n ≡ true) ⊎ (is_beaten list n ≡ false) → P n → P (n + 1)
    step (inl e) before = skip n e before
    step (inr e) before = next n e before

-- ---- the mask
pub twice : (n : ℕ) → 2 ^ (n + 1) ≡ 2 ^ n + 2 ^ n
twice n = rw add-one (omega arith)

abbrev pub mask_below : List Alternative → ℕ → ℕ
mask_below list n = sum_by (λ k. 2 ^ k) (unbeaten_below list n)

pub mask-skip : (list : List Alternative) (n : ℕ) → is_beaten list n ≡ true
    → mask_below list (n + 1) ≡ mask_below list n
mask-skip list n e = ap (λ ks. sum_by (λ k. 2 ^ k) ks) (unbeaten-skip list n e)

pub mask-next : (list : List Alternative) (n : ℕ) → is_beaten list n ≡ false
    → mask_below list (n + 1) ≡ mask_below list n + 2 ^ n
mask-next list n e = ap (λ ks. sum_by (λ k. 2 ^ k) ks) (unbeaten-next list n e)
    ∙ sum_by-append (λ k. 2 ^ k) (unbeaten_below list n) (n ∷ []) ∙ omega arith

pub mask_below-lt : (list : List Alternative) (n : ℕ) → mask_below list n < 2 ^ n
mask_below-lt list =
    by_place list (λ n. mask_below list n < 2 ^ n) (rw unbeaten_below-zero (omega arith))
    (λ n e before. omega (arith, mask-skip list n e, twice n, before))
    (λ n e before. omega (arith, mask-next list n e, twice n, before))

-- ---- their number
pub count-skip : (list : List Alternative) (n : ℕ) → is_beaten list n ≡ true
    → length (unbeaten_below list (n + 1)) ≡ length (unbeaten_below list n)
count-skip list n e = ap length (unbeaten-skip list n e)

pub count-next : (list : List Alternative) (n : ℕ) → is_beaten list n ≡ false
    → length (unbeaten_below list (n + 1)) ≡ length (unbeaten_below list n) + 1
count-next list n e = ap length (unbeaten-next list n e) ∙ length-append (unbeaten_below list n) (n ∷ [])

pub count-le : (list : List Alternative) (n : ℕ) → length (unbeaten_below list n) ≤ n
count-le list =
    by_place list (λ n. length (unbeaten_below list n) ≤ n) (rw unbeaten_below-zero (omega arith))
    (λ n e before. omega (arith, count-skip list n e, before))
    (λ n e before. omega (arith, count-next list n e, before))
