-- The digits among eight bytes, told by the bits of a mask.
use Rattle.std.proofs.Common.{◌≡◌, ℕ, ◌+◌, ◌-◌, ◌%◌, ◌<◌, ◌≤◌, ltb, Bool, true, false, not, T, List, [], ◌∷◌, map, length, refl, ap, ap₂, ◌∙◌, arith, w8, Fits}
use Rattle.std.specs.Prelude.{◌&&◌, ◌==◌, slice_index}
use Rattle.std.specs.Char.{is_ascii_digit}
use Rattle.std.proofs.lemmas.Bool.{and_parts}
use lib.Lanes.{mask_l, chunk, Each1}
use Rattle.scr_dates.specs.Text.{has_two_digits}

-- a byte less another, where 255 follows below 0
abbrev pub less : ℕ → ℕ → ℕ
less a b = (a + (256 - b)) % 256

-- less the code of `0`, a digit and no other byte is below 10
lane : (b : ℕ) → b < 256 → ltb (less b 48) 10 ≡ is_ascii_digit b
lane b small = grind (arith, small)

pub lanes : (bs : List ℕ) → Each1 (Fits w8) bs → map (λ b. ltb (less b 48) 10) bs ≡ map is_ascii_digit bs
lanes [] fits = refl
lanes (b ∷ bs) fits = ap₂ (λ t ts. t ∷ ts) (lane b fits.0.fits) (lanes bs fits.1)

-- a test that passes at both truth values passes at each
abbrev both : (Bool → Bool) → Bool
both p = p true && p false

abbrev same : Bool → Bool → Bool
same true b = b
same false b = not b

same_is : (a b : Bool) → T (same a b) → a ≡ b
same_is true true h = refl
same_is true false h = absurd h
same_is false true h = absurd h
same_is false false h = refl

at_each : (p : Bool → Bool) → T (both p) → (b : Bool) → T (p b)
at_each p h true = elim (p true) as (λ t. T (t && p false) → T t) [ true ↦ (λ k. tt) | false ↦ (λ k. k) ] h
at_each p h false = elim (p true) as (λ t. T (t && p false) → T (p false)) [ true ↦ (λ k. k) | false ↦ (λ k. absurd k) ] h

abbrev mask : Bool → Bool → Bool → Bool → Bool → Bool → Bool
mask a b c d e f =
    same (mask_l (a ∷ b ∷ c ∷ d ∷ false ∷ e ∷ f ∷ false ∷ []) == 111) (((a && b) && (c && d)) && (e && f))

-- all bits of a mask but two are set where all six tests pass
pub six_bits : (a b c d e f : Bool)
    → (mask_l (a ∷ b ∷ c ∷ d ∷ false ∷ e ∷ f ∷ false ∷ []) == 111) ≡ (((a && b) && (c && d)) && (e && f))
six_bits a b c d e f =
    let all : T (both (λ a. both (λ b. both (λ c. both (λ d. both (λ e. both (λ f. mask a b c d e f))))))) = tt in
    let of_a = at_each (λ a. both (λ b. both (λ c. both (λ d. both (λ e. both (λ f. mask a b c d e f)))))) all a in
    let of_b = at_each (λ b. both (λ c. both (λ d. both (λ e. both (λ f. mask a b c d e f))))) of_a b in
    let of_c = at_each (λ c. both (λ d. both (λ e. both (λ f. mask a b c d e f)))) of_b c in
    let of_d = at_each (λ d. both (λ e. both (λ f. mask a b c d e f))) of_c d in
    let of_e = at_each (λ e. both (λ f. mask a b c d e f)) of_d e in
    same_is (mask_l (a ∷ b ∷ c ∷ d ∷ false ∷ e ∷ f ∷ false ∷ []) == 111) (((a && b) && (c && d)) && (e && f))
    (at_each (λ f. mask a b c d e f) of_e f)

-- so of a date's first eight bytes, of which two are dashes
pub front_digits : (text : List ℕ) → length text ≡ 10 → slice_index text 4 ≡ 45 → slice_index text 7 ≡ 45
    → (mask_l (map is_ascii_digit (chunk 0 8 text)) == 111)
    ≡ ((has_two_digits text 0 && has_two_digits text 2) && has_two_digits text 5)
front_digits (a ∷ b ∷ c ∷ d ∷ e ∷ f ∷ g ∷ h ∷ i ∷ j ∷ []) long four seven =
    let first : is_ascii_digit e ≡ false = ap is_ascii_digit four in
    let second : is_ascii_digit h ≡ false = ap is_ascii_digit seven in
    ap₂ (λ s t. mask_l (is_ascii_digit a ∷ is_ascii_digit b ∷ is_ascii_digit c ∷ is_ascii_digit d ∷ s
    ∷ is_ascii_digit f ∷ is_ascii_digit g ∷ t ∷ []) == 111) first second
    ∙ six_bits (is_ascii_digit a) (is_ascii_digit b) (is_ascii_digit c) (is_ascii_digit d) (is_ascii_digit f)
    (is_ascii_digit g)
front_digits [] long four seven = absurd (cc)
front_digits (a ∷ []) long four seven = absurd (cc)
front_digits (a ∷ b ∷ []) long four seven = absurd (cc)
front_digits (a ∷ b ∷ c ∷ []) long four seven = absurd (cc)
front_digits (a ∷ b ∷ c ∷ d ∷ []) long four seven = absurd (cc)
front_digits (a ∷ b ∷ c ∷ d ∷ e ∷ []) long four seven = absurd (cc)
front_digits (a ∷ b ∷ c ∷ d ∷ e ∷ f ∷ []) long four seven = absurd (cc)
front_digits (a ∷ b ∷ c ∷ d ∷ e ∷ f ∷ g ∷ []) long four seven = absurd (cc)
front_digits (a ∷ b ∷ c ∷ d ∷ e ∷ f ∷ g ∷ h ∷ []) long four seven = absurd (cc)
front_digits (a ∷ b ∷ c ∷ d ∷ e ∷ f ∷ g ∷ h ∷ i ∷ []) long four seven = absurd (cc)
front_digits (a ∷ b ∷ c ∷ d ∷ e ∷ f ∷ g ∷ h ∷ i ∷ j ∷ k ∷ rest) long four seven = absurd (omega (arith, long))

-- ---- what digits write

digit_in : (b : ℕ) → is_ascii_digit b ≡ true → (48 ≤ b) × (b ≤ 57)
digit_in b h = (grind (arith, h), grind (arith, h))

-- two digits are from 48 to 57
pub pair_in : (text : List ℕ) (k : ℕ) → has_two_digits text k ≡ true
    → ((48 ≤ slice_index text k) × (slice_index text k ≤ 57)) × ((48 ≤ slice_index text (k + 1)) × (slice_index text (k + 1) ≤ 57))
pair_in text k h =
    let parts = and_parts (is_ascii_digit (slice_index text k)) (is_ascii_digit (slice_index text (k + 1))) h in
    (digit_in (slice_index text k) parts.0, digit_in (slice_index text (k + 1)) parts.1)
