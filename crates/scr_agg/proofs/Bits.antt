-- The bits of the mask.
use Rattle.std.proofs.Common.{◌≡◌, ◌↔◌, ℕ, ◌+◌, ◌-◌, ◌*◌, ◌^◌, ◌<◌, ◌≤◌, true, false, inl, inr, refl, sym, ap, ◌∙◌}
use Rattle.std.proofs.Common.{arith, List, [], ◌∷◌, length, sum_by, bit_and}
use Rattle.std.specs.Prelude.{IsBitSet}
use Rattle.std.specs.Int.{bit_at}
use Rattle.std.specs.Int.RustNames.{count_ones}
use Rattle.std.proofs.lemmas.Nat.{ones_cat}
use Rattle.std.proofs.Math.Nat.{one-le-pow}
use Rattle.std.proofs.lemmas.Bool.{cases_Bool, cases_lt, true≢false}
use Rattle.std.proofs.lemmas.List.Sums.{sum_by-cons}
use Rattle.std.proofs.lemmas.Nat.Bits.{bit_at_above, bit_at_cat_low, bit_at_cat_high, and_pow}
use Rattle.scr_agg.specs.Unbeaten.{Alternative, HasSeveral, is_beaten, unbeaten, unbeaten_below, mask_of}
use Rattle.scr_agg.proofs.Alternatives.{by_place, mask_below, mask-skip, mask-next, mask_below-lt, count-skip}
use Rattle.scr_agg.proofs.Alternatives.{count-next, unbeaten_below-zero}

-- one more bit, above all those of b
above_all : (k b i : ℕ) → b < 2 ^ k → i < k → bit_at (b + 2 ^ k) i ≡ bit_at b i
above_all k b i small lt = let order : b + 2 ^ k ≡ 1 * 2 ^ k + b = omega arith in rw order (bit_at_cat_low 1 k b i lt)

at_top : (k b : ℕ) → b < 2 ^ k → bit_at (b + 2 ^ k) k ≡ 1
at_top k b small =
    let order : b + 2 ^ k ≡ 1 * 2 ^ k + b = omega arith in
    let none : k - k ≡ 0 = omega arith in
    rw (order, bit_at_cat_high 1 k b k small (omega arith), none) refl

record BitsBelow (list : List Alternative) (n : ℕ) : Type 0 where
  set : (i : ℕ) → i < n → is_beaten list i ≡ false → bit_at (mask_below list n) i ≡ 1
  clear : (i : ℕ) → i < n → is_beaten list i ≡ true → bit_at (mask_below list n) i ≡ 0

bits-skip : (list : List Alternative) (n : ℕ) → is_beaten list n ≡ true → BitsBelow list n → BitsBelow list (n + 1)
bits-skip list n e h = record {
  set = λ i lt unbeaten. rw (mask-skip list n e) (elim (cases_lt i n) [
    | inl less ↦ h.set i less unbeaten
    | inr more ↦ let at : i ≡ n = omega arith in absurd (true≢false (sym e ∙ ap (is_beaten list) (sym at) ∙ unbeaten))
  ]);
  clear = λ i lt beaten. rw (mask-skip list n e) (elim (cases_lt i n) [
    | inl less ↦ h.clear i less beaten
    | inr more ↦ let at : i ≡ n = omega arith in
        rw at (bit_at_above (mask_below list n) n n (mask_below-lt list n) (omega arith))
  ]);
}

bits-next : (list : List Alternative) (n : ℕ) → is_beaten list n ≡ false → BitsBelow list n → BitsBelow list (n + 1)
bits-next list n e h = record {
  set = λ i lt unbeaten. rw (mask-next list n e) (elim (cases_lt i n) [
    | inl less ↦ above_all n (mask_below list n) i (mask_below-lt list n) less ∙ h.set i less unbeaten
    | inr more ↦ let at : i ≡ n = omega arith in rw at (at_top n (mask_below list n) (mask_below-lt list n))
  ]);
  clear = λ i lt beaten. rw (mask-next list n e) (elim (cases_lt i n) [
    | inl less ↦ above_all n (mask_below list n) i (mask_below-lt list n) less ∙ h.clear i less beaten
    | inr more ↦ let at : i ≡ n = omega arith in absurd (true≢false (sym beaten ∙ ap (is_beaten list) at ∙ e))
  ]);
}

bits_below : (list : List Alternative) (n : ℕ) → BitsBelow list n
bits_below list =
    by_place list (BitsBelow list) (record { set = λ i lt. absurd (omega arith); clear = λ i lt. absurd (omega arith) })
    (bits-skip list) (bits-next list)

set_from_bit : (m i : ℕ) → bit_at m i ≡ 1 → IsBitSet m i
set_from_bit m i e zero_and =
    let power : 1 ≤ 2 ^ i = one-le-pow i 2 (omega arith) in
    let value : bit_and m (2 ^ i) ≡ 1 * 2 ^ i = and_pow m i ∙ ap (λ b. b * 2 ^ i) e in
    omega arith

bit_clear : (m i : ℕ) → bit_at m i ≡ 0 → bit_and m (2 ^ i) ≡ 0
bit_clear m i e = and_pow m i ∙ ap (λ b. b * 2 ^ i) e ∙ omega arith

pub mask_bits : (list : List Alternative) (i : ℕ) → i < length list
    → IsBitSet (mask_of list) i ↔ (is_beaten list i ≡ false)
mask_bits list i lt = (
  λ bit. elim (cases_Bool (is_beaten list i)) [
    | inl beaten ↦ absurd (bit (bit_clear (mask_of list) i ((bits_below list (length list)).clear i lt beaten)))
    | inr unbeaten ↦ unbeaten
  ],
  λ unbeaten. set_from_bit (mask_of list) i ((bits_below list (length list)).set i lt unbeaten),
)

-- where nothing beats one of them, the mask is not 0
positive : (ks : List ℕ) → 0 < length ks → 1 ≤ sum_by (λ k. 2 ^ k) ks
positive [] some = absurd (omega arith)
positive (k ∷ ks) some = let power : 1 ≤ 2 ^ k = one-le-pow k 2 (omega arith) in rw sum_by-cons (omega arith)

pub mask_positive : (list : List Alternative) → 0 < length (unbeaten list) → 1 ≤ mask_of list
mask_positive list some = positive (unbeaten list) some

-- ---- how many bits are set
one_more : (k b : ℕ) → b < 2 ^ k → count_ones (b + 2 ^ k) ≡ count_ones b + 1
unfolding count_ones
one_more k b small =
    let order : b + 2 ^ k ≡ 1 * 2 ^ k + b = omega arith in
    rw order (omega (arith, ones_cat k 1 b small, one_bit))
  where
    one_bit : count_ones 1 ≡ 1
    one_bit = refl

ones_below : (list : List Alternative) (n : ℕ) → count_ones (mask_below list n) ≡ length (unbeaten_below list n)
unfolding count_ones
ones_below list =
    by_place list (λ n. count_ones (mask_below list n) ≡ length (unbeaten_below list n)) (rw unbeaten_below-zero refl)
    (λ n e before. ap count_ones (mask-skip list n e) ∙ before ∙ sym (count-skip list n e))
    (λ n e before. ap count_ones (mask-next list n e) ∙ one_more n (mask_below list n) (mask_below-lt list n)
    ∙ ap (λ k. k + 1) before ∙ sym (count-next list n e))

pub several_bits : (list : List Alternative) → HasSeveral (mask_of list) ↔ (2 ≤ length (unbeaten list))
several_bits list =
    (λ h. omega (arith, h, ones_below list (length list)), λ h. omega (arith, h, ones_below list (length list)))
