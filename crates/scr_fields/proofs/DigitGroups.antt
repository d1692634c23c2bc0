-- Groups of digits in front of a text, tested by the bits of a mask, and what they stand for.
use Rattle.std.proofs.Common.{◌≡◌, ℕ, zero, suc, ◌+◌, ◌-◌, ◌*◌, ◌%◌, ◌<◌, ◌≤◌, ◌^◌, Bool, true, false, List, [], ◌∷◌, map, length, take, drop, get_or, cond, refl, ap, sym, ◌∙◌, arith, inl, inr, take-add}
use Rattle.std.specs.Char.{is_ascii_digit}
use Rattle.std.specs.List.{list_all}
use Rattle.std.proofs.lemmas.Bool.{cases_Bool, and_from, and_parts}
use Rattle.std.proofs.lemmas.List.Folds.{list_all-append}
use native.Mathlib.Nat.{two-pow-succ}
use lib.Lanes.{mask_l, chunk}
use Rattle.scr_fields.specs.Numbers.{decimal_value}
use Rattle.scr_fields.proofs.Decimals.{digit_at}

-- ---- what a mask tells

-- where all its bits are set, all pass
all_set : (p : ℕ → Bool) (bs : List ℕ) → mask_l (map p bs) + 1 ≡ 2 ^ length bs → list_all p bs ≡ true
all_set p [] h = refl
all_set p (b ∷ bs) h = elim (cases_Bool (p b)) [
  | inl own ↦
      let less : mask_l (map p bs) + 1 ≡ 2 ^ length bs = omega (arith, two-pow-succ (length bs), rw own at h) in
      and_from (p b) (list_all p bs) own (all_set p bs less)
  | inr other ↦ absurd (omega (arith, two-pow-succ (length bs), rw other at h))
]

pub all_eight : (text : List ℕ) (m : ℕ) → 8 ≤ length text → m ≡ mask_l (map is_ascii_digit (chunk 0 8 text)) → m ≡ 255
    → list_all is_ascii_digit (take 8 text) ≡ true
all_eight (a ∷ b ∷ c ∷ d ∷ e ∷ f ∷ g ∷ h ∷ rest) m long is full =
    let ds = a ∷ b ∷ c ∷ d ∷ e ∷ f ∷ g ∷ h ∷ [] in
    let mask : mask_l (map is_ascii_digit ds) ≡ 255 = sym is ∙ full in
    all_set is_ascii_digit ds (ap (λ n. n + 1) mask)
all_eight [] m long is full = absurd (omega (arith, long))
all_eight (a ∷ []) m long is full = absurd (omega (arith, long))
all_eight (a ∷ b ∷ []) m long is full = absurd (omega (arith, long))
all_eight (a ∷ b ∷ c ∷ []) m long is full = absurd (omega (arith, long))
all_eight (a ∷ b ∷ c ∷ d ∷ []) m long is full = absurd (omega (arith, long))
all_eight (a ∷ b ∷ c ∷ d ∷ e ∷ []) m long is full = absurd (omega (arith, long))
all_eight (a ∷ b ∷ c ∷ d ∷ e ∷ f ∷ []) m long is full = absurd (omega (arith, long))
all_eight (a ∷ b ∷ c ∷ d ∷ e ∷ f ∷ g ∷ []) m long is full = absurd (omega (arith, long))

odd : (x : ℕ) → (0 + 2 * x) % 16 ≡ 15 → ⊥
odd x h = omega (arith, h)

third : (x : ℕ) → (1 + 2 * (0 + 2 * x)) % 16 ≡ 15 → ⊥
third x h = omega (arith, h)

seventh : (x : ℕ) → (1 + 2 * (1 + 2 * (0 + 2 * x))) % 16 ≡ 15 → ⊥
seventh x h = omega (arith, h)

-- four bits that are set
low : (a b c d : Bool) (m : ℕ)
    → (cond a 1 0 + 2 * (cond b 1 0 + 2 * (cond c 1 0 + 2 * (cond d 1 0 + 2 * m)))) % 16 ≡ 15
    → (a ≡ true) × (b ≡ true) × (c ≡ true) × (d ≡ true)
low false b c d m h =
    absurd (odd (cond b 1 0 + 2 * (cond c 1 0 + 2 * (cond d 1 0 + 2 * m))) h)
low true false c d m h = absurd (third (cond c 1 0 + 2 * (cond d 1 0 + 2 * m)) h)
low true true false d m h = absurd (seventh (cond d 1 0 + 2 * m) h)
low true true true false m h = absurd (omega (arith, h))
low true true true true m h = (refl, refl, refl, refl)

pub all_four : (text : List ℕ) (m : ℕ) → 8 ≤ length text → m ≡ mask_l (map is_ascii_digit (chunk 0 8 text)) → m % 16 ≡ 15
    → list_all is_ascii_digit (take 4 text) ≡ true
all_four (a ∷ b ∷ c ∷ d ∷ e ∷ f ∷ g ∷ h ∷ rest) m long is full =
    let all = low (is_ascii_digit a) (is_ascii_digit b) (is_ascii_digit c) (is_ascii_digit d)
    (mask_l (map is_ascii_digit (e ∷ f ∷ g ∷ h ∷ []))) (ap (λ n. n % 16) (sym is) ∙ full) in
    and_from (is_ascii_digit a) _ all.0
    (and_from (is_ascii_digit b) _ all.1 (and_from (is_ascii_digit c) _ all.2 (and_from (is_ascii_digit d) true all.3 refl)))
all_four [] m long is full = absurd (omega (arith, long))
all_four (a ∷ []) m long is full = absurd (omega (arith, long))
all_four (a ∷ b ∷ []) m long is full = absurd (omega (arith, long))
all_four (a ∷ b ∷ c ∷ []) m long is full = absurd (omega (arith, long))
all_four (a ∷ b ∷ c ∷ d ∷ []) m long is full = absurd (omega (arith, long))
all_four (a ∷ b ∷ c ∷ d ∷ e ∷ []) m long is full = absurd (omega (arith, long))
all_four (a ∷ b ∷ c ∷ d ∷ e ∷ f ∷ []) m long is full = absurd (omega (arith, long))
all_four (a ∷ b ∷ c ∷ d ∷ e ∷ f ∷ g ∷ []) m long is full = absurd (omega (arith, long))

front_at : (p : ℕ → Bool) (n : ℕ) (xs : List ℕ) (k : ℕ) → list_all p (take n xs) ≡ true → k < n → k < length xs
    → p (get_or xs k 0) ≡ true
front_at p zero xs k all few within = absurd (omega (arith, few))
front_at p (suc n) [] k all few within = absurd (omega (arith, within))
front_at p (suc n) (x ∷ xs) zero all few within = (and_parts (p x) (list_all p (take n xs)) all).0
front_at p (suc n) (x ∷ xs) (suc k) all few within =
    front_at p n xs k (and_parts (p x) (list_all p (take n xs)) all).1 (omega (arith, few)) (omega (arith, within))

-- where those in front are digits, each of them is
pub digit_in_front : (n : ℕ) (text : List ℕ) (k : ℕ) → list_all is_ascii_digit (take n text) ≡ true → n ≤ length text → k < n
    → is_ascii_digit (get_or text k 0) ≡ true
digit_in_front n text k all within few = front_at is_ascii_digit n text k all few (omega (arith, within, few))

-- ---- what four digits stand for, and eight

-- their codes, each in its place, are the number and the code of `0` in each place
pub record Four (text : List ℕ) : Type 0 where
  pub value : get_or text 0 0 * 1000 + get_or text 1 0 * 100 + get_or text 2 0 * 10 + get_or text 3 0
      ≡ decimal_value (take 4 text) + 53_328
  pub small : decimal_value (take 4 text) < 10 ^ 4

placed : (a b c d one two three four : ℕ) → one + 48 ≡ a → two + 48 ≡ one * 10 + b → three + 48 ≡ two * 10 + c
    → four + 48 ≡ three * 10 + d → a * 1000 + b * 100 + c * 10 + d ≡ four + 53_328
placed a b c d one two three four s1 s2 s3 s4 = omega (arith, s1, s2, s3, s4)

below : (a b c d one two three four : ℕ) → one + 48 ≡ a → two + 48 ≡ one * 10 + b → three + 48 ≡ two * 10 + c
    → four + 48 ≡ three * 10 + d → a < 58 → b < 58 → c < 58 → d < 58 → four < 10 ^ 4
below a b c d one two three four s1 s2 s3 s4 ha hb hc hd = omega (arith, s1, s2, s3, s4, ha, hb, hc, hd)

pub four_read : (text : List ℕ) → 4 ≤ length text → list_all is_ascii_digit (take 4 text) ≡ true → Four text
four_read (a ∷ b ∷ c ∷ d ∷ rest) long all =
    let ds = a ∷ b ∷ c ∷ d ∷ [] in
    let at_a : (48 ≤ a) × (a < 58) = digit_at ds 0 all (omega arith) in
    let at_b : (48 ≤ b) × (b < 58) = digit_at ds 1 all (omega arith) in
    let at_c : (48 ≤ c) × (c < 58) = digit_at ds 2 all (omega arith) in
    let at_d : (48 ≤ d) × (d < 58) = digit_at ds 3 all (omega arith) in
    let one = decimal_value (a ∷ []) in
    let two = decimal_value (a ∷ b ∷ []) in
    let three = decimal_value (a ∷ b ∷ c ∷ []) in
    let four = decimal_value ds in
    let s1 : one + 48 ≡ a = omega (arith, at_a) in
    let s2 : two + 48 ≡ one * 10 + b = omega (arith, at_b) in
    let s3 : three + 48 ≡ two * 10 + c = omega (arith, at_c) in
    let s4 : four + 48 ≡ three * 10 + d = omega (arith, at_d) in
    record {
      value = placed a b c d one two three four s1 s2 s3 s4;
      small = below a b c d one two three four s1 s2 s3 s4 at_a.1 at_b.1 at_c.1 at_d.1;
    }
four_read [] long all = absurd (omega (arith, long))
four_read (a ∷ []) long all = absurd (omega (arith, long))
four_read (a ∷ b ∷ []) long all = absurd (omega (arith, long))
four_read (a ∷ b ∷ c ∷ []) long all = absurd (omega (arith, long))

joined : (four e f g h : ℕ) → (((four * 10 + e) * 10 + f) * 10 + g) * 10 + h ≡ four * 10000 + ((((0 * 10 + e) * 10 + f) * 10 + g) * 10 + h)
joined four e f g h = omega arith

pub eight_is : (text : List ℕ) → 8 ≤ length text
    → decimal_value (take 8 text) ≡ decimal_value (take 4 text) * 10000 + decimal_value (take 4 (drop 4 text))
eight_is (a ∷ b ∷ c ∷ d ∷ e ∷ f ∷ g ∷ h ∷ rest) long =
    joined (decimal_value (a ∷ b ∷ c ∷ d ∷ [])) (e - 48) (f - 48) (g - 48) (h - 48)
eight_is [] long = absurd (omega (arith, long))
eight_is (a ∷ []) long = absurd (omega (arith, long))
eight_is (a ∷ b ∷ []) long = absurd (omega (arith, long))
eight_is (a ∷ b ∷ c ∷ []) long = absurd (omega (arith, long))
eight_is (a ∷ b ∷ c ∷ d ∷ []) long = absurd (omega (arith, long))
eight_is (a ∷ b ∷ c ∷ d ∷ e ∷ []) long = absurd (omega (arith, long))
eight_is (a ∷ b ∷ c ∷ d ∷ e ∷ f ∷ []) long = absurd (omega (arith, long))
eight_is (a ∷ b ∷ c ∷ d ∷ e ∷ f ∷ g ∷ []) long = absurd (omega (arith, long))

halves : (text : List ℕ) → list_all is_ascii_digit (take 8 text) ≡ true
    → (list_all is_ascii_digit (take 4 text) ≡ true) × (list_all is_ascii_digit (take 4 (drop 4 text)) ≡ true)
halves text all =
    and_parts (list_all is_ascii_digit (take 4 text)) (list_all is_ascii_digit (take 4 (drop 4 text)))
    (sym (ap (list_all is_ascii_digit) (take-add 4 4 text)
    ∙ list_all-append is_ascii_digit (take 4 text) (take 4 (drop 4 text))) ∙ all)

pub first_half : (text : List ℕ) → list_all is_ascii_digit (take 8 text) ≡ true → list_all is_ascii_digit (take 4 text) ≡ true
first_half text all = (halves text all).0

pub second_half : (text : List ℕ) → list_all is_ascii_digit (take 8 text) ≡ true
    → list_all is_ascii_digit (take 4 (drop 4 text)) ≡ true
second_half text all = (halves text all).1
