-- The bytes of a block that do not stand for themselves, told by the bits of two masks.
use Rattle.std.proofs.Common.{◌≡◌, ℕ, ◌+◌, ◌-◌, ◌%◌, ◌<◌, ltb, Bool, true, false, not, List, [], ◌∷◌, map, length, take_all, refl, ap, ap₂, sym, ◌∙◌, arith, inl, inr, w8, Fits}
use Rattle.std.specs.Prelude.{◌&&◌, ◌==◌}
use Rattle.std.specs.List.{list_all}
use Rattle.std.proofs.lemmas.Bool.{cases_Bool}
use lib.Lanes.{mask_l, chunk, Each1}
use Rattle.scr_csv.specs.LineFields.{is_plain, is_printed, is_unprinted, is_quote}

-- a byte less another, where 255 follows below 0
abbrev pub less : ℕ → ℕ → ℕ
less a b = (a + (256 - b)) % 256

-- counted from 127 on, the bytes that are not printed come first
lane : (b : ℕ) → b < 256 → ltb (less b 127) 161 ≡ is_unprinted b
lane b small = grind (arith, small)

pub lanes : (bs : List ℕ) → Each1 (Fits w8) bs → map (λ b. ltb (less b 127) 161) bs ≡ map is_unprinted bs
lanes [] fits = refl
lanes (b ∷ bs) fits = ap₂ (λ t ts. t ∷ ts) (lane b fits.0.fits) (lanes bs fits.1)

-- ---- no bit is set where no byte is such

clear : (p : ℕ → Bool) (bs : List ℕ) → (mask_l (map p bs) == 0) ≡ list_all (λ b. not (p b)) bs
clear p [] = refl
clear p (b ∷ bs) = let rest = clear p bs in elim (cases_Bool (p b)) [
  | inl own ↦ grind (arith, own)
  | inr other ↦ grind (arith, other, rest)
]

shuffled : (p q r s : Bool) → ((not (not p) && r) && (not q && s)) ≡ ((p && not q) && (r && s))
shuffled false q r s = refl
shuffled true q false s = elim q as (λ q. ((not (not true) && false) && (not q && s)) ≡ ((true && not q) && (false && s)))
    [ true ↦ refl | false ↦ refl ]
shuffled true true true s = refl
shuffled true false true s = refl

both_clear : (bs : List ℕ) → (list_all (λ b. not (is_unprinted b)) bs && list_all (λ b. not (is_quote b)) bs)
    ≡ list_all is_plain bs
both_clear [] = refl
both_clear (b ∷ bs) =
    shuffled (is_printed b) (is_quote b) (list_all (λ b. not (is_unprinted b)) bs) (list_all (λ b. not (is_quote b)) bs)
    ∙ ap (λ rest. is_plain b && rest) (both_clear bs)

whole : (bs : List ℕ) → length bs ≡ 16 → chunk 0 16 bs ≡ bs
whole bs long = take_all 16 bs (omega (arith, long))

told : (bs : List ℕ) (m k : ℕ) → length bs ≡ 16 → m ≡ mask_l (map is_unprinted (chunk 0 16 bs))
    → k ≡ mask_l (map is_quote (chunk 0 16 bs)) → ((m == 0) && (k == 0)) ≡ list_all is_plain bs
told bs m k long odd quotes =
    let all = whole bs long in
    ap₂ (λ a b. (a == 0) && (b == 0)) (odd ∙ ap (λ c. mask_l (map is_unprinted c)) all)
    (quotes ∙ ap (λ c. mask_l (map is_quote c)) all)
    ∙ ap₂ (λ a b. a && b) (clear is_unprinted bs) (clear is_quote bs) ∙ both_clear bs

-- where all are printed, the quotes tell
pub told_printed : (bs : List ℕ) (m k : ℕ) → length bs ≡ 16 → m ≡ mask_l (map is_unprinted (chunk 0 16 bs))
    → k ≡ mask_l (map is_quote (chunk 0 16 bs)) → m ≡ 0 → (k == 0) ≡ list_all is_plain bs
told_printed bs m k long odd quotes none = ap (λ a. (a == 0) && (k == 0)) (sym none) ∙ told bs m k long odd quotes

pub told_unprinted : (bs : List ℕ) (m : ℕ) → length bs ≡ 16 → m ≡ mask_l (map is_unprinted (chunk 0 16 bs))
    → (m ≡ 0 → ⊥) → (m == 0) ≡ list_all is_plain bs
told_unprinted bs m long odd some =
    let other : (m == 0) ≡ false = grind (arith, some) in
    other ∙ ap (λ t. t && (mask_l (map is_quote (chunk 0 16 bs)) == 0)) (sym other)
    ∙ told bs m (mask_l (map is_quote (chunk 0 16 bs))) long odd refl
