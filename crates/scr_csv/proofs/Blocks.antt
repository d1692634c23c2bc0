-- What holds of each byte of a text holds of those of its blocks, of which the last may overlap the one before it.
use Rattle.std.proofs.Common.{◌≡◌, ℕ, ◌+◌, ◌-◌, ◌≤◌, Bool, true, false, List, take, drop, refl, ap, ap₂, sym, ◌∙◌, arith, take-append-drop, take-add}
use Rattle.std.specs.Prelude.{◌&&◌}
use Rattle.std.specs.List.{list_all}
use Rattle.std.proofs.lemmas.List.Folds.{list_all-append}

and_twice : (a b c : Bool) → ((a && b) && (b && c)) ≡ (a && (b && c))
and_twice true true c = refl
and_twice true false c = refl
and_twice false b c = refl

and_none : (a b c : Bool) → b ≡ false → ((a && b) && c) ≡ false
and_none true false c h = refl
and_none false false c h = refl
and_none a true c h = absurd (cc)

split : (p : ℕ → Bool) (n : ℕ) (bs : List ℕ) → list_all p bs ≡ (list_all p (take n bs) && list_all p (drop n bs))
split p n bs = ap (list_all p) (sym (take-append-drop n bs)) ∙ list_all-append p (take n bs) (drop n bs)

pub block_more : (p : ℕ → Bool) (bs : List ℕ) (at count : ℕ)
    → list_all p (take (at + count) bs) ≡ (list_all p (take at bs) && list_all p (take count (drop at bs)))
block_more p bs at count =
    ap (list_all p) (take-add at count bs) ∙ list_all-append p (take at bs) (take count (drop at bs))

-- one more block that passes, and one that does not
pub block_passes : (p : ℕ → Bool) (bs : List ℕ) (at count : ℕ) → list_all p (take at bs) ≡ true
    → list_all p (take count (drop at bs)) ≡ true → list_all p (take (at + count) bs) ≡ true
block_passes p bs at count before here = block_more p bs at count ∙ rw (before, here) refl

pub block_fails : (p : ℕ → Bool) (bs : List ℕ) (at count : ℕ) → list_all p (take count (drop at bs)) ≡ false
    → list_all p bs ≡ false
block_fails p bs at count here =
    split p (at + count) bs
    ∙ ap (λ t. t && list_all p (drop (at + count) bs)) (block_more p bs at count)
    ∙ and_none (list_all p (take at bs)) (list_all p (take count (drop at bs))) (list_all p (drop (at + count) bs)) here

overlap : (p : ℕ → Bool) (bs : List ℕ) (last more : ℕ)
    → (list_all p (take (last + more) bs) && list_all p (drop last bs)) ≡ list_all p bs
overlap p bs last more =
    let rest = drop last bs in
    let parts = split p more rest in
    ap₂ (λ a b. a && b) (block_more p bs last more) parts
    ∙ and_twice (list_all p (take last bs)) (list_all p (take more rest)) (list_all p (drop more rest))
    ∙ sym (split p last bs ∙ ap (λ b. list_all p (take last bs) && b) parts)

-- what is left tells of the whole, where all before it pass
pub rest_tells : (p : ℕ → Bool) (bs : List ℕ) (last at : ℕ) → last ≤ at → list_all p (take at bs) ≡ true
    → list_all p (drop last bs) ≡ list_all p bs
rest_tells p bs last at past before =
    let ends : at ≡ last + (at - last) = omega (arith, past) in
    let all : list_all p (take (last + (at - last)) bs) ≡ true = ap (λ k. list_all p (take k bs)) (sym ends) ∙ before in
    sym (ap (λ t. t && list_all p (drop last bs)) all) ∙ overlap p bs last (at - last)
