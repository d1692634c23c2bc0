-- The parts of a value add up.
use Rattle.std.proofs.Common.{◌≡◌, ℕ, zero, suc, ◌+◌, ◌*◌, ◌/◌, ◌<◌, ◌≤◌, List, length, take, sum, refl, ap, subst, ◌∙◌, arith}
use Rattle.std.proofs.lemmas.List.{take_all, take-take}
use Rattle.std.proofs.lemmas.List.Sums.{sum_by-take-le}
use Rattle.std.proofs.Math.Nat.{mul-div_left, mul-zero, zero-div, div-zero, div-mul-le_self, mul-le-mul_left}
use Rattle.std.proofs.lemmas.Nat.{le-div}
use Rattle.scr_funds.specs.Parts.{first_parts, part_of}

div-rises : (a b s : ℕ) → a ≤ b → a / s ≤ b / s
div-rises a b zero l = let none : a / 0 ≡ 0 = div-zero a in omega arith
div-rises a b (suc s) l = le-div (a / suc s) b (suc s) (omega arith)
    (let back : a / suc s * suc s ≤ a = div-mul-le_self a (suc s) in omega arith)

pub first_parts-none : (value : ℕ) (weights : List ℕ) → first_parts value weights 0 ≡ 0
first_parts-none value weights = ap (λ n. n / sum weights) (mul-zero value) ∙ zero-div (sum weights)

pub first_parts-all : (value : ℕ) (weights : List ℕ) → 0 < sum weights
    → first_parts value weights (length weights) ≡ value
first_parts-all value weights positive =
    ap (λ w. value * sum w / sum weights) (take_all (length weights) weights (omega arith))
    ∙ mul-div_left value positive

pub first_parts-step : (value : ℕ) (weights : List ℕ) (k : ℕ)
    → first_parts value weights k + part_of value weights k ≡ first_parts value weights (k + 1)
first_parts-step value weights k =
    let more : sum (take k (take (k + 1) weights)) ≤ sum (take (k + 1) weights) =
    sum_by-take-le (λ w. w) (take (k + 1) weights) k in
    let less : sum (take k weights) ≤ sum (take (k + 1) weights) =
    subst (λ w. sum w ≤ sum (take (k + 1) weights)) (take-take k (k + 1) weights (omega arith)) more in
    let rises : first_parts value weights k ≤ first_parts value weights (k + 1) =
    div-rises (value * sum (take k weights)) (value * sum (take (k + 1) weights)) (sum weights)
    (mul-le-mul_left value less) in
    omega arith

-- the first components have no more than the value, whatever the weights
pub first_parts-within : (value : ℕ) (weights : List ℕ) (k : ℕ) → first_parts value weights k ≤ value
first_parts-within value weights k = by (sum weights) refl
  where
    by : (s : ℕ) → sum weights ≡ s → value * sum (take k weights) / s ≤ value
    by zero e = let none : value * sum (take k weights) / 0 ≡ 0 = div-zero (value * sum (take k weights)) in omega arith
    by (suc s) e =
        let some : sum (take k weights) ≤ sum weights = sum_by-take-le (λ w. w) weights k in
        let most : value * sum (take k weights) / suc s ≤ value * suc s / suc s =
        div-rises (value * sum (take k weights)) (value * suc s) (suc s) (mul-le-mul_left value (omega arith)) in
        let whole : value * suc s / suc s ≡ value = mul-div_left value (omega arith) in
        omega arith
