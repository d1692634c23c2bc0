-- A place in two lists, one after the other.
use Rattle.std.proofs.Common.{◌≡◌, ℕ, zero, suc, ◌+◌, List, [], ◌∷◌, ◌++◌, length, Some, slice_get, refl, ap, ◌∙◌, arith, length-append}
use Rattle.scr_nodes.specs.declared.{node.Node.Node, nth.Nth.Nth}
use Rattle.scr_nodes.specs.declared.nth.Nth.TheVariants as nths
use Rattle.scr_nodes.specs.Nth.{IsNth}

in_second : (xs ys : List Node) (left : ℕ) → slice_get (xs ++ ys) (length xs + left) ≡ slice_get ys left
in_second [] ys left = ap (slice_get ys) (omega arith)
in_second (x ∷ xs) ys left =
    let e : length (x ∷ xs) + left ≡ suc (length xs + left) = omega arith in
    ap (slice_get (x ∷ (xs ++ ys))) e ∙ in_second xs ys left

-- what stands past the first list
pub past_first : (xs ys : List Node) (place left : ℕ) → place ≡ length xs + left → (result : Nth) → IsNth ys left result
    → IsNth (xs ++ ys) place result
past_first xs ys place left past (nths.There node) is = ap (slice_get (xs ++ ys)) past ∙ in_second xs ys left ∙ is
past_first xs ys place left past (nths.Past more) is = let long = length-append xs ys in omega (arith, past, is, long)

in_first : (xs ys : List Node) (place : ℕ) (node : Node) → slice_get xs place ≡ Some node
    → slice_get (xs ++ ys) place ≡ Some node
in_first [] ys place node is = absurd (cc)
in_first (x ∷ xs) ys zero node is = is
in_first (x ∷ xs) ys (suc place) node is = in_first xs ys place node is

-- what stands in the first list
pub first_there : (xs ys : List Node) (place : ℕ) (result : Nth) → ((left : ℕ) → result ≡ nths.Past left → ⊥)
    → IsNth xs place result → IsNth (xs ++ ys) place result
first_there xs ys place (nths.There node) there is = in_first xs ys place node is
first_there xs ys place (nths.Past left) there is = absurd (there left refl)
