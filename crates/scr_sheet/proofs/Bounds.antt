-- What it says of a record's numbers that none is outside its limits.
use Rattle.std.proofs.Common.{◌≡◌, ℕ, ℤ, pos, negsuc, ◌≤◌, ◌≤ℤ◌, List, [], ◌∷◌, Option, Some, None, if◌then◌else◌, refl, ap, arith}
use Rattle.std.proofs.lemmas.Bool.{leb-true, le-leb}
use Rattle.std.proofs.lemmas.Int.{ints}
use Rattle.std.specs.List.{AllByRecursion}
use Rattle.std.specs.Option.{option_or}
use Rattle.scr_sheet.specs.Records.{natural}
use Rattle.scr_sheet.specs.Faults.{outside, above, first_fault}
use Rattle.scr_sheet.specs.Validity.{IsBetween}
use Rattle.scr_sheet.specs.declared.{fault.Fault.Fault, fault.Quantity.Quantity}
use Rattle.scr_sheet.specs.declared.fault.Fault.TheVariants as faults

-- where neither of two has a fault
pub neither : {A : Type 0} (a b : Option A) → option_or a b ≡ None → (a ≡ None) × (b ≡ None)
neither None b h = (refl, h)
neither (Some x) b h = absurd (cc)

pub option_or-none : {A : Type 0} (a : Option A) → option_or a None ≡ a
option_or-none None = refl
option_or-none (Some x) = refl

module _ (quantity : Quantity) (value limit : ℕ) where
  pub within_from_above : above quantity value limit ≡ None → value ≤ limit
  within_from_above h = grind (arith, h, leb-true value limit)

  pub above-within : value ≤ limit → above quantity value limit ≡ None
  above-within h = ap (λ t. if t then None else Some (faults.Range quantity (pos value) (pos limit))) (le-leb value limit h)

pub between_from_outside : (quantity : Quantity) (low high value : ℤ) → outside quantity low high value ≡ None → IsBetween low high value
between_from_outside quantity low high value h = grind (arith, ints, h)

pub all_from_first_fault : {A : Type 0} (fault : A → Option Fault) (xs : List A) → first_fault fault xs ≡ None → AllByRecursion (λ x. fault x ≡ None) xs
all_from_first_fault fault [] none = tt
all_from_first_fault fault (x ∷ xs) none = let both = neither (fault x) (first_fault fault xs) none in (both.0, all_from_first_fault fault xs both.1)

pub natural-le : (most : ℕ) (z : ℤ) → IsBetween (pos 0) (pos most) z → natural z ≤ most
natural-le most (pos n) between = let h = between.1 in omega (arith, ints)
natural-le most (negsuc n) between = let h = between.0 in absurd (omega (arith, ints))

pub natural-is : (z : ℤ) → pos 0 ≤ℤ z → pos (natural z) ≡ z
natural-is (pos n) h = refl
natural-is (negsuc n) h = absurd (omega (arith, ints))
