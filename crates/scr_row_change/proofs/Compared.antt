-- Tests of what is read of rows, and what they decide.
use Rattle.std.proofs.Common.{◌≡◌, ◌⊎◌, ℕ, ℤ, Bool, true, false, ◌&&◌, List, Option, Some, None, int_eq, nat_eq, refl, ap, inl, inr}
use Rattle.std.specs.Bool.{Decides, beq}
use Rattle.std.specs.Option.{option_eq}
use Rattle.std.proofs.lemmas.Bool.Decides.{Decides-and, Decides-eqb, Decides-int_eq, Decides-like}
use Rattle.std.proofs.lemmas.Slice.Eq.{slice_eq-Decides}
use Rattle.scr_dates.specs.declared.day.Day.{Day}
use Rattle.scr_row_change.specs.Comparisons.{same_payment, same_payments, same_rates}

-- what always holds
pub always : {P : Type 0} → P → Decides true P
always p = ((λ e. p), (λ q. refl))

pub Decides-payments : (xs ys : List (Day × ℤ)) → Decides (same_payments xs ys) (xs ≡ ys)
Decides-payments xs ys = slice_eq-Decides each xs ys (same_payments xs ys) refl
  where
    both : (a b : Day × ℤ) → (a.0.number ≡ b.0.number) × (a.1 ≡ b.1) → a ≡ b
    both a b h = λ i. (record { number = h.0 i }, h.1 i)

    parts : (a b : Day × ℤ) → a ≡ b → (a.0.number ≡ b.0.number) × (a.1 ≡ b.1)
    parts a b e = (ap (λ (p : Day × ℤ). p.0.number) e, ap (λ (p : Day × ℤ). p.1) e)

    each : (a b : Day × ℤ) → Decides (same_payment a b) (a ≡ b)
    each a b = Decides-like (same_payment a b) (both a b) (parts a b)
        (Decides-and (int_eq a.0.number b.0.number) (int_eq a.1 b.1) (Decides-int_eq a.0.number b.0.number)
        (Decides-int_eq a.1 b.1))

pub Decides-rates : (xs ys : List ℤ) → Decides (same_rates xs ys) (xs ≡ ys)
Decides-rates xs ys = slice_eq-Decides Decides-int_eq xs ys (same_rates xs ys) refl

pub Decides-number_or_none : (a b : Option ℕ) → Decides (option_eq nat_eq a b) (a ≡ b)
Decides-number_or_none None None = always refl
Decides-number_or_none None (Some y) = ((λ e. absurd (cc)), (λ e. absurd (cc)))
Decides-number_or_none (Some x) None = ((λ e. absurd (cc)), (λ e. absurd (cc)))
Decides-number_or_none (Some x) (Some y) =
    Decides-like (nat_eq x y) (λ e. ap Some e) (λ e. cc) (Decides-eqb x y)

pub first_of_both : (a b : Bool) → (a && b) ≡ true → a ≡ true
first_of_both true b e = refl
first_of_both false b e = e

pub second_of_both : (a b : Bool) → (a && b) ≡ true → b ≡ true
second_of_both true b e = e
second_of_both false b e = absurd (cc)

-- of two tests that differ one holds
pub one_holds : (a b : Bool) → beq a b ≡ false → (a ≡ true) ⊎ (b ≡ true)
one_holds true b e = inl refl
one_holds false true e = inr refl
one_holds false false e = absurd (cc)
