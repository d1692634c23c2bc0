-- Each row counts in one currency at most.
use Rattle.std.proofs.Common.{◌≡◌, ℕ, ◌+◌, ◌≤◌, true, false, List, [], ◌∷◌, map, sum_by, if◌then◌else◌, refl, ◌∙◌, arith}
use Rattle.std.specs.List.{AllByRecursion, IsDistinct}
use Rattle.std.proofs.lemmas.List.Sums.{sum_by-cons, sum_by-le-sum_by}
use Rattle.scr_funds.proofs.SumsBy.{sum_by-add}
use Rattle.scr_tables.specs.Names.{same_name}
use Rattle.scr_tables.proofs.TableRows.{same_or_other, same_name-is, same_name-flip}

sum_by-zeros : {X : Type 0} (f : X → ℕ) (xs : List X) → AllByRecursion (λ x. f x ≡ 0) xs → sum_by f xs ≡ 0
sum_by-zeros f [] all = refl
sum_by-zeros f (x ∷ xs) all = omega (arith, sum_by-cons f x xs, all.0, sum_by-zeros f xs all.1)

module _ {Place Row : Type 0} (name_of : Place → List ℕ) (currency_of : Row → List ℕ) (most : Row → ℕ) where
  -- the most of a row, where it is in the currency
  abbrev pub most_in : List ℕ → Row → ℕ
  most_in currency row = if same_name currency (currency_of row) then most row else 0

  in_others : (row : Row) (name : List ℕ) (places : List Place) → same_name name (currency_of row) ≡ true → AllByRecursion (λ other. same_name name other ≡ false) (map name_of places)
      → AllByRecursion (λ place. most_in (name_of place) row ≡ 0) places
  in_others row name [] same all = tt
  in_others row name (place ∷ places) same all =
      let is = same_name-is name (currency_of row) same in
      let other : same_name (name_of place) (currency_of row) ≡ false = same_name-flip (name_of place) (currency_of row) ∙ (rw is at all.0) in
      (rw other refl, in_others row name places same all.1)

  in_one : (row : Row) (places : List Place) → IsDistinct same_name (map name_of places) → sum_by (λ place. most_in (name_of place) row) places ≤ most row
  unfolding IsDistinct
  in_one row [] once = omega arith
  in_one row (place ∷ places) once =
      same_or_other (name_of place) (currency_of row)
      (λ same.
      let here : most_in (name_of place) row ≡ most row = rw same refl in
      let others = sum_by-zeros (λ p. most_in (name_of p) row) places (in_others row (name_of place) places same once.0) in
      omega (arith, sum_by-cons (λ p. most_in (name_of p) row) place places, here, others))
      (λ other.
      let here : most_in (name_of place) row ≡ 0 = rw other refl in
      omega (arith, sum_by-cons (λ p. most_in (name_of p) row) place places, here, in_one row places once.1))

  pub each-row-once : (places : List Place) (rows : List Row) → IsDistinct same_name (map name_of places)
      → sum_by (λ place. sum_by (most_in (name_of place)) rows) places ≤ sum_by most rows
  each-row-once places [] once = omega (arith, sum_by-zeros (λ (place : Place). 0) places (zeros places))
    where
      zeros : (places : List Place) → AllByRecursion (λ place. ◌≡◌ {A = ℕ} 0 0) places
      zeros [] = tt
      zeros (place ∷ places) = (refl, zeros places)
  each-row-once places (row ∷ rows) once =
      let apart = sum_by-le-sum_by (λ (place : Place). sum_by (most_in (name_of place)) (row ∷ rows))
      (λ (place : Place). most_in (name_of place) row + sum_by (most_in (name_of place)) rows) places
      (λ place. omega (arith, sum_by-cons (most_in (name_of place)) row rows)) in
      let parts = sum_by-add (λ (place : Place). most_in (name_of place) row) (λ (place : Place). sum_by (most_in (name_of place)) rows) places in
      omega (arith, apart, parts, in_one row places once, each-row-once places rows once, sum_by-cons most row rows)
