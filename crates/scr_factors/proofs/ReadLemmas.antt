-- What is read has its form.
use Rattle.std.proofs.Common.{◌≡◌, ℕ, suc, ◌<◌, ◌≤◌, Bool, true, false, List, [], ◌∷◌, ◌++◌, map, replicate, length, get_or, Option, Some, None, Result, Ok, Err, All, cond, refl, sym, ap, ◌∙◌, arith, rules, nat_eq, pos, ◌≤ℤ◌}
use Rattle.std.specs.Prelude.{option_and_then, ok_or}
use Rattle.std.proofs.lemmas.Bool.{eqb-true}
use Rattle.std.proofs.lemmas.List.{get_or_append_left, get_or-map, length-map}
use Rattle.std.proofs.lemmas.Int.{ints}
use Rattle.std.proofs.lemmas.List.Elements.{All-cons, All-nil}
use Rattle.toml.specs.Data.{Data, Members}
use Rattle.scr_factors.specs.declared.{key.Key.Key, fault.FactorFault.FactorFault}
use Rattle.scr_factors.specs.declared.key.Key.TheVariants.{NlCorr}
use Rattle.scr_factors.specs.declared.fault.FactorFault.TheVariants.{BadValue}
use Rattle.scr_factors.specs.Keys.{value_at}
use Rattle.scr_factors.specs.Forms.{list_of, whole_number, coefficient, has_unit_diagonal, correlation_rows, first_asymmetry}
use Rattle.scr_profile.specs.Matrix.{entry, IsCorrelation}
use Rattle.scr_factors.specs.Reading.{◌>>=◌, formed, taken, numbers, rows, matrix_of, padded}
use Rattle.scr_factors.specs.Values.{IsRow}
use Rattle.scr_factors.proofs.FormLemmas.{list_of-all, whole_number-bound}
use Rattle.scr_profile.proofs.Ranges.{all-range}
use Rattle.scr_factors.proofs.SegmentLemmas.{coefficient_same}

ok_or-ok : {A : Type 0} (o : Option A) (fault : FactorFault) (a : A) → ok_or o fault ≡ Ok a → o ≡ Some a
ok_or-ok None fault a h = cc
ok_or-ok (Some x) fault a h = cc

formed-ok : {A : Type 0} (form : Data → Option A) (key : Key) (o : Option Data) (a : A) → formed form key o ≡ Ok a
    → (d : Data) × (form d ≡ Some a)
formed-ok form key None a h = cc
formed-ok form key (Some d) a h = (d, ok_or-ok (form d) (BadValue key) a h)

-- what is taken is what the form gives of some value
pub taken-form : {A : Type 0} (form : Data → Option A) (key : Key) (document : Members) (a : A)
    → taken form key document ≡ Ok a → (d : Data) × (form d ≡ Some a)
taken-form form key document a h = formed-ok form key (value_at key document) a h

pub numbers-row : (count : ℕ) (key : Key) (document : Members) (row : List ℕ) → numbers count key document ≡ Ok row
    → IsRow count row
numbers-row count key document row h =
    let (d, is) = taken-form (list_of count (whole_number 1_000_000)) key document row h in
    list_of-all (λ n. n ≤ 1_000_000) (whole_number 1_000_000) count d row (whole_number-bound 1_000_000) is

-- the parts of a chain that gives a value
chain-ok : {A B : Type 0} (r : Result A FactorFault) (f : A → Result B FactorFault) (b : B) → (r >>= f) ≡ Ok b
    → (a : A) × (r ≡ Ok a) × (f a ≡ Ok b)
chain-ok (Ok a) f b h = (a, refl, h)
chain-ok (Err fault) f b h = cc

pub rows-all : (keys : List Key) (document : Members) (found : List (List ℕ)) → rows keys document ≡ Ok found
    → (length found ≡ length keys) × All (IsRow 10) found
rows-all [] document found h = let none : found ≡ [] = cc in rw none (refl, All-nil (IsRow 10))
rows-all (key ∷ keys) document found h =
    let (row, first, rest) = chain-ok (numbers 10 key document)
    (λ row. rows keys document >>= (λ more. Ok (row ∷ more))) found h in
    let (more, others, is) = chain-ok (rows keys document) (λ more. Ok (row ∷ more)) found rest in
    let (long, all) = rows-all keys document more others in
    let whole : found ≡ row ∷ more = cc in
    rw whole (ap suc long, All-cons (IsRow 10) row more (numbers-row 10 key document row first) all)

-- twelve hundredths from 0 to 100
abbrev pub IsHundredths : List ℕ → Type 0
IsHundredths row = (length row ≡ 12) × All (λ n. n ≤ 100) row

-- twelve rows of them, with 100 on the diagonal
pub record AreCorrelations (found : List (List ℕ)) : Type 0 where
  pub twelve : length found ≡ 12
  pub each : All IsHundredths found
  pub diagonal : has_unit_diagonal found ≡ true

unit-diagonal : (o : Option (List (List ℕ))) (found : List (List ℕ))
    → option_and_then (λ rows. cond (has_unit_diagonal rows) (Some rows) None) o ≡ Some found
    → (o ≡ Some found) × (has_unit_diagonal found ≡ true)
unit-diagonal None found h = cc
unit-diagonal (Some rows) found h = go (has_unit_diagonal rows) refl h
  where
    go : (b : Bool) → has_unit_diagonal rows ≡ b → cond b (Some rows) None ≡ Some found
        → (Some rows ≡ Some found) × (has_unit_diagonal found ≡ true)
    go true e is = let same : rows ≡ found = cc in (is, rw (← same) e)
    go false e is = cc

pub correlations-form : (document : Members) (found : List (List ℕ)) → taken correlation_rows NlCorr document ≡ Ok found
    → AreCorrelations found
correlations-form document found h =
    let (d, is) = taken-form correlation_rows NlCorr document found h in
    let (listed, diagonal) = unit-diagonal (list_of 12 (list_of 12 (whole_number 100)) d) found is in
    let row : (e : Data) (xs : List ℕ) → list_of 12 (whole_number 100) e ≡ Some xs → IsHundredths xs = λ e xs one.
    list_of-all (λ n. n ≤ 100) (whole_number 100) 12 e xs (whole_number-bound 100) one in
    let (twelve, each) = list_of-all IsHundredths (list_of 12 (whole_number 100)) 12 d found row listed in
    record { twelve = twelve; each = each; diagonal = diagonal }

-- what `matrix_of` requires
pub hundredths : (found : List (List ℕ)) → AreCorrelations found → All (All (λ n. n ≤ 100)) found
hundredths found h k d lt = (h.each k d lt).1

-- the matrix has the rows' coefficients
pub entry-matrix_of : (found : List (List ℕ)) (i j : ℕ) → AreCorrelations found → i < 12 → j < 12
    → entry (matrix_of found) i j ≡ pos (coefficient found i j)
entry-matrix_of found i j h a b =
    let inside : i < length found = omega (arith, h.twelve) in
    let within : j < length (get_or found i []) = omega (arith, (h.each i [] inside).0) in
    let blank = replicate 4 (replicate 16 (pos 0)) in
    let row : get_or (map padded found ++ blank) i [] ≡ padded (get_or found i []) =
    get_or_append_left (map padded found) blank [] i (rw length-map inside) ∙ get_or-map padded found i [] [] inside in
    let cell : get_or (padded (get_or found i [])) j (pos 0) ≡ pos (get_or (get_or found i []) j 0) =
    get_or_append_left (map pos (get_or found i [])) (replicate 4 (pos 0)) (pos 0) j (rw length-map within)
    ∙ get_or-map pos (get_or found i []) j 0 (pos 0) within in
    rw row cell

pub matrix_of-not_negative : (found : List (List ℕ)) → AreCorrelations found → (i j : ℕ) → i < 12 → j < 12
    → pos 0 ≤ℤ entry (matrix_of found) i j
matrix_of-not_negative found h i j a b = rw (entry-matrix_of found i j h a b) (omega (arith, ints))

-- and is a matrix of correlation coefficients where they are symmetric
pub matrix_of-correlation : (found : List (List ℕ)) → AreCorrelations found → first_asymmetry found ≡ None
    → IsCorrelation (matrix_of found)
matrix_of-correlation found h none =
    let is : (i j : ℕ) → i < 12 → j < 12 → entry (matrix_of found) i j ≡ pos (coefficient found i j) =
    λ i j a b. entry-matrix_of found i j h a b in
    let small : (i j : ℕ) → i < 12 → j < 12 → coefficient found i j ≤ 100 = λ i j a b.
    let inside : i < length found = omega (arith, h.twelve) in
    let row = h.each i [] inside in
    row.1 j 0 (omega (arith, row.0)) in
    record {
      size = (omega arith, omega arith);
      denominator = search rules;
      within = λ i j a b. let low = small i j a b in rw (is i j a b) (omega (arith, ints), omega (arith, ints));
      symmetric = λ i j a b. is i j a b ∙ ap pos (coefficient_same found i j none a b) ∙ sym (is j i b a);
      diagonal =
          λ i a. is i i a a
          ∙ ap pos (eqb-true (coefficient found i i) 100
          (all-range (λ k. nat_eq (coefficient found k k) 100) 0 12 i h.diagonal (omega arith) (omega arith)));
    }
