-- A matrix whose places pass a test is the one that is printed.
use Rattle.std.proofs.Common.{◌≡◌, ℕ, ◌<◌, Bool, true, ◌&&◌, nat_eq, List, arith, ℤ, pos, ◌*ℤ◌, int_eq}
use Rattle.std.specs.List.{list_all, range_with_len}
use Rattle.std.proofs.lemmas.Bool.{and_parts, eqb-true}
use Rattle.scr_profile.specs.declared.matrix.Matrix.{Matrix}
use Rattle.scr_profile.specs.Matrix.{entry}
use Rattle.scr_profile.specs.CorrelationTables.{Coefficient, correlation, IsPrinted}
use Rattle.scr_profile.proofs.CorrelationRules.{int_eq-true}
use Rattle.scr_profile.proofs.Ranges.{all-range}

module _ (size : ℕ) (printed : List Coefficient) (m : Matrix) where
  abbrev pub pair_printed : ℕ → ℕ → Bool
  pair_printed i j = int_eq (pos 100 *ℤ entry m i j) (m.den *ℤ correlation printed i j)

  abbrev pub is_printed : Bool
  is_printed = list_all (λ i. list_all (pair_printed i) (range_with_len 0 size)) (range_with_len 0 size)

  pub is_printed-holds : m.n ≡ size → is_printed ≡ true → IsPrinted size printed m
  is_printed-holds size_is h = record {
    size_is = size_is;
    equal = λ i j a b.
        let row : list_all (pair_printed i) (range_with_len 0 size) ≡ true =
        all-range (λ k. list_all (pair_printed k) (range_with_len 0 size)) 0 size i h (omega arith) (omega arith) in
        int_eq-true _ _ (all-range (pair_printed i) 0 size j row (omega arith) (omega arith));
  }
