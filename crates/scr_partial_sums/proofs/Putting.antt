-- Blocks that are written one after another.
use Rattle.std.proofs.Common.{◌≡◌, ℕ, zero, suc, [], ◌∷◌, Option, Bool, ◌+◌, ◌<◌, ◌≤◌, ◌⊎◌, inl, inr, false, List, length, set, Some, slice_get, refl, sym, ap, ◌∙◌, subst, pos, arith}
use Rattle.std.specs.Option.{option_map_or}
use Rattle.std.proofs.lemmas.Bool.{cases_lt}
use Rattle.std.proofs.lemmas.List.{length-set}
use Rattle.scr_sum_tree.specs.Blocks.{blocks_at}
use Rattle.scr_sum_tree.specs.declared.blocks.Level.{Level}
use Rattle.scr_num.specs.Rounding.{Ends, ends, exact_ends}
use Rattle.scr_num.specs.declared.span.Span.{Span}
use Rattle.scr_partial_sums.specs.Figures.{ends_at}
use Rattle.scr_partial_sums.specs.Written.{AreNumbered, IsPut, block_figure, is_open_at, number_of}
use Rattle.scr_partial_sums.specs.declared.figure.Figure.{Figure}
use Rattle.scr_partial_sums.specs.declared.writing.Subtotals.{Subtotals}
use Rattle.scr_partial_sums.proofs.Numbered.{number-apart, number-within}

module _ {A : Type 0} where
  pub set-here : (xs : List A) (i : ℕ) (x : A) → i < length xs → slice_get (set xs i x) i ≡ Some x
  set-here [] i x l = absurd (omega (arith, l))
  set-here (y ∷ xs) zero x l = refl
  set-here (y ∷ xs) (suc i) x l = set-here xs i x (omega (arith, l))

  pub set-other : (xs : List A) (i j : ℕ) (x : A) → (j ≡ i → ⊥) → slice_get (set xs i x) j ≡ slice_get xs j
  set-other [] i j x other = refl
  set-other (y ∷ xs) zero zero x other = absurd (other refl)
  set-other (y ∷ xs) zero (suc j) x other = refl
  set-other (y ∷ xs) (suc i) zero x other = refl
  set-other (y ∷ xs) (suc i) (suc j) x other = set-other xs i j x (λ e. other (ap suc e))

-- the ends and the mark of what is read
abbrev ends_in : Option Figure → Ends
ends_in o = option_map_or (λ (f : Figure). ends f.span) o (exact_ends (pos 0))

abbrev mark_in : Option Figure → Bool
mark_in o = option_map_or (λ (f : Figure). f.close) o false

module _ (s : Subtotals) (members : ℕ) (numbered : AreNumbered s members) (level : Level) (worth : ℕ → Ends) (before : List Figure) where
  pub one-put : (upto : ℕ) (now : List Figure) (span : Span) → upto < blocks_at members level → s.places.now.size ≤ length before
      → ends span ≡ worth upto → IsPut s level upto worth before now
      → IsPut s level (upto + 1) worth before (set now (number_of s level upto) (block_figure span))
  one-put upto now span there room is put = record {
    kept = record {
      long = length-set now (number_of s level upto) (block_figure span) ∙ put.kept.long;
      others = λ number off. set-other now (number_of s level upto) number (block_figure span) (off upto (omega arith))
          ∙ put.kept.others number (λ i low. off i (omega (arith, low)));
    };
    there = λ i low. by-there i low (cases_lt i upto);
    settled = λ i low. by-settled i low (cases_lt i upto);
  }
    where
      inside : number_of s level upto < length now
      inside = let size = number-within s members numbered level upto there in let long = put.kept.long in omega (arith, size, room, long)

      here : slice_get (set now (number_of s level upto) (block_figure span)) (number_of s level upto) ≡ Some (block_figure span)
      here = set-here now (number_of s level upto) (block_figure span) inside

      other : (i : ℕ) → i < upto → slice_get (set now (number_of s level upto) (block_figure span)) (number_of s level i) ≡ slice_get now (number_of s level i)
      other i low = set-other now (number_of s level upto) (number_of s level i) (block_figure span)
          (λ same. let e = (number-apart s members numbered level level i upto (omega (arith, low, there)) there same).1 in omega (arith, e, low))

      by-there : (i : ℕ) → i < upto + 1 → (i < upto) ⊎ (upto ≤ i)
          → ends_at (set now (number_of s level upto) (block_figure span)) (number_of s level i) ≡ worth i
      by-there i low (inl less) = ap ends_in (other i less) ∙ put.there i less
      by-there i low (inr most) = let last : i ≡ upto = omega (arith, low, most) in
          subst (λ k. ends_at (set now (number_of s level upto) (block_figure span)) (number_of s level k) ≡ worth k) (sym last) (ap ends_in here ∙ is)

      by-settled : (i : ℕ) → i < upto + 1 → (i < upto) ⊎ (upto ≤ i)
          → is_open_at (set now (number_of s level upto) (block_figure span)) (number_of s level i) ≡ false
      by-settled i low (inl less) = ap mark_in (other i less) ∙ put.settled i less
      by-settled i low (inr most) = let last : i ≡ upto = omega (arith, low, most) in
          subst (λ k. is_open_at (set now (number_of s level upto) (block_figure span)) (number_of s level k) ≡ false) (sym last) (ap mark_in here)
