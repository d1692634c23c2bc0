-- Figures that are written next, where all that is written comes in turn, and squares among them that come row by row.
use Rattle.std.proofs.Common.{◌≡◌, ◌⊎◌, inl, inr, ℕ, ◌+◌, ◌-◌, ◌<◌, ◌≤◌, List, [], ◌∷◌, zero, suc, drop, length, set, Some, None, slice_get, subst, arith}
use Rattle.std.proofs.lemmas.Bool.{cases_lt}
use Rattle.scr_partial_sums.specs.declared.figure.Figure.{Figure}
use Rattle.scr_reachability.proofs.Placed.{get-contains}
use Rattle.scr_tree.specs.Ready.{AreInTurnOn, AreKnownBut, IsBasis, IsReadyOn, IsRightOn, StandsOn, reckoning_on}
use Rattle.scr_tree.specs.SquareRun.{IsSquareAtOn, IsSquareRunOn}
use Rattle.scr_tree.specs.declared.basis.Basis.{Basis}
use Rattle.scr_tree.proofs.Journaled.{set-here, set-other}
use Rattle.scr_tree.proofs.Turning.{known-next, ready-next}
use Rattle.scr_tree.proofs.Upright.{book-up}

-- where no number is left all have been written
pub none-left : (xs : List ℕ) (k : ℕ) → slice_get xs k ≡ None → length xs ≤ k
none-left [] k none = omega arith
none-left (x ∷ xs) zero none = let clash : Some x ≡ None = none in absurd (cc)
none-left (x ∷ xs) (suc k) none = let past = none-left xs k none in omega (arith, past)

module _ (b : Basis) (is : IsBasis b) (numbers : List ℕ) (turn : AreInTurnOn b numbers) (k : ℕ) (old : List Figure) (number : ℕ)
    (at : slice_get numbers k ≡ Some number) where
  pub next-ready : AreKnownBut b old (drop k numbers) → IsReadyOn b old number
  next-ready known = ready-next (reckoning_on b) (StandsOn b) b.places.now.size (book-up b is) old numbers k number turn at known

  pub next-within : b.places.now.size ≤ length old → number < length old
  next-within room =
      let live = turn.each number (get-contains numbers k number at) in
      let low = (book-up b is).numbers.within live.0 number live.1 in
      omega (arith, low, room)

  pub known-more : (figure : Figure) → IsRightOn b number figure → b.places.now.size ≤ length old → AreKnownBut b old (drop k numbers)
      → AreKnownBut b (set old number figure) (drop (k + 1) numbers)
  known-more figure right room known =
      known-next (reckoning_on b) (StandsOn b) b.places.now.size (book-up b is) numbers k number figure old (set old number figure) turn at right
      (set-here old number figure (next-within room)) (λ other apart. set-other old number other figure apart) known

-- so many squares came, and that of the next row does not
pub run-over : (b : Basis) (numbers : List ℕ) (start end row : ℕ) → end ≡ start + row → IsSquareAtOn b 0 numbers start
    → ((other : ℕ) → other < row → IsSquareAtOn b other numbers (start + other)) → (IsSquareAtOn b row numbers end → ⊥)
    → IsSquareRunOn b numbers start end
run-over b numbers start end row far first each not = record {
  some = some (cases_lt 0 row);
  each = λ other low. each other (omega (arith, low, far));
  last = λ on. let same : end - start ≡ row = omega (arith, far) in not (subst (λ r. IsSquareAtOn b r numbers end) same on);
}
  where
    some : (0 < row) ⊎ (row ≤ 0) → start < end
    some (inl low) = omega (arith, low, far)
    some (inr none) =
        let zero_is : 0 ≡ row = omega (arith, none) in
        let same : start ≡ end = omega (arith, far, none) in
        absurd (not (subst (λ place. IsSquareAtOn b row numbers place) same (subst (λ r. IsSquareAtOn b r numbers start) zero_is first)))
