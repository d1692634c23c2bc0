-- A figure read back from its four words.
use Rattle.std.proofs.Common.{◌≡◌, ℕ, zero, suc, ◌<◌, ◌^◌, List, [], ◌∷◌, length, get_or, sym, ap, ◌∙◌, subst, arith}
use Rattle.std.specs.Prelude.{ℤ, ◌≤ℤ◌}
use mathlib.Core.Option.{some, some-injective, some-ne-none}
use lib.ListN.{get_elem?}
use Rattle.scr_num.specs.Rounding.{Ends}
use Rattle.scr_board.specs.declared.lists.Round.{Round}
use Rattle.scr_board.specs.BoardRounds.{BoardRound, lists_of}
use Rattle.scr_board.specs.Words.{AreEnds, IsWithin, lower, upper, words_of}
use Rattle.scr_board.proofs.Fitting.{fits-ends, span-words}
use Rattle.scr_board.proofs.Seats.{count-lists}

-- what makes an end of two words
abbrev pub Makes : ℕ → ℕ → ℤ → Type 0
Makes first second end = (v : ℤ) → IsWithin v → first ≡ upper v → second ≡ lower v → end ≡ v

module _ (e : Ends) (first second third fourth : ℕ) (fits : first < 2 ^ 64) (a : first ≡ get_or (words_of e) 0 0) (b : second ≡ get_or (words_of e) 1 0)
    (c : third ≡ get_or (words_of e) 2 0) (d : fourth ≡ get_or (words_of e) 3 0) (low high : ℤ) (low_of : Makes first second low)
    (high_of : Makes third fourth high) where
  are : AreEnds e
  are = fits-ends e first fits a

  word : (j : ℕ) → get_or (words_of e) j 0 ≡ get_or (upper e.low ∷ lower e.low ∷ upper e.high ∷ lower e.high ∷ []) j 0
  word j = ap (λ (ws : List ℕ). get_or ws j 0) (span-words e are)

  low_is : low ≡ e.low
  low_is = low_of e.low are.low (a ∙ word 0) (b ∙ word 1)

  high_is : high ≡ e.high
  high_is = high_of e.high are.high (c ∙ word 2) (d ∙ word 3)

  pub ordered_of : low ≤ℤ high
  ordered_of = subst (λ x. x ≤ℤ high) (sym low_is) (subst (λ y. e.low ≤ℤ y) (sym high_is) are.ordered)

  abbrev both : ℤ → ℤ → Ends
  both x y = record { low = x; high = y }

  pub ends_of : both low high ≡ e
  ends_of = ap (λ x. both x high) low_is ∙ ap (λ y. both e.low y) high_is

-- two rounds of one list have as many nodes
pub same_count : (a b : BoardRound) (lists : Round) → lists ≡ lists_of a → lists ≡ lists_of b → length a.places ≡ length b.places
same_count a b lists p q =
    let same = ap (λ (R : Round). length R.sources) (sym p ∙ q) in
    let x = count-lists a in
    let y = count-lists b in
    omega (arith, same, x, y)

pub found_at : (xs : List ℕ) (i x : ℕ) → get_elem? xs i ≡ some x → x ≡ get_or xs i 0
found_at [] i x e = absurd (some-ne-none x (sym e))
found_at (y ∷ xs) zero x e = sym (some-injective y x e)
found_at (y ∷ xs) (suc i) x e = found_at xs i x e
