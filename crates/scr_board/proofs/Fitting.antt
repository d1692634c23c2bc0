-- Which ends are those of a span, and what its words tell.
use Rattle.std.proofs.Common.{◌≡◌, ℕ, ◌<◌, ◌^◌, Bool, true, false, ◌&&◌, if◌then◌else◌, [], ◌∷◌, get_or, refl, sym, ap, subst, arith}
use Rattle.std.specs.Prelude.{ℤ, pos, neg_ℤ, int_le, int_lt, T, ◌≤ℤ◌, ◌<ℤ◌}
use Rattle.std.proofs.lemmas.Bool.{true≢false}
use Rattle.std.proofs.lemmas.Int.{ints}
use lib.Signed.{le_z_yes, lt_z_yes}
use Rattle.scr_num.specs.Rounding.{Ends}
use Rattle.scr_board.specs.Words.{AreEnds, are_ends, lower, upper, words_of}

both : (b c : Bool) → (b && c) ≡ true → (b ≡ true) × (c ≡ true)
both true c h = (refl, h)
both false c h = absurd (true≢false (sym h))

join : (b c : Bool) → b ≡ true → c ≡ true → (b && c) ≡ true
join true c h k = k
join false c h k = absurd (true≢false (sym h))

is_so : (t : Bool) → T t → t ≡ true
is_so true h = refl
is_so false h = absurd h

least_of : (a b : ℤ) → int_le a b ≡ true → a ≤ℤ b
least_of a b h = le_z_yes (subst T (sym h) tt)

below_of : (a b : ℤ) → int_lt a b ≡ true → a <ℤ b
below_of a b h = lt_z_yes (subst T (sym h) tt)

pub ends-are : (e : Ends) → are_ends e ≡ true → AreEnds e
unfolding are_ends
ends-are e h =
    let first = both (int_le (neg_ℤ (pos (2 ^ 127))) e.low) (int_le e.low e.high && int_lt e.high (pos (2 ^ 127))) h in
    let rest = both (int_le e.low e.high) (int_lt e.high (pos (2 ^ 127))) first.1 in
    let low = least_of (neg_ℤ (pos (2 ^ 127))) e.low first.0 in
    let between = least_of e.low e.high rest.0 in
    let high = below_of e.high (pos (2 ^ 127)) rest.1 in
    record { low = (low, omega (arith, ints, between, high)); high = (omega (arith, ints, low, between), high); ordered = between }

pub are-ends : (e : Ends) → AreEnds e → are_ends e ≡ true
unfolding are_ends
are-ends e h =
    let low = h.low.0 in
    let between = h.ordered in
    let high = h.high.1 in
    join (int_le (neg_ℤ (pos (2 ^ 127))) e.low) (int_le e.low e.high && int_lt e.high (pos (2 ^ 127))) (is_so _ low.le)
    (join (int_le e.low e.high) (int_lt e.high (pos (2 ^ 127))) (is_so _ between.le) (is_so _ high.lt))

-- the words of a span are those of its ends
pub span-words : (e : Ends) → AreEnds e → words_of e ≡ upper e.low ∷ lower e.low ∷ upper e.high ∷ lower e.high ∷ []
span-words e h =
    ap (λ b. if b then upper e.low ∷ lower e.low ∷ upper e.high ∷ lower e.high ∷ [] else 2 ^ 64 ∷ 2 ^ 64 ∷ 2 ^ 64 ∷ 2 ^ 64 ∷ [])
    (are-ends e h)

-- only a span has a word that a table can hold
pub fits-ends : (e : Ends) (x : ℕ) → x < 2 ^ 64 → x ≡ get_or (words_of e) 0 0 → AreEnds e
fits-ends e x fits is = by (are_ends e) refl
  where
    by : (b : Bool) → are_ends e ≡ b → AreEnds e
    by true h = ends-are e h
    by false h =
        let over : get_or (words_of e) 0 0 ≡ 2 ^ 64 =
        ap (λ b. get_or (if b then upper e.low ∷ lower e.low ∷ upper e.high ∷ lower e.high ∷ [] else 2 ^ 64 ∷ 2 ^ 64 ∷ 2 ^ 64 ∷ 2 ^ 64 ∷ []) 0 0) h in
        absurd (omega (arith, fits, is, over))
