-- Numbers from one on, lists without repeats of numbers, and the rows of funds by number.
use Rattle.std.proofs.Common.{◌≡◌, ℕ, zero, suc, ◌+◌, ◌<◌, ◌≤◌, false, IsTrue, List, [], ◌∷◌, ◌++◌, map, length, get_or, take, sum_by, nat_eq, refl, sym, ap, subst, ◌∙◌, inl, inr, arith, zero-add}
use Rattle.std.specs.List.{IsDistinct, range_with_len, enumerate_from}
use Rattle.std.proofs.lemmas.Bool.{eqb-true, eq-eqb, ne_eqb, true≢false}
use Rattle.std.proofs.lemmas.List.FromFn.{fill_by_all, length-enumerate_from, get_or-enumerate_from}
use Rattle.scr_funds.specs.ByNumber.{numbered}
use Rattle.scr_funds.specs.LookThrough.{Weighted, Shared}
use Rattle.scr_funds.proofs.Members.{IsMember, IsMember-mapped, at_member, each_push, each-from_members}
use Rattle.scr_funds.proofs.SumsBy.{sum_by-map}

pub nat_is_same : (x y : ℕ) → IsTrue (nat_eq x y) → x ≡ y
nat_is_same x y t = eqb-true x y t

pub nat_same_self : (x : ℕ) → IsTrue (nat_eq x x)
nat_same_self x = eq-eqb x x refl

-- ---- numbers from one on

pub in_range : (a n k : ℕ) → IsMember k (range_with_len a n) → (a ≤ k) × (k < a + n)
in_range a zero k m = absurd m
in_range a (suc n) k m = let rest = in_range (a + 1) n k in grind (arith, m, rest)

range_has-from : (a n k : ℕ) → a ≤ k → k < a + n → IsMember k (range_with_len a n)
range_has-from a zero k l m = absurd (omega arith)
range_has-from a (suc n) k l m = let rest = range_has-from (a + 1) n k in grind (arith, l, m, rest)

pub range_has : (n k : ℕ) → k < n → IsMember k (range_with_len 0 n)
range_has n k l = range_has-from 0 n k (omega arith) (omega arith)

pub below_range : (n k : ℕ) → IsMember k (range_with_len 0 n) → k < n
below_range n k m = let both : (0 ≤ k) × (k < 0 + n) = in_range 0 n k m in omega arith

range-distinct-from : (a n : ℕ) → IsDistinct nat_eq (range_with_len a n)
unfolding IsDistinct
range-distinct-from a zero = tt
range-distinct-from a (suc n) = (
  each-from_members (λ k. nat_eq a k ≡ false) (range_with_len (a + 1) n)
      (λ k m. let later : (a + 1 ≤ k) × (k < a + 1 + n) = in_range (a + 1) n k m in ne_eqb a k (λ e. omega arith)),
  range-distinct-from (a + 1) n,
)

pub range-distinct : (n : ℕ) → IsDistinct nat_eq (range_with_len 0 n)
range-distinct n = range-distinct-from 0 n

-- ---- lists without repeats

pub distinct_none : IsDistinct nat_eq []
unfolding IsDistinct
distinct_none = tt

pub distinct-cons : (x : ℕ) (xs : List ℕ) → (IsMember x xs → ⊥) → IsDistinct nat_eq xs → IsDistinct nat_eq (x ∷ xs)
unfolding IsDistinct
distinct-cons x xs fresh apart = (
  each-from_members (λ y. nat_eq x y ≡ false) xs
      (λ y m. ne_eqb x y (λ e. fresh (subst (λ z. IsMember z xs) (sym e) m))),
  apart,
)

pub distinct-push : (xs : List ℕ) (x : ℕ) → (IsMember x xs → ⊥) → IsDistinct nat_eq xs
    → IsDistinct nat_eq (xs ++ x ∷ [])
unfolding IsDistinct
distinct-push [] x fresh apart = (tt, tt)
distinct-push (y ∷ ys) x fresh apart = (
  each_push (λ z. nat_eq y z ≡ false) ys x apart.0 (ne_eqb y x (λ e. fresh (inl (sym e)))),
  distinct-push ys x (λ m. fresh (inr m)) apart.1,
)

pub member-take : {X : Type 0} (n : ℕ) (xs : List X) (x : X) → IsMember x (take n xs) → IsMember x xs
member-take zero xs x m = absurd m
member-take (suc n) [] x m = absurd m
member-take (suc n) (y ∷ ys) x (inl e) = inl e
member-take (suc n) (y ∷ ys) x (inr m) = inr (member-take n ys x m)

pub distinct-take : (n : ℕ) (xs : List ℕ) → IsDistinct nat_eq xs → IsDistinct nat_eq (take n xs)
unfolding IsDistinct
distinct-take zero xs apart = tt
distinct-take (suc n) [] apart = tt
distinct-take (suc n) (x ∷ xs) apart = (
  each-from_members (λ y. nat_eq x y ≡ false) (take n xs)
      (λ y m. at_member (λ z. nat_eq x z ≡ false) xs y apart.0 (member-take n xs y m)),
  distinct-take n xs apart.1,
)

member-get_or : (xs : List ℕ) (i : ℕ) → i < length xs → IsMember (get_or xs i 0) xs
member-get_or [] i l = absurd (omega arith)
member-get_or (x ∷ xs) zero l = inl refl
member-get_or (x ∷ xs) (suc i) l = inr (member-get_or xs i (omega arith))

-- what stands at a place does not stand before it
pub not_in_front : (xs : List ℕ) (i : ℕ) → IsDistinct nat_eq xs → i < length xs → IsMember (get_or xs i 0) (take i xs)
    → ⊥
unfolding IsDistinct
not_in_front [] i apart l m = absurd (omega arith)
not_in_front (x ∷ xs) zero apart l m = m
not_in_front (x ∷ xs) (suc i) apart l (inl e) =
    true≢false (sym (nat_same_self x) ∙ ap (nat_eq x) (sym e)
    ∙ at_member (λ z. nat_eq x z ≡ false) xs (get_or xs i 0) apart.0 (member-get_or xs i (omega arith)))
not_in_front (x ∷ xs) (suc i) apart l (inr m) = not_in_front xs i apart.1 (omega arith) m

-- ---- by number

-- a sum over a list is one over its places
pub sum_by-places : {X : Type 0} (f : X → ℕ) (xs : List X) (d : X)
    → sum_by f xs ≡ sum_by (λ k. f (get_or xs k d)) (range_with_len 0 (length xs))
sum_by-places f xs d =
    ap (sum_by f) (fill_by_all (λ k. get_or xs k d) xs (length xs) d refl (λ k l. refl))
    ∙ sum_by-map f (λ k. get_or xs k d) (range_with_len 0 (length xs))

pub numbered-is : (rows : List (Weighted ℕ))
    → numbered rows ≡ map (λ k. (k, get_or rows k [])) (range_with_len 0 (length rows))
numbered-is rows =
    fill_by_all (λ k. (k, get_or rows k [])) (numbered rows) (length rows) (0, []) (length-enumerate_from 0 rows)
    (λ k l. get_or-enumerate_from 0 rows k (0, []) l ∙ ap (λ j. fund j k) (zero-add k))
  where
    fund : ℕ → ℕ → Shared ℕ
    fund j k = (j, get_or rows k [])

pub sum_by-numbered : (f : Shared ℕ → ℕ) (rows : List (Weighted ℕ))
    → sum_by f (numbered rows) ≡ sum_by (λ k. f (k, get_or rows k [])) (range_with_len 0 (length rows))
sum_by-numbered f rows = ap (sum_by f) (numbered-is rows)
    ∙ sum_by-map f (λ k. (k, get_or rows k [])) (range_with_len 0 (length rows))

names-numbered-from : (a : ℕ) (rows : List (Weighted ℕ))
    → map (λ fund. fund.0) (enumerate_from a rows) ≡ range_with_len a (length rows)
names-numbered-from a [] = refl
names-numbered-from a (row ∷ rows) = ap (λ ks. a ∷ ks) (names-numbered-from (a + 1) rows)

pub numbered_once : (rows : List (Weighted ℕ)) → IsDistinct nat_eq (map (λ fund. fund.0) (numbered rows))
numbered_once rows = subst (IsDistinct nat_eq) (sym (names-numbered-from 0 rows)) (range-distinct (length rows))

pub member-numbered : (rows : List (Weighted ℕ)) (k : ℕ) → k < length rows
    → IsMember (k, get_or rows k []) (numbered rows)
member-numbered rows k l =
    subst (λ funds. IsMember (k, get_or rows k []) funds) (sym (numbered-is rows))
    (IsMember-mapped fund_at (range_with_len 0 (length rows)) k (range_has (length rows) k l))
  where
    fund_at : ℕ → Shared ℕ
    fund_at j = (j, get_or rows j [])
