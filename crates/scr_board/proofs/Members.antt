-- Numbers in lists: how often they stand there, and at which places.
use Rattle.std.proofs.Common.{◌≡◌, ℕ, zero, suc, ◌+◌, ◌<◌, ◌≤◌, ◌≢◌, ◌⊎◌, Bool, true, false, nat_eq, List, [], ◌∷◌, Option, Some, None, length, take, slice_get, refl, sym, ap, ◌∙◌, inl, inr, arith}
use Rattle.std.proofs.lemmas.Bool.Decides.{eqb_tells}
use Rattle.scr_board.specs.Counts.{one_if, times, total}
use Rattle.scr_board.specs.States.{is_some_of}

pub same_number : (n : ℕ) → nat_eq n n ≡ true
same_number n = by (eqb_tells n n)
  where
    by : ((nat_eq n n ≡ true) × (n ≡ n)) ⊎ ((nat_eq n n ≡ false) × (n ≢ n)) → nat_eq n n ≡ true
    by (inl t) = t.0
    by (inr f) = absurd (f.1 refl)

pub other_number : (n m : ℕ) → n ≢ m → nat_eq n m ≡ false
other_number n m ne = by (eqb_tells n m)
  where
    by : ((nat_eq n m ≡ true) × (n ≡ m)) ⊎ ((nat_eq n m ≡ false) × (n ≢ m)) → nat_eq n m ≡ false
    by (inl t) = absurd (ne t.1)
    by (inr f) = f.0

pub one_at_most : (b : Bool) → one_if b ≤ 1
one_at_most true = omega arith
one_at_most false = omega arith

-- ---- at places

pub is_some_of-Some : (n m : ℕ) (o : Option ℕ) → o ≡ Some n → n ≡ m → is_some_of m o ≡ true
is_some_of-Some n m o e same = ap (is_some_of m) e ∙ ap (λ x. nat_eq m x) same ∙ same_number m

pub place-times : (n : ℕ) (xs : List ℕ) (k : ℕ) → is_some_of n (slice_get xs k) ≡ true → 0 < times n xs
place-times n [] k e = absurd (no e)
  where
    no : false ≡ true → ⊥
    no f = cc
place-times n (x ∷ xs) zero e = let one : one_if (nat_eq n x) ≡ 1 = ap one_if e in omega (arith, one)
place-times n (x ∷ xs) (suc k) e = let more = place-times n xs k e in omega (arith, more)

pub times-place : (n : ℕ) (xs : List ℕ) → 0 < times n xs → (k : ℕ) × (slice_get xs k ≡ Some n)
times-place n [] pos = absurd (omega arith)
times-place n (x ∷ xs) pos = by (eqb_tells n x) (times-place n xs)
  where
    by : ((nat_eq n x ≡ true) × (n ≡ x)) ⊎ ((nat_eq n x ≡ false) × (n ≢ x))
        → (0 < times n xs → (k : ℕ) × (slice_get xs k ≡ Some n)) → (k : ℕ) × (slice_get (x ∷ xs) k ≡ Some n)
    by (inl t) on = (0, ap Some (sym t.1))
    by (inr f) on =
        let none : one_if (nat_eq n x) ≡ 0 = ap one_if f.0 in
        let later = on (omega (arith, pos, none)) in
        (suc later.0, later.1)

pub one-place : (n : ℕ) (xs : List ℕ) (i k : ℕ) → times n xs ≤ 1 → is_some_of n (slice_get xs i) ≡ true
    → is_some_of n (slice_get xs k) ≡ true → i ≡ k
one-place n [] i k one a b = absurd (no a)
  where
    no : false ≡ true → ⊥
    no f = cc
one-place n (x ∷ xs) zero zero one a b = refl
one-place n (x ∷ xs) zero (suc k) one a b =
    let here : one_if (nat_eq n x) ≡ 1 = ap one_if a in
    let more = place-times n xs k b in
    absurd (omega (arith, here, more, one))
one-place n (x ∷ xs) (suc i) zero one a b =
    let here : one_if (nat_eq n x) ≡ 1 = ap one_if b in
    let more = place-times n xs i a in
    absurd (omega (arith, here, more, one))
one-place n (x ∷ xs) (suc i) (suc k) one a b = ap suc (one-place n xs i k (omega (arith, one)) a b)

pub get-below : {A : Type 0} (xs : List A) (k : ℕ) (x : A) → slice_get xs k ≡ Some x → k < length xs
get-below [] k x e = absurd (no e)
  where
    no : None ≡ Some x → ⊥
    no f = cc
get-below (y ∷ xs) zero x e = omega arith
get-below (y ∷ xs) (suc k) x e = let more = get-below xs k x e in omega (arith, more)

pub get-past : {A : Type 0} (xs : List A) (k : ℕ) → slice_get xs k ≡ None → length xs ≤ k
get-past [] k e = omega arith
get-past (y ∷ xs) zero e = absurd (no e)
  where
    no : Some y ≡ None → ⊥
    no f = cc
get-past (y ∷ xs) (suc k) e = let more = get-past xs k e in omega (arith, more)

-- ---- fronts

pub take-whole : (xs : List ℕ) (t : ℕ) → length xs ≤ t → take t xs ≡ xs
take-whole [] zero le = refl
take-whole [] (suc t) le = refl
take-whole (x ∷ xs) zero le = absurd (omega (arith, le))
take-whole (x ∷ xs) (suc t) le = ap (λ ys. x ∷ ys) (take-whole xs t (omega (arith, le)))

pub times-take : (n : ℕ) (xs : List ℕ) (t : ℕ) → times n (take t xs) ≤ times n xs
times-take n [] zero = omega arith
times-take n [] (suc t) = omega arith
times-take n (x ∷ xs) zero = omega arith
times-take n (x ∷ xs) (suc t) = let more = times-take n xs t in omega (arith, more)

pub times-next : (n : ℕ) (xs : List ℕ) (t m : ℕ) → slice_get xs t ≡ Some m
    → times n (take (t + 1) xs) ≡ times n (take t xs) + one_if (nat_eq n m)
times-next n xs t m e = let next : t + 1 ≡ suc t = omega arith in ap (λ k. times n (take k xs)) next ∙ by xs t e
  where
    by : (ys : List ℕ) (k : ℕ) → slice_get ys k ≡ Some m → times n (take (suc k) ys) ≡ times n (take k ys) + one_if (nat_eq n m)
    by [] k f = absurd (no f)
      where
        no : None ≡ Some m → ⊥
        no g = cc
    by (y ∷ ys) zero f = let same : y ≡ m = cc in let one : one_if (nat_eq n y) ≡ one_if (nat_eq n m) = ap (λ z. one_if (nat_eq n z)) same in first one ys
      where
        first : one_if (nat_eq n y) ≡ one_if (nat_eq n m) → (zs : List ℕ) → one_if (nat_eq n y) + times n (take 0 zs) ≡ 0 + one_if (nat_eq n m)
        first one [] = omega (arith, one)
        first one (z ∷ zs) = omega (arith, one)
    by (y ∷ ys) (suc k) f = let more = by ys k f in omega (arith, more)

-- ---- a bound

-- where no item counts more than one, and one in the list counts nothing, all come to less than their number
pub total-at_most : (g : ℕ → ℕ) (xs : List ℕ) → ((m : ℕ) → 0 < times m xs → g m ≤ 1) → total g xs ≤ length xs
total-at_most g [] h = omega arith
total-at_most g (x ∷ xs) h =
    let here : g x ≤ 1 = h x (let one : one_if (nat_eq x x) ≡ 1 = ap one_if (same_number x) in omega (arith, one)) in
    let more = total-at_most g xs (λ m pos. h m (omega (arith, pos))) in
    omega (arith, here, more)

pub total-below : (g : ℕ → ℕ) (xs : List ℕ) (n : ℕ) → ((m : ℕ) → 0 < times m xs → g m ≤ 1) → 0 < times n xs → g n ≡ 0
    → total g xs < length xs
total-below g [] n h pos none = absurd (omega arith)
total-below g (x ∷ xs) n h pos none = by (eqb_tells n x) (λ there. total-below g xs n (λ m p. h m (omega (arith, p))) there none)
  where
    more : (m : ℕ) → 0 < times m xs → g m ≤ 1
    more m p = h m (omega (arith, p))

    by : ((nat_eq n x ≡ true) × (n ≡ x)) ⊎ ((nat_eq n x ≡ false) × (n ≢ x)) → (0 < times n xs → total g xs < length xs)
        → total g (x ∷ xs) < length (x ∷ xs)
    by (inl t) on =
        let here : g x ≡ 0 = ap g (sym t.1) ∙ none in
        let later = total-at_most g xs more in
        omega (arith, here, later)
    by (inr f) on =
        let apart : one_if (nat_eq n x) ≡ 0 = ap one_if f.0 in
        let here : g x ≤ 1 = h x (let one : one_if (nat_eq x x) ≡ 1 = ap one_if (same_number x) in omega (arith, one)) in
        let later = on (omega (arith, pos, apart)) in
        omega (arith, here, later)

-- where each item counts one or more, all come to their number or more
pub total-at_least : (g : ℕ → ℕ) (xs : List ℕ) → ((m : ℕ) → 0 < times m xs → 1 ≤ g m) → length xs ≤ total g xs
total-at_least g [] h = omega arith
total-at_least g (x ∷ xs) h =
    let here : 1 ≤ g x = h x (let one : one_if (nat_eq x x) ≡ 1 = ap one_if (same_number x) in omega (arith, one)) in
    let more = total-at_least g xs (λ m pos. h m (omega (arith, pos))) in
    omega (arith, here, more)
