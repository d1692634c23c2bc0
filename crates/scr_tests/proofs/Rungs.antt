-- What is due in the test of a board can be reckoned by several workers.
use Rattle.std.proofs.Common.{◌≡◌, ◌≢◌, ◌⊎◌, inl, inr, ℕ, zero, suc, ◌+◌, ◌≤◌, false, true, nat_eq, Contains, List, [], ◌∷◌, ◌++◌, Some, length, slice_get, sym, subst, arith}
use Rattle.std.specs.List.{AllByRecursion, IsDistinct}
use Rattle.std.proofs.lemmas.Bool.Decides.{eqb_tells}
use Rattle.scr_reachability.specs.declared.ranks.Due.{Due}
use Rattle.scr_reachability.specs.Levels.{numbers_of}
use Rattle.scr_reachability.proofs.Members.{IsMember, IsMember-from_Contains, each-from_members, place_of}
use Rattle.scr_tests.specs.Ladders.{AreRungs, IsRung}
use Rattle.scr_parallel.specs.Workable.{AreWorkable}

pub rungs-push : (k : ℕ) (dues : List Due) (due : Due) → AreRungs k dues → due.number ≡ k + length dues → IsRung due → AreRungs k (dues ++ due ∷ [])
rungs-push k [] due are number is = (omega (arith, number), is, tt)
rungs-push k (d ∷ dues) due are number is = (are.0, are.1, rungs-push (suc k) dues due are.2 (omega (arith, number)) is)

-- the due at a place has that number
number-here : (k : ℕ) (dues : List Due) (i : ℕ) (due : Due) → AreRungs k dues → slice_get dues i ≡ Some due → (due.number ≡ k + i) × IsRung due
number-here k [] i due are at = absurd (cc)
number-here k (d ∷ dues) zero due are at = subst (λ (x : Due). (x.number ≡ k + 0) × IsRung x) (same at) (omega (arith, first), are.1)
  where
    first : d.number ≡ k
    first = are.0

    same : Some d ≡ Some due → d ≡ due
    same e = cc
number-here k (d ∷ dues) (suc i) due are at = let later = number-here (suc k) dues i due are.2 at in (let n = later.0 in omega (arith, n), later.1)

-- all numbers from k up to the end are there, and no other
none-below : (k : ℕ) (dues : List Due) → AreRungs k dues → AllByRecursion (λ n. k ≤ n) (numbers_of dues)
none-below k [] are = tt
none-below k (d ∷ dues) are = ((let n = are.0 in omega (arith, n)), higher (numbers_of dues) (none-below (suc k) dues are.2))
  where
    higher : (ns : List ℕ) → AllByRecursion (λ n. suc k ≤ n) ns → AllByRecursion (λ n. k ≤ n) ns
    higher [] all = tt
    higher (n ∷ ns) all = ((let l = all.0 in omega (arith, l)), higher ns all.1)

distinct : (k : ℕ) (dues : List Due) → AreRungs k dues → IsDistinct nat_eq (numbers_of dues)
unfolding IsDistinct
distinct k [] are = tt
distinct k (d ∷ dues) are = (apart (numbers_of dues) (none-below (suc k) dues are.2), distinct (suc k) dues are.2)
  where
    apart : (ns : List ℕ) → AllByRecursion (λ n. suc k ≤ n) ns → AllByRecursion (λ n. nat_eq d.number n ≡ false) ns
    apart [] all = tt
    apart (n ∷ ns) all = (by (eqb_tells d.number n), apart ns all.1)
      where
        by : ((nat_eq d.number n ≡ true) × (d.number ≡ n)) ⊎ ((nat_eq d.number n ≡ false) × (d.number ≢ n)) → nat_eq d.number n ≡ false
        by (inl t) = let low = all.0 in let first = are.0 in let same = t.1 in absurd (omega (arith, low, first, same))
        by (inr f) = f.0

single : (due : Due) → IsRung due → IsDistinct nat_eq due.sources.items
unfolding IsDistinct
single due (inl none) = subst (IsDistinct nat_eq) (sym none.0) tt
single due (inr one) = subst (IsDistinct nat_eq) (sym one.1) (tt, tt)

-- a source stands a hundred numbers before
stands-before : (due : Due) (source : ℕ) → IsRung due → Contains due.sources.items source → due.number ≡ source + 100
stands-before due source (inl none) named = absurd (IsMember-from_Contains [] source (subst (λ xs. Contains xs source) none.0 named))
stands-before due source (inr one) named = by (IsMember-from_Contains (one.0 ∷ []) source (subst (λ xs. Contains xs source) one.1 named))
  where
    by : IsMember source (one.0 ∷ []) → due.number ≡ source + 100
    by (inl same) = let number = one.2 in omega (arith, number, same)
    by (inr none) = absurd none

pub workable : (dues : List Due) → AreRungs 0 dues → AreWorkable (λ n. Unit {0}) IsRung dues
workable dues are = record {
  once = distinct 0 dues are;
  single = each-from_members (λ (due : Due). IsDistinct nat_eq due.sources.items) dues (λ due has. single due (rung due has));
  before = λ i j due from at there named.
      let first = (number-here 0 dues i due are at).0 in
      let second = (number-here 0 dues j from are there).0 in
      let apart = stands-before due from.number (number-here 0 dues i due are at).1 named in
      omega (arith, first, second, apart);
  due = each-from_members IsRung dues rung;
  known = λ due source has named none. tt;
}
  where
    rung : (due : Due) → IsMember due dues → IsRung due
    rung due has = let at = place_of dues due has in (number-here 0 dues at.0 due are at.1).1
