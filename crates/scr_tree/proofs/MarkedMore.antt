-- Marks that come, one function after another.
use Rattle.std.proofs.Common.{◌≡◌, ◌⊎◌, inl, inr, ℕ, zero, suc, Bool, true, false, cond, nat_eq, List, [], ◌∷◌, ◌++◌, Contains, Option, None, Some, Result, Ok, Err, OnOk, slice_get, refl, sym, ap, subst, ◌∙◌}
use Rattle.std.specs.Prelude.{IfSome}
use Rattle.std.specs.List.{list_any}
use Rattle.std.proofs.lemmas.List.Elements.{Contains-append_left, Contains-push, Contains-push_cases}
use Rattle.std.proofs.lemmas.Cmp.{nat_eq_equiv}
use Rattle.std.proofs.lemmas.Option.{get_or_from_slice_get, none-some, same_Some, slice_get-get_or, slice_get_within}
use Rattle.std.proofs.lemmas.Map.Keys.{IsDistinct-push}
use Rattle.scr_reachability.proofs.Members.{Contains-from_IsMember, member-from_any}
use Rattle.scr_tree.specs.Marking.{AreMarkedMore}

-- the marks after that of a number, which is marked once
abbrev pub inserted : List ℕ → ℕ → List ℕ
inserted list number = cond (list_any (nat_eq number) list) list (list ++ number ∷ [])

-- no mark comes where none is due
pub marked-none : (P : ℕ → Type 0) (list : List ℕ) → ((n : ℕ) → P n → ⊥) → AreMarkedMore P list list
marked-none P list none = record {
  once = λ h. h;
  kept = λ place other e. e;
  marked = λ n. (λ h. inl h, by n);
}
  where
    by : (n : ℕ) → Contains list n ⊎ P n → Contains list n
    by n (inl h) = h
    by n (inr p) = absurd (none n p)

-- those of one function and then those of another
pub marked-then : (P Q : ℕ → Type 0) (old mid new : List ℕ) → AreMarkedMore P old mid → AreMarkedMore Q mid new
    → AreMarkedMore (λ n. P n ⊎ Q n) old new
marked-then P Q old mid new one two = record {
  once = λ h. two.once (one.once h);
  kept = λ place other e. two.kept place other (one.kept place other e);
  marked = λ n. (λ h. to n ((two.marked n).0 h), λ h. (two.marked n).1 (from n h));
}
  where
    first : (n : ℕ) → Contains old n ⊎ P n → Contains old n ⊎ (P n ⊎ Q n)
    first n (inl h) = inl h
    first n (inr p) = inr (inl p)

    to : (n : ℕ) → Contains mid n ⊎ Q n → Contains old n ⊎ (P n ⊎ Q n)
    to n (inl h) = first n ((one.marked n).0 h)
    to n (inr q) = inr (inr q)

    from : (n : ℕ) → Contains old n ⊎ (P n ⊎ Q n) → Contains mid n ⊎ Q n
    from n (inl h) = inl ((one.marked n).1 (inl h))
    from n (inr (inl p)) = inl ((one.marked n).1 (inr p))
    from n (inr (inr q)) = inr q

-- the same, told otherwise
pub marked-as : (P Q : ℕ → Type 0) (old new : List ℕ) → ((n : ℕ) → P n → Q n) → ((n : ℕ) → Q n → P n) → AreMarkedMore P old new
    → AreMarkedMore Q old new
marked-as P Q old new to from is = record {
  once = is.once;
  kept = is.kept;
  marked = λ n. (λ h. there n ((is.marked n).0 h), λ h. (is.marked n).1 (back n h));
}
  where
    there : (n : ℕ) → Contains old n ⊎ P n → Contains old n ⊎ Q n
    there n (inl h) = inl h
    there n (inr p) = inr (to n p)

    back : (n : ℕ) → Contains old n ⊎ Q n → Contains old n ⊎ P n
    back n (inl h) = inl h
    back n (inr q) = inr (from n q)

pub marked-then_as : (P Q R : ℕ → Type 0) (old mid new : List ℕ) → AreMarkedMore P old mid → AreMarkedMore Q mid new
    → ((n : ℕ) → P n ⊎ Q n → R n) → ((n : ℕ) → R n → P n ⊎ Q n) → AreMarkedMore R old new
marked-then_as P Q R old mid new one two to from =
    marked-as (λ n. P n ⊎ Q n) R old new to from (marked-then P Q old mid new one two)

-- ---- one number

pub marked-number : (old new : List ℕ) (number : ℕ) → new ≡ inserted old number → AreMarkedMore (λ n. number ≡ n) old new
marked-number old new number is = by (list_any (nat_eq number) old) refl
  where
    shown : (t : Bool) → list_any (nat_eq number) old ≡ t → new ≡ cond t old (old ++ number ∷ [])
    shown t e = is ∙ ap (λ b. cond b old (old ++ number ∷ [])) e

    had : (n : ℕ) → Contains old number → Contains old n ⊎ (number ≡ n) → Contains old n
    had n has (inl h) = h
    had n has (inr e) = subst (Contains old) e has

    more : (n : ℕ) → Contains old n ⊎ (number ≡ n) → Contains (old ++ number ∷ []) n
    more n (inl h) = Contains-append_left old (number ∷ []) n h
    more n (inr e) = subst (Contains (old ++ number ∷ [])) e (Contains-push old number)

    by : (t : Bool) → list_any (nat_eq number) old ≡ t → AreMarkedMore (λ n. number ≡ n) old new
    by true e = subst (AreMarkedMore (λ n. number ≡ n) old) (sym (shown true e)) (record {
      once = λ h. h;
      kept = λ place other at. at;
      marked = λ n. (λ h. inl h, had n (Contains-from_IsMember old number (member-from_any number old e)));
    })
    by false e = subst (AreMarkedMore (λ n. number ≡ n) old) (sym (shown false e)) (record {
      once = λ h. IsDistinct-push nat_eq_equiv old number h e;
      kept = λ place other at. front old place other at;
      marked = λ n. (Contains-push_cases old number n, more n);
    })
      where
        front : (xs : List ℕ) (place other : ℕ) → slice_get xs place ≡ Some other → slice_get (xs ++ number ∷ []) place ≡ Some other
        front [] place other at = absurd (cc)
        front (x ∷ xs) zero other at = at
        front (x ∷ xs) (suc place) other at = front xs place other at

-- the number that an option has
pub some-marked : (found : Option ℕ) (number : ℕ) → found ≡ Some number → (old new : List ℕ) → new ≡ inserted old number
    → AreMarkedMore (λ other. found ≡ Some other) old new
some-marked found number some old new is =
    marked-as (λ other. number ≡ other) (λ other. found ≡ Some other) old new (λ other e. some ∙ ap Some e)
    (λ other e. same_Some number other (sym some ∙ e)) (marked-number old new number is)

pub none-found : (found : Option ℕ) → found ≡ None → (list : List ℕ) → AreMarkedMore (λ other. found ≡ Some other) list list
none-found found none list = marked-none (λ other. found ≡ Some other) list (λ other e. none-some other (sym none ∙ e))

-- a number that is marked where a test holds
pub test-marked : (test : Bool) → test ≡ true → (number : ℕ) (old new : List ℕ) → new ≡ inserted old number
    → AreMarkedMore (λ other. (test ≡ true) × (number ≡ other)) old new
test-marked test holds number old new is =
    marked-as (λ other. number ≡ other) (λ other. (test ≡ true) × (number ≡ other)) old new (λ other e. (holds, e)) (λ other p. p.1)
    (marked-number old new number is)

-- what follows where a call has ended well
pub ok-then : {E : Type 0} {P Q : Type 0} (result : Result (Unit {0}) E) → OnOk result P → (P → Q) → OnOk result Q
ok-then (Ok u) h step = step h
ok-then (Err e) h step = h

-- the same of a test that tells as much
pub test-as : (one other : Bool) → one ≡ other → (number : ℕ) (old new : List ℕ) → AreMarkedMore (λ n. (one ≡ true) × (number ≡ n)) old new
    → AreMarkedMore (λ n. (other ≡ true) × (number ≡ n)) old new
test-as one other same number old new is = subst (λ t. AreMarkedMore (λ n. (t ≡ true) × (number ≡ n)) old new) same is

-- a number whose place is found is marked, and one of which none is found is not
pub marked-here : (list : List ℕ) (number : ℕ) (found : Option ℕ) → IfSome found (λ place. slice_get list place ≡ Some number) → {place : ℕ} → found ≡ Some place
    → Contains list number
marked-here list number None there e = absurd (cc)
marked-here list number (Some place) there e = (place, slice_get_within list place number there, get_or_from_slice_get list place number number there)

pub unmarked : (list : List ℕ) (number : ℕ) (found : Option ℕ) → ((place : ℕ) → slice_get list place ≡ Some number → found ≡ Some place) → found ≡ None
    → Contains list number → ⊥
unmarked list number found only none h =
    none-some h.0 (sym none ∙ only h.0 (slice_get-get_or list h.0 number h.1 ∙ ap Some h.2))
