-- The numbers of names: which number a name has, and which name a number has.
use Rattle.std.proofs.Common.{◌≡◌, ℕ, zero, suc, ◌<◌, ◌≤◌, true, false, cond, ◌||◌, List, [], ◌∷◌, ◌++◌, map, length, get_or, All, refl, sym, ap, subst, ◌∙◌, inl, inr, arith}
use Rattle.std.specs.List.{list_any, AllByRecursion, IsDistinct}
use Rattle.std.proofs.lemmas.Bool.{true≢false}
use Rattle.scr_funds.proofs.Members.{IsMember, Contains-from_IsMember}
use Rattle.scr_tables.specs.Names.{same_name}
use Rattle.scr_tables.proofs.TableRows.{same_name-itself, same_name-flip, same_name-is}
use Rattle.scr_fund_graph.specs.Graph.{number_in}

-- what holds of each holds of a member
pub at_all : {A : Type 0} (P : A → Type 0) (xs : List A) (x : A) → All P xs → IsMember x xs → P x
at_all P xs x all m = let there = Contains-from_IsMember xs x m in subst P there.2 (all there.0 x there.1)

each_at : {A : Type 0} (P : A → Type 0) (xs : List A) (k : ℕ) (d : A) → AllByRecursion P xs → k < length xs
    → P (get_or xs k d)
each_at P [] k d all l = absurd (omega arith)
each_at P (x ∷ xs) zero d all l = all.0
each_at P (x ∷ xs) (suc k) d all l = each_at P xs k d all.1 (omega arith)

-- two functions that agree on each member
pub map_same : {A B : Type 0} (f g : A → B) (xs : List A) → ((x : A) → IsMember x xs → f x ≡ g x) → map f xs ≡ map g xs
map_same f g [] same = refl
map_same f g (x ∷ xs) same =
    let first = same x (inl refl) in
    let rest = map_same f g xs (λ y m. same y (inr m)) in
    (λ i. first i ∷ rest i)

-- a function after another that undoes it on each member
pub map_undone : {A B C : Type 0} (f : B → C) (g : A → B) (h : A → C) (xs : List A)
    → ((x : A) → IsMember x xs → f (g x) ≡ h x) → map f (map g xs) ≡ map h xs
map_undone f g h [] undone = refl
map_undone f g h (x ∷ xs) undone =
    let first = undone x (inl refl) in
    let rest = map_undone f g h xs (λ y m. undone y (inr m)) in
    (λ i. first i ∷ rest i)

-- ---- one step

pub number-here : (first : List ℕ) (names : List (List ℕ)) (name : List ℕ) → same_name name first ≡ true
    → number_in (first ∷ names) name ≡ 0
number-here first names name e = ap (λ t. cond t 0 (suc (number_in names name))) e

pub number-later : (first : List ℕ) (names : List (List ℕ)) (name : List ℕ) → same_name name first ≡ false
    → number_in (first ∷ names) name ≡ suc (number_in names name)
number-later first names name e = ap (λ t. cond t 0 (suc (number_in names name))) e

-- ---- from a name to its number and back

-- the number of a name has that name, or else none
pub name-number : (names : List (List ℕ)) (name : List ℕ) → get_or names (number_in names name) name ≡ name
name-number [] name = refl
name-number (first ∷ names) name = let rest = name-number names name in grind (arith, rest, same_name-is name first)

pub number-entered : (names : List (List ℕ)) (name : List ℕ) → list_any (same_name name) names ≡ true
    → number_in names name < length names
number-entered [] name has = absurd (true≢false (sym has))
number-entered (first ∷ names) name has = let rest = number-entered names name in grind (arith, has, rest)

pub number-new : (names : List (List ℕ)) (name : List ℕ) → list_any (same_name name) names ≡ false
    → number_in names name ≡ length names
number-new [] name has = refl
number-new (first ∷ names) name has = let rest = number-new names name in grind (arith, has, rest)

-- where no two names are one, the number of the name at a place is the place
pub number-name : (names : List (List ℕ)) → IsDistinct same_name names → (k : ℕ) (d : List ℕ) → k < length names
    → number_in names (get_or names k d) ≡ k
unfolding IsDistinct
number-name [] distinct k d l = absurd (omega arith)
number-name (first ∷ names) distinct zero d l = number-here first names first (same_name-itself first)
number-name (first ∷ names) distinct (suc k) d l =
    let other = same_name-flip (get_or names k d) first
    ∙ each_at (λ name. same_name first name ≡ false) names k d distinct.0 (omega arith) in
    number-later first names (get_or names k d) other ∙ ap suc (number-name names distinct.1 k d (omega arith))

-- ---- a name goes last

pub any-last : (names : List (List ℕ)) (new name : List ℕ)
    → list_any (same_name name) (names ++ new ∷ []) ≡ (same_name name new || list_any (same_name name) names)
any-last [] new name = refl
any-last (first ∷ names) new name = let rest = any-last names new name in grind (arith, rest)

pub number-kept : (names more : List (List ℕ)) (name : List ℕ) → list_any (same_name name) names ≡ true
    → number_in (names ++ more) name ≡ number_in names name
number-kept [] more name has = absurd (true≢false (sym has))
number-kept (first ∷ names) more name has = let rest = number-kept names more name in grind (arith, has, rest)

pub number-past : (names more : List (List ℕ)) (name : List ℕ) → list_any (same_name name) names ≡ false
    → length names ≤ number_in (names ++ more) name
number-past [] more name has = omega arith
number-past (first ∷ names) more name has = let rest = number-past names more name in grind (arith, has, rest)

-- a name that is entered once more is that of one that is there
pub any-again : (names : List (List ℕ)) (old name : List ℕ) → list_any (same_name old) names ≡ true
    → list_any (same_name name) names ≡ (same_name name old || list_any (same_name name) names)
any-again names old name has = grind (arith, has, same_name-is name old)
