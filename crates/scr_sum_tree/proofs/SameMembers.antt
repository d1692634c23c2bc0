-- Two lists that have the same names, each once, have one sum, in whatever order the names stand.
use Rattle.std.proofs.Common.{◌≡◌, ℕ, ◌<◌, Bool, true, false, cond, ◌||◌, List, [], ◌∷◌, ◌++◌, Some, filter, length, get_or, slice_get, map, refl, sym, ap, subst, ◌∙◌, arith}
use Rattle.std.specs.List.{AllByRecursion, IsDistinct, list_any}
use Rattle.std.specs.Option.{option_map_or}
use Rattle.std.specs.Cmp.Lexicographic.{bytes_decides, nat_list_eq_equiv}
use Rattle.std.proofs.lemmas.List.{map-append, length-map, get_or-map}
use Rattle.std.proofs.lemmas.List.Sorted.{IsPermutation-middle, list_any-IsPermutation}
use Rattle.std.proofs.lemmas.Map.Keys.{IsDistinct-head, IsDistinct-tail, IsDistinct-cons, IsDistinct-IsPermutation, apart_from_distinct}
use Rattle.std.proofs.lemmas.Option.{get_or_from_slice_get, slice_get-get_or}
use Rattle.scr_tables.specs.Names.{same_name}
use Rattle.scr_tables.specs.Tables.{row_of}
use Rattle.scr_sum_tree.specs.Blocks.{HasEachOnce}
use Rattle.scr_sum_tree.specs.Sums.{AddsUp, total}
use Rattle.scr_sum_tree.proofs.Regrouped.{total-append}

-- the name is one of these
abbrev has : List ℕ → List (List ℕ) → Bool
has name names = list_any (same_name name) names

pub same_name-flip : (a b : List ℕ) → same_name a b ≡ same_name b a
same_name-flip a b = nat_list_eq_equiv.symm a b

pub same_name-is : (a b : List ℕ) → same_name a b ≡ true → a ≡ b
same_name-is a b h = (bytes_decides a b).0 h

-- the name is none of these
abbrev IsApart : List ℕ → List (List ℕ) → Type 0
IsApart name names = AllByRecursion (λ other. same_name name other ≡ false) names

apart-has : (name : List ℕ) (names : List (List ℕ)) → IsApart name names → has name names ≡ false
apart-has name [] apart = refl
apart-has name (other ∷ names) apart = let rest = apart-has name names apart.1 in grind (arith, apart.0, rest)

-- a name of a list stands somewhere in it
record Found (name : List ℕ) (names : List (List ℕ)) : Type 0 where
  before : List (List ℕ)
  after : List (List ℕ)
  is : names ≡ before ++ name ∷ after

found : (name : List ℕ) (names : List (List ℕ)) → has name names ≡ true → Found name names
found name [] there = absurd (cc)
found name (other ∷ names) there = by (same_name name other) refl (λ there. found name names there)
  where
    by : (t : Bool) → same_name name other ≡ t → (has name names ≡ true → Found name names) → Found name (other ∷ names)
    by true e later = record { before = []; after = names; is = ap (λ n. n ∷ names) (sym (same_name-is name other e)) }
    by false e later =
        let rest = later (sym (ap (λ t. t || has name names) e) ∙ there) in
        record { before = other ∷ rest.before; after = rest.after; is = ap (λ ns. other ∷ ns) rest.is }

module _ {Sum : Type 0} (nothing : Sum) (add : Sum → Sum → Sum) (laws : AddsUp nothing add) where
  total-middle : (xs ys : List Sum) (x : Sum) → total nothing add (xs ++ x ∷ ys) ≡ add x (total nothing add (xs ++ ys))
  total-middle xs ys x =
      total-append nothing add laws xs (x ∷ ys)
      ∙ sym (laws.grouped (total nothing add xs) x (total nothing add ys))
      ∙ ap (λ s. add s (total nothing add ys)) (laws.swapped (total nothing add xs) x)
      ∙ laws.grouped x (total nothing add xs) (total nothing add ys)
      ∙ ap (add x) (sym (total-append nothing add laws xs ys))

  pub total-same : (worth : List ℕ → Sum) (xs ys : List (List ℕ)) → IsDistinct same_name xs → IsDistinct same_name ys
      → ((name : List ℕ) → has name xs ≡ has name ys) → total nothing add (map worth xs) ≡ total nothing add (map worth ys)
  total-same worth [] [] once once' same = refl
  total-same worth [] (y ∷ ys) once once' same =
      let own : same_name y y ≡ true = nat_list_eq_equiv.refl y in
      let never : false ≡ true = same y ∙ ap (λ t. t || has y ys) own in
      absurd (cc)
  total-same worth (x ∷ xs) ys once once' same =
      ap (add (worth x)) (total-same worth xs others (IsDistinct-tail same_name x xs once) (IsDistinct-tail same_name x others apart) rest)
      ∙ sym (ap (λ names. total nothing add (map worth names)) at.is
      ∙ ap (total nothing add) (map-append worth at.before (x ∷ at.after))
      ∙ total-middle (map worth at.before) (map worth at.after) (worth x)
      ∙ ap (λ s. add (worth x) (total nothing add s)) (sym (map-append worth at.before at.after)))
    where
      there : has x ys ≡ true
      there = sym (same x) ∙ ap (λ t. t || has x xs) (nat_list_eq_equiv.refl x)

      at : Found x ys
      at = found x ys there

      others : List (List ℕ)
      others = at.before ++ at.after

      apart : IsDistinct same_name (x ∷ others)
      apart = IsDistinct-IsPermutation same_name same_name-flip (at.before ++ x ∷ at.after) (x ∷ others)
          (IsPermutation-middle at.before x at.after) (subst (IsDistinct same_name) at.is once')

      moved : (name : List ℕ) → has name ys ≡ (same_name name x || has name others)
      moved name = ap (has name) at.is ∙ list_any-IsPermutation (same_name name) (at.before ++ x ∷ at.after) (x ∷ others) (IsPermutation-middle at.before x at.after)

      rest : (name : List ℕ) → has name xs ≡ has name others
      rest name = by (same_name name x) refl
        where
          by : (t : Bool) → same_name name x ≡ t → has name xs ≡ has name others
          by true e =
              ap (λ n. has n xs) (same_name-is name x e) ∙ apart-has x xs (IsDistinct-head same_name x xs once)
              ∙ sym (apart-has x others (IsDistinct-head same_name x others apart))
              ∙ ap (λ n. has n others) (sym (same_name-is name x e))
          by false e =
              sym (ap (λ t. t || has name xs) e) ∙ same name ∙ moved name ∙ ap (λ t. t || has name others) e

-- ---- the rows of a table that pass a test

module _ {Row : Type 0} (name_of : Row → List ℕ) (test : Row → Bool) where
  apart-kept : (name : List ℕ) (rows : List Row) → IsApart name (map name_of rows) → IsApart name (map name_of (filter test rows))
  apart-kept name [] apart = tt
  apart-kept name (row ∷ rows) apart = by (test row) refl (apart-kept name rows apart.1)
    where
      by : (t : Bool) → test row ≡ t → IsApart name (map name_of (filter test rows)) → IsApart name (map name_of (cond (test row) (row ∷ filter test rows) (filter test rows)))
      by true e rest = subst (λ t. IsApart name (map name_of (cond t (row ∷ filter test rows) (filter test rows)))) (sym e) (apart.0, rest)
      by false e rest = subst (λ t. IsApart name (map name_of (cond t (row ∷ filter test rows) (filter test rows)))) (sym e) rest

  pub distinct-kept : (rows : List Row) → IsDistinct same_name (map name_of rows) → IsDistinct same_name (map name_of (filter test rows))
  distinct-kept [] once = once
  distinct-kept (row ∷ rows) once = by (test row) refl (distinct-kept rows (IsDistinct-tail same_name (name_of row) (map name_of rows) once))
    where
      by : (t : Bool) → test row ≡ t → IsDistinct same_name (map name_of (filter test rows))
          → IsDistinct same_name (map name_of (cond (test row) (row ∷ filter test rows) (filter test rows)))
      by true e rest = subst (λ t. IsDistinct same_name (map name_of (cond t (row ∷ filter test rows) (filter test rows)))) (sym e)
          (IsDistinct-cons same_name (name_of row) (map name_of (filter test rows)) (apart-kept (name_of row) rows (IsDistinct-head same_name (name_of row) (map name_of rows) once)) rest)
      by false e rest = subst (λ t. IsDistinct same_name (map name_of (cond t (row ∷ filter test rows) (filter test rows)))) (sym e) rest

  -- a name is among theirs where its row passes
  pub has-kept : (rows : List Row) → IsDistinct same_name (map name_of rows) → (name : List ℕ)
      → has name (map name_of (filter test rows)) ≡ option_map_or test (row_of name_of name rows) false
  has-kept [] once name = refl
  has-kept (row ∷ rows) once name = by (same_name name (name_of row)) refl (test row) refl
      (has-kept rows (IsDistinct-tail same_name (name_of row) (map name_of rows) once) name)
    where
      kept : Bool
      kept = has name (map name_of (filter test rows))

      here : Bool → List Row
      here t = cond t (row ∷ filter test rows) (filter test rows)

      got : Bool → Bool
      got s = option_map_or test (cond s (Some row) (row_of name_of name rows)) false

      none : same_name name (name_of row) ≡ true → kept ≡ false
      none e = ap (λ n. has n (map name_of (filter test rows))) (same_name-is name (name_of row) e)
          ∙ apart-has (name_of row) (map name_of (filter test rows)) (apart-kept (name_of row) rows (IsDistinct-head same_name (name_of row) (map name_of rows) once))

      by : (s : Bool) → same_name name (name_of row) ≡ s → (t : Bool) → test row ≡ t → kept ≡ option_map_or test (row_of name_of name rows) false
          → has name (map name_of (here (test row))) ≡ got (same_name name (name_of row))
      by true e true d rest = ap (λ t. has name (map name_of (here t))) d ∙ ap (λ s. s || kept) e ∙ sym (ap got e ∙ d)
      by true e false d rest = ap (λ t. has name (map name_of (here t))) d ∙ none e ∙ sym (ap got e ∙ d)
      by false e true d rest = ap (λ t. has name (map name_of (here t))) d ∙ ap (λ s. s || kept) e ∙ rest ∙ sym (ap got e)
      by false e false d rest = ap (λ t. has name (map name_of (here t))) d ∙ rest ∙ sym (ap got e)

-- the sum over a roll is that over the rows whose names it has
pub total-roll : {Sum Row : Type 0} (nothing : Sum) (add : Sum → Sum → Sum) → AddsUp nothing add → (name_of : Row → List ℕ) (test : Row → Bool)
    (worth : List ℕ → Sum) (rows : List Row) (roll : List (List ℕ)) → IsDistinct same_name (map name_of rows) → IsDistinct same_name roll
    → ((name : List ℕ) → has name roll ≡ option_map_or test (row_of name_of name rows) false)
    → total nothing add (map worth (map name_of (filter test rows))) ≡ total nothing add (map worth roll)
total-roll nothing add laws name_of test worth rows roll once once' members =
    total-same nothing add laws worth (map name_of (filter test rows)) roll (distinct-kept name_of test rows once) once'
    (λ name. has-kept name_of test rows once name ∙ sym (members name))

-- names that are told apart by their bytes stand at places of their own
pub names-once : (list : List (List ℕ)) → IsDistinct same_name list → HasEachOnce list
names-once list once j k before inside same = let never : false ≡ true = sym two ∙ one in absurd (cc)
  where
    names : get_or list j [] ≡ get_or list k []
    names = sym (get_or_from_slice_get list k (get_or list j []) [] (sym same ∙ slice_get-get_or list j [] (omega (arith, before, inside))))

    one : same_name (get_or list j []) (get_or list k []) ≡ true
    one = ap (same_name (get_or list j [])) (sym names) ∙ nat_list_eq_equiv.refl (get_or list j [])

    two : same_name (get_or list j []) (get_or list k []) ≡ false
    two = apart_from_distinct same_name list j k [] once before inside

-- where names stand once, so do their figures
pub figures-once : {Node : Type 0} (member : List ℕ → Node) → ((a b : List ℕ) → member a ≡ member b → a ≡ b)
    → (list : List (List ℕ)) → IsDistinct same_name list → HasEachOnce (map member list)
figures-once member apart list once j k before inside same = let never : false ≡ true = sym two ∙ one in absurd (cc)
  where
    within : k < length list
    within = omega (arith, inside, length-map list member)

    at : (n : ℕ) → n < length list → slice_get (map member list) n ≡ Some (member (get_or list n []))
    at n h = slice_get-get_or (map member list) n (member []) (omega (arith, h, length-map list member)) ∙ ap Some (get_or-map member list n [] (member []) h)

    figures : member (get_or list j []) ≡ member (get_or list k [])
    figures = sym (get_or_from_slice_get (map member list) k (member (get_or list j [])) (member []) (sym same ∙ at j (omega (arith, before, within))))
        ∙ get_or-map member list k [] (member []) within

    names : get_or list j [] ≡ get_or list k []
    names = apart (get_or list j []) (get_or list k []) figures

    one : same_name (get_or list j []) (get_or list k []) ≡ true
    one = ap (same_name (get_or list j [])) (sym names) ∙ nat_list_eq_equiv.refl (get_or list j [])

    two : same_name (get_or list j []) (get_or list k []) ≡ false
    two = apart_from_distinct same_name list j k [] once before within
