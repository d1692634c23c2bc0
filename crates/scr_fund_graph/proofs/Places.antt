-- The place of a name among names, and a name that is entered among them.
use Rattle.std.proofs.Common.{◌≡◌, ℕ, suc, ◌+◌, ◌≤◌, Bool, true, false, not, cond, ◌||◌, List, [], ◌∷◌, ◌++◌, length, Some, None, refl, ◌∙◌, inl, inr, arith}
use Rattle.std.specs.Prelude.{position, nat_lt}
use Rattle.std.specs.List.{list_any, position_or_len}
use Rattle.std.proofs.lemmas.Bool.{cases_Bool}
use Rattle.std.proofs.lemmas.List.{length-append}
use Rattle.std.proofs.lemmas.List.Sums.{prefix_len-le-length}
use Rattle.indexmap.specs.IndexSet.{insert_key}
use Rattle.scr_funds.specs.Components.{Components, IsOrder, size_of}
use Rattle.scr_tables.specs.Names.{same_name}
use Rattle.scr_fund_graph.specs.Graph.{number_in, components_under}
use Rattle.scr_fund_graph.proofs.Graphs.{under-entered}
use Rattle.scr_fund_graph.proofs.Numbering.{any-again, any-last}

-- the number of a name is that of the names before it
pub number_before : (names : List (List ℕ)) (name : List ℕ)
    → number_in names name ≡ position_or_len (same_name name) names
number_before [] name = refl
number_before (first ∷ names) name = let rest = number_before names name in grind (arith, rest)

some_of : (b : Bool) (n k : ℕ) → Some k ≡ cond b (Some n) None → n ≡ k
some_of true n k h = cc
some_of false n k h = absurd (cc)

none_of : (b : Bool) (n : ℕ) → None ≡ cond b (Some n) None → b ≡ false
none_of true n h = absurd (cc)
none_of false n h = refl

-- the place that is found is the number of the name, and where none is the number is the next
pub number_at : (names : List (List ℕ)) (name : List ℕ) (k : ℕ) → Some k ≡ position (same_name name) names
    → number_in names name ≡ k
number_at names name k is =
    number_before names name ∙ some_of (nat_lt (position_or_len (same_name name) names) (length names)) _ k is

pub number_past : (names : List (List ℕ)) (name : List ℕ) → None ≡ position (same_name name) names
    → number_in names name ≡ length names
number_past names name is =
    let before = number_before names name in
    let most = prefix_len-le-length (λ x. not (same_name name x)) names in
    let beyond = none_of (nat_lt (position_or_len (same_name name) names) (length names)) _ is in
    grind (arith, before, most, beyond)

-- ---- a name is entered

pub entered_once : (names : List (List ℕ)) (new name : List ℕ)
    → list_any (same_name name) (insert_key same_name names new) ≡ (same_name name new || list_any (same_name name) names)
entered_once names new name = elim (cases_Bool (list_any (same_name new) names)) [
  | inl there ↦ rw there (any-again names new name there)
  | inr fresh ↦ rw fresh (any-last names new name)
]

pub no_fewer : (names : List (List ℕ)) (new : List ℕ)
    → (length names ≤ length (insert_key same_name names new)) × (length (insert_key same_name names new) ≤ suc (length names))
no_fewer names new = elim (cases_Bool (list_any (same_name new) names)) [
  | inl there ↦ rw there (omega arith, omega arith)
  | inr fresh ↦
      let long : length (names ++ new ∷ []) ≡ length names + 1 = length-append names (new ∷ []) in
      rw fresh (omega (arith, long), omega (arith, long))
]

pub under_once : (names : List (List ℕ)) (all : Components) → size_of all ≤ length names → IsOrder all → (new : List ℕ)
    → components_under (record { names = insert_key same_name names new; components = all })
    ≡ components_under (record { names = names; components = all })
under_once names all few order new = elim (cases_Bool (list_any (same_name new) names)) [
  | inl there ↦ rw there refl
  | inr fresh ↦ rw fresh (under-entered names all few order new)
]
