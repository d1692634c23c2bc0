-- The laws of sums, for a sum that is written otherwise: of ends, and whether one of several holds.
use Rattle.std.proofs.Common.{◌≡◌, ℕ, Bool, true, false, ◌||◌, pos, List, [], ◌∷◌, filter, map, refl, sym, ap, ◌∙◌}
use Rattle.std.specs.List.{IsDistinct, list_any}
use Rattle.std.specs.Option.{option_map_or}
use Rattle.scr_tables.specs.Names.{same_name}
use Rattle.scr_tables.specs.Tables.{row_of}
use Rattle.scr_num.specs.Rounding.{Ends, exact_ends, add_ends}
use Rattle.scr_num.specs.Sums.{sum_ends}
use Rattle.scr_num.proofs.AddedEnds.{add_ends-assoc, zero-add_ends}
use Rattle.scr_num.proofs.SumLemmas.{add_ends-swap}
use Rattle.scr_sum_tree.specs.Blocks.{tops, block_sources}
use Rattle.scr_sum_tree.specs.Sums.{AddsUp, AreSums, total}
use Rattle.scr_sum_tree.specs.declared.blocks.Level.{Level}
use Rattle.scr_sum_tree.proofs.Regrouped.{total-tops}
use Rattle.scr_sum_tree.proofs.SameMembers.{total-same, total-roll}

module _ {Sum : Type 0} (nothing : Sum) (add : Sum → Sum → Sum) (laws : AddsUp nothing add) (sum : List Sum → Sum)
    (is : (xs : List Sum) → total nothing add xs ≡ sum xs) where
  pub sum-tops : {Name Node : Type 0} (worth : Node → Sum) (member : Name → Node) (block : Level → ℕ → Node) (roll : List Name)
      → AreSums sum worth member block roll → sum (map worth (tops member block roll)) ≡ sum (map worth (map member roll))
  sum-tops worth member block roll summed =
      sym (is (map worth (tops member block roll)))
      ∙ total-tops nothing add laws worth member block roll (λ level i there. summed level i there ∙ sym (is (map worth (block_sources member block roll level i))))
      ∙ is (map worth (map member roll))

  pub sum-same : (worth : List ℕ → Sum) (xs ys : List (List ℕ)) → IsDistinct same_name xs → IsDistinct same_name ys
      → ((name : List ℕ) → list_any (same_name name) xs ≡ list_any (same_name name) ys) → sum (map worth xs) ≡ sum (map worth ys)
  sum-same worth xs ys once once' same =
      sym (is (map worth xs)) ∙ total-same nothing add laws worth xs ys once once' same ∙ is (map worth ys)

  pub sum-roll : {Row : Type 0} (name_of : Row → List ℕ) (test : Row → Bool) (worth : List ℕ → Sum) (rows : List Row) (roll : List (List ℕ))
      → IsDistinct same_name (map name_of rows) → IsDistinct same_name roll
      → ((name : List ℕ) → list_any (same_name name) roll ≡ option_map_or test (row_of name_of name rows) false)
      → sum (map worth (map name_of (filter test rows))) ≡ sum (map worth roll)
  sum-roll name_of test worth rows roll once once' members =
      sym (is (map worth (map name_of (filter test rows)))) ∙ total-roll nothing add laws name_of test worth rows roll once once' members ∙ is (map worth roll)

-- ---- ends

pub ends-add_up : AddsUp (exact_ends (pos 0)) add_ends
ends-add_up = record { grouped = add_ends-assoc; swapped = add_ends-swap; empty = zero-add_ends }

pub total-ends : (es : List Ends) → total (exact_ends (pos 0)) add_ends es ≡ sum_ends es
total-ends [] = refl
total-ends (e ∷ es) = ap (add_ends e) (total-ends es)

-- ---- whether one holds

pub or-adds_up : AddsUp false (λ a b. a || b)
or-adds_up = record { grouped = grouped; swapped = swapped; empty = λ a. refl }
  where
    grouped : (a b c : Bool) → ((a || b) || c) ≡ (a || (b || c))
    grouped true b c = refl
    grouped false b c = refl

    swapped : (a b : Bool) → (a || b) ≡ (b || a)
    swapped true true = refl
    swapped true false = refl
    swapped false true = refl
    swapped false false = refl

pub total-or : (tests : List Bool) → total false (λ a b. a || b) tests ≡ list_any (λ b. b) tests
total-or [] = refl
total-or (t ∷ tests) = ap (λ b. t || b) (total-or tests)
