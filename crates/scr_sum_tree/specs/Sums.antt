-- Sums by an operator that may be applied in any order and with any grouping (own).
use Rattle.std.specs.Prelude.{◌≡◌, ℕ, true, List, [], ◌∷◌, length, map}
use Rattle.scr_sum_tree.specs.Blocks.{is_block, block_sources}
use Rattle.scr_sum_tree.specs.declared.blocks.Level.{Level}

-- The operator is associative and commutative, with `nothing` as its neutral element (own).
pub record AddsUp {Sum : Type 0} (nothing : Sum) (add : Sum → Sum → Sum) : Type 0 where
  pub grouped : (a b c : Sum) → add (add a b) c ≡ add a (add b c)
  pub swapped : (a b : Sum) → add a b ≡ add b a
  pub empty : (a : Sum) → add nothing a ≡ a

-- The sum of a list (own).
abbrev pub total : {Sum : Type 0} → Sum → (Sum → Sum → Sum) → List Sum → Sum
total nothing add [] = nothing
total nothing add (x ∷ xs) = add x (total nothing add xs)

-- Each Block of the list is worth the sum of what its sources are worth (own).
abbrev pub AreSums : {Name Node Sum : Type 0} → (List Sum → Sum) → (Node → Sum) → (Name → Node) → (Level → ℕ → Node)
    → List Name → Type 0
AreSums sum worth member block list = (level : Level) (i : ℕ) → is_block (length list) level i ≡ true
    → worth (block level i) ≡ sum (map worth (block_sources member block list level i))
