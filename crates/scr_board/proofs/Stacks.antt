-- The nodes of a hand that is worked from its end.
use Rattle.std.proofs.Common.{◌≡◌, ℕ, ◌+◌, List, [], ◌∷◌, ◌++◌, length, refl, arith}
use Rattle.scr_board.specs.declared.lists.Held.{Held}
use Rattle.scr_board.specs.States.{held}
use Rattle.scr_board.specs.Working.{stacked}

pub stacked-push : (nodes : List ℕ) (n : ℕ) (hand : List Held) → stacked (nodes ++ n ∷ []) hand ≡ held n 0 ∷ stacked nodes hand
stacked-push [] n hand = refl
stacked-push (m ∷ nodes) n hand = stacked-push nodes n (held m 0 ∷ hand)

pub stacked-length : (nodes : List ℕ) (hand : List Held) → length (stacked nodes hand) ≡ length nodes + length hand
stacked-length [] hand = omega arith
stacked-length (n ∷ nodes) hand = let more = stacked-length nodes (held n 0 ∷ hand) in omega (arith, more)
