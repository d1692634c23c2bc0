-- Draws, and lists that are made with them (this project's own): a linear congruential generator on 64 bits, of whose
-- state a draw takes the upper half.
use Rattle.std.specs.Prelude.{ℕ, zero, suc, ◌+◌, ◌*◌, ◌/◌, ◌%◌, ◌^◌, ◌++◌, List, []}

-- the state after the next draw
unfoldable pub next_state : ℕ → ℕ
next_state state = (state * 6364136223846793005 + 1442695040888963407) % 2 ^ 64

-- what is made with draws: from the state before them, a value and the state after them
abbrev pub Drawn : Type 0 → Type 0
Drawn A = ℕ → A × ℕ

-- a number below this one
unfoldable pub draw : ℕ → Drawn ℕ
draw below state = ((next_state state / 2 ^ 32) % below, next_state state)

-- a value without a draw
abbrev pub given : {A : Type 0} → A → Drawn A
given value state = (value, state)

-- one thing, and then what follows from it
infixl 10 ◌>>=◌
abbrev pub ◌>>=◌ : {A B : Type 0} → Drawn A → (A → Drawn B) → Drawn B
make >>= then = λ state. then (make state).0 (make state).1

-- one list, and then another behind it
infixl 11 ◌>>◌
abbrev pub ◌>>◌ : {A : Type 0} → Drawn (List A) → Drawn (List A) → Drawn (List A)
first >> second = do
  before ← first
  more ← second
  given (before ++ more)

-- a list for each of the numbers from 0 to n - 1 in order, one behind another
unfoldable pub each : {A : Type 0} → ℕ → (ℕ → Drawn (List A)) → Drawn (List A)
each zero make = given []
each (suc n) make = each n make >> make n
