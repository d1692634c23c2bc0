-- What holds of each member of a list that is made.
use Rattle.std.proofs.Common.{ℕ, zero, suc, ◌/◌, ◌^◌, ◌<◌, ◌≤◌, ◌++◌, Bool, true, false, List, [], ◌∷◌, map, cond, arith}
use Rattle.std.specs.List.{AllByRecursion}
use Rattle.std.proofs.lemmas.Nat.{mod_below}
use Rattle.scr_made.specs.Draws.{Drawn, ◌>>◌, draw, next_state, each}
use Rattle.scr_made.specs.Made.{for_years}

-- whatever the state, each member has this
abbrev pub AllMade : {A : Type 0} → (A → Type 0) → Drawn (List A) → Type 0
AllMade P made = (state : ℕ) → AllByRecursion P (made state).0

pub all-append : {A : Type 0} (P : A → Type 0) (xs ys : List A) → AllByRecursion P xs → AllByRecursion P ys
    → AllByRecursion P (xs ++ ys)
all-append P [] ys h k = k
all-append P (x ∷ xs) ys h k = (h.0, all-append P xs ys h.1 k)

pub all_map : {A B : Type 0} (Q : A → Type 0) (P : B → Type 0) (f : A → B) → ((x : A) → Q x → P (f x)) → (xs : List A)
    → AllByRecursion Q xs → AllByRecursion P (map f xs)
all_map Q P f h [] k = tt
all_map Q P f h (x ∷ xs) k = (h x k.0, all_map Q P f h xs k.1)

pub all_then : {A : Type 0} (P : A → Type 0) (first second : Drawn (List A)) → AllMade P first → AllMade P second
    → AllMade P (first >> second)
all_then P first second h k state =
    all-append P (first state).0 (second (first state).1).0 (h state) (k (first state).1)

pub all_each : {A : Type 0} (P : A → Type 0) (n : ℕ) (make : ℕ → Drawn (List A))
    → ((k : ℕ) → k < n → AllMade P (make k)) → AllMade P (each n make)
unfolding each
all_each P zero make h state = tt
all_each P (suc n) make h state =
    all_then P (each n make) (make n) (all_each P n make (λ k lt. h k (omega arith))) (h n (omega arith)) state

pub all_years : {A : Type 0} (P : A → Type 0) (n : ℕ) (value : ℕ → A) → ((year : ℕ) → year ≤ n → P (value year))
    → AllByRecursion P (for_years n value)
unfolding for_years
all_years P zero value h = tt
all_years P (suc n) value h =
    all-append P (for_years n value) (value (suc n) ∷ []) (all_years P n value (λ year le. h year (omega arith)))
    (h (suc n) (omega arith), tt)

pub either : {A : Type 0} (P : A → Type 0) (b : Bool) (x y : A) → P x → P y → P (cond b x y)
either P true x y h k = h
either P false x y h k = k

pub draw_below : (below state : ℕ) → 0 < below → (draw below state).0 < below
unfolding draw
draw_below below state h = mod_below (next_state state / 2 ^ 32) below h
