-- Each row stands in just one piece, and so in one part.
use Rattle.std.proofs.Common.{◌≡◌, ℕ, zero, suc, ◌+◌, ◌<◌, ◌≤◌, ◌≢◌, ◌⊎◌, Bool, true, false, nat_eq, ◌&&◌, List, [], ◌∷◌, ◌++◌, length, refl, sym, ap, ◌∙◌, inl, inr, arith}
use Rattle.std.specs.Prelude.{cond, sum_by}
use Rattle.std.specs.List.{AllByRecursion}
use Rattle.std.proofs.lemmas.Bool.Decides.{eqb_tells}
use Rattle.std.proofs.lemmas.List.Sums.{sum_by-append, sum_by-cons}
use Rattle.scr_board.specs.Counts.{one_if, times, total}
use Rattle.scr_board.proofs.Members.{other_number, same_number}
use Rattle.scr_board.specs.declared.board.Board.{Board}
use Rattle.scr_board.specs.declared.board.Pass.{Pass}
use Rattle.scr_board.specs.Closing.{puts_of}
use Rattle.scr_board.specs.Passes.{progress, view}
use Rattle.scr_board.specs.BoardRounds.{BoardRound}
use Rattle.scr_board.specs.Working.{IsDone}
use Rattle.scr_board.proofs.Reading.{same_count}
use Rattle.scr_parallel.specs.declared.rows.Piece.{Piece}
use Rattle.scr_parallel.specs.declared.rows.Sort.{Sort}
use Rattle.scr_parallel.specs.declared.rows.Sort.TheVariants as sorts
use Rattle.scr_parallel.specs.Hands.{row_times}
use Rattle.scr_parallel.specs.Pieces.{piece_at}
use Rattle.scr_parallel.specs.Rows.{Row, all_rows, row, rows_from, rows_in, rows_of, same_row, sort_number, times_row}

-- ---- a row among rows

abbrev mark : Bool → ℕ
mark t = cond t 1 0

pub times_row-append : (one : Row) (rows more : List Row) → times_row one (rows ++ more) ≡ times_row one rows + times_row one more
times_row-append one rows more = sum_by-append (λ other. mark (same_row one other)) rows more

times_row-cons : (one other : Row) (rows : List Row) → times_row one (other ∷ rows) ≡ mark (same_row one other) + times_row one rows
times_row-cons one other rows = sum_by-cons (λ x. mark (same_row one x)) other rows

-- rows of another sort
other-sort : (a b : Sort) (place from many : ℕ) → nat_eq (sort_number a) (sort_number b) ≡ false → times_row (row a place) (rows_from b from many) ≡ 0
other-sort a b place from zero apart = refl
other-sort a b place from (suc many) apart =
    let here : mark (same_row (row a place) (row b from)) ≡ 0 = ap (λ t. mark (t && nat_eq place from)) apart in
    let all = times_row-cons (row a place) (row b from) (rows_from b (from + 1) many) in
    let more = other-sort a b place (from + 1) many apart in
    omega (arith, here, all, more)

-- and of its own
here-is : (a : Sort) (place from : ℕ) → mark (same_row (row a place) (row a from)) ≡ mark (nat_eq place from)
here-is a place from = ap (λ t. mark (t && nat_eq place from)) (same_number (sort_number a))

own-before : (a : Sort) (place from many : ℕ) → place < from → times_row (row a place) (rows_from a from many) ≡ 0
own-before a place from zero low = refl
own-before a place from (suc many) low =
    let here : mark (same_row (row a place) (row a from)) ≡ 0 =
    here-is a place from ∙ ap (λ t. mark t) (other_number place from (λ e. omega (arith, e, low))) in
    let all = times_row-cons (row a place) (row a from) (rows_from a (from + 1) many) in
    let more = own-before a place (from + 1) many (omega (arith, low)) in
    omega (arith, here, all, more)

own-once : (a : Sort) (place from many : ℕ) → from ≤ place → place < from + many → times_row (row a place) (rows_from a from many) ≡ 1
own-once a place from zero high low = absurd (omega (arith, high, low))
own-once a place from (suc many) high low =
    by (eqb_tells place from) (times_row-cons (row a place) (row a from) (rows_from a (from + 1) many)) (λ h l. own-once a place (from + 1) many h l)
  where
    by : ((nat_eq place from ≡ true) × (place ≡ from)) ⊎ ((nat_eq place from ≡ false) × (place ≢ from))
        → times_row (row a place) (rows_from a from (suc many))
        ≡ mark (same_row (row a place) (row a from)) + times_row (row a place) (rows_from a (from + 1) many)
        → (from + 1 ≤ place → place < from + 1 + many → times_row (row a place) (rows_from a (from + 1) many) ≡ 1)
        → times_row (row a place) (rows_from a from (suc many)) ≡ 1
    by (inl t) all on =
        let here : mark (same_row (row a place) (row a from)) ≡ 1 = here-is a place from ∙ ap (λ b. mark b) t.0 in
        let same = t.1 in
        let more = own-before a place (from + 1) many (omega (arith, same)) in
        omega (arith, here, all, more)
    by (inr f) all on =
        let here : mark (same_row (row a place) (row a from)) ≡ 0 = here-is a place from ∙ ap (λ b. mark b) f.0 in
        let ne = f.1 in
        let more = on (omega (arith, high, ne)) (omega (arith, low)) in
        omega (arith, here, all, more)

-- each row that there is stands once among all
module _ (count : Sort → ℕ) where
  abbrev first : List Row
  first = rows_from sorts.Liability 0 (count sorts.Liability)

  abbrev second : List Row
  second = rows_from sorts.Security 0 (count sorts.Security)

  abbrev third : List Row
  third = rows_from sorts.Group 0 (count sorts.Group)

  parts : (one : Row) → times_row one (all_rows count) ≡ times_row one first + (times_row one second + times_row one third)
  parts one =
      let outer = times_row-append one first (second ++ third) in
      let inner = times_row-append one second third in
      omega (arith, outer, inner)

  pub all-once : (sort : Sort) (place : ℕ) → place < count sort → times_row (row sort place) (all_rows count) ≡ 1
  all-once sorts.Liability place low =
      let all = parts (row sorts.Liability place) in
      let own = own-once sorts.Liability place 0 (count sorts.Liability) (omega arith) (omega (arith, low)) in
      let a = other-sort sorts.Liability sorts.Security place 0 (count sorts.Security) refl in
      let b = other-sort sorts.Liability sorts.Group place 0 (count sorts.Group) refl in
      omega (arith, all, own, a, b)
  all-once sorts.Security place low =
      let all = parts (row sorts.Security place) in
      let own = own-once sorts.Security place 0 (count sorts.Security) (omega arith) (omega (arith, low)) in
      let a = other-sort sorts.Security sorts.Liability place 0 (count sorts.Liability) refl in
      let b = other-sort sorts.Security sorts.Group place 0 (count sorts.Group) refl in
      omega (arith, all, own, a, b)
  all-once sorts.Group place low =
      let all = parts (row sorts.Group place) in
      let own = own-once sorts.Group place 0 (count sorts.Group) (omega arith) (omega (arith, low)) in
      let a = other-sort sorts.Group sorts.Liability place 0 (count sorts.Liability) refl in
      let b = other-sort sorts.Group sorts.Security place 0 (count sorts.Security) refl in
      omega (arith, all, own, a, b)

-- ---- a row among pieces

rows-sum : (one : Row) (pieces : List Piece) → times_row one (rows_of pieces) ≡ sum_by (λ piece. times_row one (rows_in piece)) pieces
rows-sum one [] = refl
rows-sum one (piece ∷ pieces) =
    let both = times_row-append one (rows_in piece) (rows_of pieces) in
    let all = sum_by-cons (λ p. times_row one (rows_in p)) piece pieces in
    let more = rows-sum one pieces in
    omega (arith, both, all, more)

module _ (weight : Piece → ℕ) where
  all-none : (pieces : List Piece) → sum_by weight pieces ≡ 0 → (n : ℕ) → n < length pieces → weight (piece_at pieces n) ≡ 0
  all-none [] e n low = absurd (omega (arith, low))
  all-none (piece ∷ pieces) e zero low = let all = sum_by-cons weight piece pieces in omega (arith, e, all)
  all-none (piece ∷ pieces) e (suc n) low =
      let all = sum_by-cons weight piece pieces in all-none pieces (omega (arith, e, all)) n (omega (arith, low))

  next-number : (m n : ℕ) → one_if (nat_eq (suc m) (suc n)) ≡ one_if (nat_eq m n)
  next-number m n = by (eqb_tells m n)
    where
      by : ((nat_eq m n ≡ true) × (m ≡ n)) ⊎ ((nat_eq m n ≡ false) × (m ≢ n)) → one_if (nat_eq (suc m) (suc n)) ≡ one_if (nat_eq m n)
      by (inl t) = ap one_if (ap (λ k. nat_eq (suc m) (suc k)) (sym t.1) ∙ same_number (suc m) ∙ sym t.0)
      by (inr f) = ap one_if (other_number (suc m) (suc n) (λ e. f.1 (omega (arith, e))) ∙ sym f.0)

  -- weights that come to one are that of one piece
  one-piece : (pieces : List Piece) → sum_by weight pieces ≡ 1
      → (m : ℕ) × (m < length pieces) × ((n : ℕ) → n < length pieces → weight (piece_at pieces n) ≡ one_if (nat_eq m n))
  one-piece [] e = let clash : 0 ≡ 1 = e in absurd (omega (arith, clash))
  one-piece (piece ∷ pieces) e = by (weight piece) refl (sum_by-cons weight piece pieces) (one-piece pieces)
    where
      by : (k : ℕ) → weight piece ≡ k → sum_by weight (piece ∷ pieces) ≡ weight piece + sum_by weight pieces
          → (sum_by weight pieces ≡ 1
          → (m : ℕ) × (m < length pieces) × ((n : ℕ) → n < length pieces → weight (piece_at pieces n) ≡ one_if (nat_eq m n)))
          → (m : ℕ) × (m < length (piece ∷ pieces))
          × ((n : ℕ) → n < length (piece ∷ pieces) → weight (piece_at (piece ∷ pieces) n) ≡ one_if (nat_eq m n))
      by zero own all on =
          let rest = on (omega (arith, e, own, all)) in
          let low = rest.1 in
          (suc rest.0, omega (arith, low), each)
        where
          each : (n : ℕ) → n < length (piece ∷ pieces) → weight (piece_at (piece ∷ pieces) n) ≡ one_if (nat_eq (suc (on (omega (arith, e, own, all))).0) n)
          each zero l = own ∙ sym (ap one_if (other_number (suc (on (omega (arith, e, own, all))).0) 0 (λ same. omega (arith, same))))
          each (suc n) l =
              let rest = on (omega (arith, e, own, all)) in
              rest.2 n (omega (arith, l)) ∙ sym (next-number rest.0 n)
      by (suc k) own all on = (0, omega arith, each)
        where
          each : (n : ℕ) → n < length (piece ∷ pieces) → weight (piece_at (piece ∷ pieces) n) ≡ one_if (nat_eq 0 n)
          each zero l = let same : one_if (nat_eq 0 0) ≡ 1 = ap one_if (same_number 0) in omega (arith, e, own, all, same)
          each (suc n) l =
              let none = all-none pieces (omega (arith, e, own, all)) n (omega (arith, l)) in
              let apart : one_if (nat_eq 0 (suc n)) ≡ 0 = ap one_if (other_number 0 (suc n) (λ same. omega (arith, same))) in
              omega (arith, none, apart)

-- ---- a row among what the passes have put

total-sum : (weight : ℕ → ℕ) (xs : List ℕ) → total weight xs ≡ sum_by weight xs
total-sum weight [] = refl
total-sum weight (x ∷ xs) = let all = sum_by-cons weight x xs in let more = total-sum weight xs in omega (arith, all, more)

same-sum : (f g : ℕ → ℕ) (xs : List ℕ) → ((n : ℕ) → 0 < times n xs → f n ≡ g n) → sum_by f xs ≡ sum_by g xs
same-sum f g [] same = refl
same-sum f g (x ∷ xs) same =
    let here : one_if (nat_eq x x) ≡ 1 = ap one_if (same_number x) in
    let first = same x (omega (arith, here)) in
    let more = same-sum f g xs (λ n some. same n (omega (arith, some))) in
    let a = sum_by-cons f x xs in
    let b = sum_by-cons g x xs in
    omega (arith, first, more, a, b)

passes-sum : (P : Pass → Type 0) (f g : Pass → ℕ) (passes : List Pass) → AllByRecursion P passes → ((pass : Pass) → P pass → f pass ≡ g pass)
    → sum_by f passes ≡ sum_by g passes
passes-sum P f g [] all same = refl
passes-sum P f g (pass ∷ passes) all same =
    let first = same pass all.0 in
    let more = passes-sum P f g passes all.1 same in
    let a = sum_by-cons f pass passes in
    let b = sum_by-cons g pass passes in
    omega (arith, first, more, a, b)

-- a node that a pass has put is one of the round
put-low : (board : Board) (round : BoardRound) (pass : Pass) → IsDone board round pass → (n : ℕ) → 0 < times n (progress pass).put → n < length round.places
put-low board round pass done n some =
    let low = done.of_board.seat.nodes n (omega (arith, some)) in
    let same = same_count done.of_board.seat.round round (view pass).round done.of_board.seat.lists done.lists in
    omega (arith, low, same)

-- where each node was put once, a row of the pieces stands once in what was reckoned
pub put-once : (board : Board) (round : BoardRound) (pieces : List Piece) (passes : List Pass) (one : Row) → length round.places ≡ length pieces
    → AllByRecursion (IsDone board round) passes → ((n : ℕ) → n < length round.places → puts_of n passes ≡ 1)
    → times_row one (rows_of pieces) ≡ 1 → sum_by (λ pass. row_times one pieces (progress pass).put) passes ≡ 1
put-once board round pieces passes one long done each once =
    let low = found.1 in
    passes-sum (IsDone board round) (λ pass. row_times one pieces (progress pass).put) (λ pass. times found.0 (progress pass).put) passes done of-pass
    ∙ each found.0 (omega (arith, long, low))
  where
    found : (m : ℕ) × (m < length pieces)
        × ((n : ℕ) → n < length pieces → times_row one (rows_in (piece_at pieces n)) ≡ one_if (nat_eq m n))
    found = one-piece (λ piece. times_row one (rows_in piece)) pieces (sym (rows-sum one pieces) ∙ once)

    of-pass : (pass : Pass) → IsDone board round pass → row_times one pieces (progress pass).put ≡ times found.0 (progress pass).put
    of-pass pass is =
        same-sum (λ n. times_row one (rows_in (piece_at pieces n))) (λ n. one_if (nat_eq found.0 n)) (progress pass).put
        (λ n some. let low = put-low board round pass is n some in found.2 n (omega (arith, low, long)))
        ∙ sym (total-sum (λ n. one_if (nat_eq found.0 n)) (progress pass).put)
