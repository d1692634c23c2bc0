-- What holds of the nodes of the rows that a test chooses.
use Rattle.std.proofs.Common.{◌≡◌, Bool, true, cond, List, [], ◌∷◌, map, sym, ap, subst}
use Rattle.std.specs.List.{AllByRecursion, filter, list_all}
use Rattle.std.proofs.lemmas.Bool.{and_parts}
use Rattle.scr_tables.proofs.TableRows.{passes_or_fails}

module _ {Row A : Type 0} (Fact : Row → Type 0) (P : A → Type 0) (test : Row → Bool) (node : Row → A) where
  -- each row that passes gives a node of which the fact holds
  pub each-chosen : (rows : List Row) → AllByRecursion Fact rows
      → ((row : Row) → Fact row → test row ≡ true → P (node row))
      → AllByRecursion P (map node (filter test rows))
  each-chosen [] all step = tt
  each-chosen (row ∷ rows) all step =
      passes_or_fails (test row)
      (λ e. subst (λ chosen. AllByRecursion P (map node chosen))
      (sym (ap (λ t. cond t (row ∷ filter test rows) (filter test rows)) e))
      (step row all.0 e, each-chosen rows all.1 step))
      (λ e. subst (λ chosen. AllByRecursion P (map node chosen))
      (sym (ap (λ t. cond t (row ∷ filter test rows) (filter test rows)) e))
      (each-chosen rows all.1 step))

  pub each-mapped : (rows : List Row) → AllByRecursion Fact rows → ((row : Row) → Fact row → P (node row))
      → AllByRecursion P (map node rows)
  each-mapped [] all step = tt
  each-mapped (row ∷ rows) all step = (step row all.0, each-mapped rows all.1 step)

-- each row of a table, of which nothing is asked
pub each-row : {Row : Type 0} (rows : List Row) → AllByRecursion (λ row. Unit {0}) rows
each-row [] = tt
each-row (row ∷ rows) = (tt, each-row rows)

-- what a test tells of each
pub each-tested : {A : Type 0} (test : A → Bool) (xs : List A) → list_all test xs ≡ true
    → AllByRecursion (λ x. test x ≡ true) xs
each-tested test [] h = tt
each-tested test (x ∷ xs) h =
    let two = and_parts (test x) (list_all test xs) h in
    (two.0, each-tested test xs two.1)
