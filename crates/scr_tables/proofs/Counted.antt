-- Rows that count, by their names.
use Rattle.std.proofs.Common.{◌≡◌, ℕ, Bool, cond, List, ◌∷◌, Option, sym, ap, ◌∙◌, map, filter, fold}
use Rattle.scr_tables.specs.Names.{earlier}
use Rattle.scr_tables.proofs.TableRows.{passes_or_fails}

-- the earliest so far and the name of the row next, if the row counts, before those of the other rows
pub earlier-next : {Row : Type 0} (name_of : Row → List ℕ) (test : Row → Bool) (first : Option (List ℕ)) (row : Row) (rows : List Row) (told : Bool) → told ≡ test row
    → fold earlier (cond told (earlier first (name_of row)) first) (map name_of (filter test rows)) ≡ fold earlier first (map name_of (filter test (row ∷ rows)))
earlier-next name_of test first row rows told tells =
    let after = λ (t : Bool). fold earlier (cond t (earlier first (name_of row)) first) (map name_of (filter test rows)) in
    let before = λ (t : Bool). fold earlier first (map name_of (cond t (row ∷ filter test rows) (filter test rows))) in
    ap after tells ∙ passes_or_fails (test row) (λ e. ap after e ∙ sym (ap before e)) (λ e. ap after e ∙ sym (ap before e))
