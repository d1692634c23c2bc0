-- The owners of numbers.
use Rattle.std.proofs.Common.{◌≡◌, ℕ, suc, ◌+◌, List, [], ◌∷◌, ◌++◌, length, replicate, refl, sym, ap, ◌∙◌, arith, append_assoc}
use Rattle.std.proofs.lemmas.List.{append-nil}
use Rattle.scr_ids.specs.Ranges.{stride}
use Rattle.scr_ids.specs.Kept.{Range, owners, owners_from, range_at}

-- one more range owns the numbers behind all others
from-push : (id : ℕ) (ranges : List Range) (range : Range)
    → owners_from id (ranges ++ range ∷ []) ≡ owners_from id ranges ++ replicate (stride range.table) (id + length ranges)
from-push id [] range =
    let same : id ≡ id + 0 = omega arith in
    append-nil (replicate (stride range.table) id) ∙ ap (replicate (stride range.table)) same
from-push id (first ∷ ranges) range =
    let same : id + 1 + length ranges ≡ id + length (first ∷ ranges) = omega arith in
    ap (λ rest. replicate (stride first.table) id ++ rest) (from-push (id + 1) ranges range)
    ∙ sym (append_assoc (replicate (stride first.table) id) (owners_from (id + 1) ranges)
    (replicate (stride range.table) (id + 1 + length ranges)))
    ∙ ap (λ n. owners_from id (first ∷ ranges) ++ replicate (stride range.table) n) same

pub owners-push : (ranges : List Range) (range : Range)
    → owners (ranges ++ range ∷ []) ≡ owners ranges ++ replicate (stride range.table) (length ranges)
owners-push ranges range =
    let same : 0 + length ranges ≡ length ranges = omega arith in
    from-push 0 ranges range ∙ ap (λ n. owners ranges ++ replicate (stride range.table) n) same

-- ranges of the same tables own the same numbers
pub owners-same : (id : ℕ) (now before : List Range) → length now ≡ length before
    → ((k : ℕ) → (range_at now k).table ≡ (range_at before k).table) → owners_from id now ≡ owners_from id before
owners-same id [] [] long same = refl
owners-same id [] (first ∷ before) long same = absurd (omega (arith, long))
owners-same id (first ∷ now) [] long same = absurd (omega (arith, long))
owners-same id (one ∷ now) (other ∷ before) long same =
    ap (λ table. replicate (stride table) id ++ owners_from (id + 1) now) (same 0)
    ∙ ap (λ rest. replicate (stride other.table) id ++ rest)
    (owners-same (id + 1) now before (omega (arith, long)) (λ k. same (suc k)))
