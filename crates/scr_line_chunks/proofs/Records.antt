-- The records of bytes of which a first passage is whole lines: those of the passage, and then those of the rest.
use Rattle.std.proofs.Common.{◌≡◌, ℕ, ◌+◌, ◌<◌, ◌==◌, Bool, true, false, cond, List, [], ◌∷◌, ◌++◌, length, map, filter, refl, sym, ap, subst, ◌∙◌, append_assoc, append-nil, arith}
use Rattle.std.specs.List.{slice_split, enumerate_from, onto_first}
use Rattle.std.specs.Str.Lines.{lines, lines_of_parts, strip_carriage_return}
use Rattle.std.proofs.lemmas.List.Elements.{filter-append}
use Rattle.std.proofs.lemmas.List.Splits.{length-slice_split}
use Rattle.std.proofs.lemmas.Grind.{common_steps}
use Rattle.scr_csv.specs.Lines.{is_record, records_from}
use Rattle.scr_line_chunks.specs.Passages.{IsWhole, ended_lines}

abbrev newline : ℕ → Bool
newline b = b == 10

parts_left : (bytes : List ℕ) → 0 < length (slice_split newline bytes)
parts_left bytes = omega (arith, length-slice_split newline bytes)

-- a byte goes onto the first of parts that others follow
onto_both : (x : ℕ) (ps qs : List (List ℕ)) → 0 < length ps → onto_first x (ps ++ qs) ≡ onto_first x ps ++ qs
onto_both x [] qs some = absurd (omega (arith, some))
onto_both x (p ∷ ps) qs some = refl

-- what stands before a newline and what follows it are cut apart there
split-newline : (front rest : List ℕ) → slice_split newline (front ++ 10 ∷ rest) ≡ slice_split newline front ++ slice_split newline rest
split-newline [] rest = refl
split-newline (x ∷ front) rest = by (newline x) (split-newline front rest)
  where
    by : (t : Bool) → slice_split newline (front ++ 10 ∷ rest) ≡ slice_split newline front ++ slice_split newline rest
        → cond t ([] ∷ slice_split newline (front ++ 10 ∷ rest)) (onto_first x (slice_split newline (front ++ 10 ∷ rest)))
        ≡ cond t ([] ∷ slice_split newline front) (onto_first x (slice_split newline front)) ++ slice_split newline rest
    by true e = ap (λ (parts : List (List ℕ)). [] ∷ parts) e
    by false e = ap (onto_first x) e ∙ onto_both x (slice_split newline front) (slice_split newline rest) (parts_left front)

-- a part that others follow is a line without its carriage return
part_before : (part : List ℕ) (parts : List (List ℕ)) → 0 < length parts
    → lines_of_parts (part ∷ parts) ≡ strip_carriage_return part ∷ lines_of_parts parts
part_before part [] more = absurd (omega (arith, more))
part_before part (next ∷ parts) more = refl

some_after : (ps qs : List (List ℕ)) → 0 < length qs → 0 < length (ps ++ qs)
some_after [] qs some = some
some_after (p ∷ ps) qs some = omega arith

lines_before : (ps qs : List (List ℕ)) → 0 < length qs → lines_of_parts (ps ++ qs) ≡ map strip_carriage_return ps ++ lines_of_parts qs
lines_before [] qs some = refl
lines_before (p ∷ ps) qs some =
    part_before p (ps ++ qs) (some_after ps qs some) ∙ ap (λ (more : List (List ℕ)). strip_carriage_return p ∷ more) (lines_before ps qs some)

-- the lines up to a newline, and those behind it
lines_front : (front rest : List ℕ) → lines (front ++ 10 ∷ rest) ≡ map strip_carriage_return (slice_split newline front) ++ lines rest
lines_front front rest =
    ap lines_of_parts (split-newline front rest) ∙ lines_before (slice_split newline front) (slice_split newline rest) (parts_left rest)

lines-append : (front rest : List ℕ) → lines ((front ++ 10 ∷ []) ++ rest) ≡ lines (front ++ 10 ∷ []) ++ lines rest
lines-append front rest =
    ap lines (append_assoc front (10 ∷ []) rest) ∙ lines_front front rest
    ∙ ap (λ (before : List (List ℕ)). before ++ lines rest) (sym (lines_front front [] ∙ append-nil (map strip_carriage_return (slice_split newline front))))

-- whole lines are as many as their ends
lines_counted : (front : List ℕ) → length (lines (front ++ 10 ∷ [])) ≡ ended_lines (front ++ 10 ∷ [])
lines_counted front =
    let all = lines_front front [] ∙ append-nil (map strip_carriage_return (slice_split newline front)) in
    let parts = ap length (split-newline front []) in
    let counted = length-slice_split newline (front ++ 10 ∷ []) in
    grind (arith, common_steps, ap length all, parts, counted)

numbers-append : (n : ℕ) (xs ys : List (List ℕ)) → enumerate_from n (xs ++ ys) ≡ enumerate_from n xs ++ enumerate_from (n + length xs) ys
numbers-append n [] ys = let none : n ≡ n + 0 = omega arith in ap (λ (k : ℕ). enumerate_from k ys) none
numbers-append n (x ∷ xs) ys =
    let next : (n + 1) + length xs ≡ n + length (x ∷ xs) = omega arith in
    ap (λ (more : List (ℕ × List ℕ)). (n, x) ∷ more)
    (numbers-append (n + 1) xs ys ∙ ap (λ (k : ℕ). enumerate_from (n + 1) xs ++ enumerate_from k ys) next)

records-append : (n : ℕ) (front rest : List ℕ) → records_from n ((front ++ 10 ∷ []) ++ rest)
    ≡ records_from n (front ++ 10 ∷ []) ++ records_from (n + length (lines (front ++ 10 ∷ []))) rest
records-append n front rest =
    let own : ℕ × List ℕ → Bool = λ line. is_record line.1 in
    let before = lines (front ++ 10 ∷ []) in
    ap (λ (all : List (List ℕ)). filter own (enumerate_from n all)) (lines-append front rest)
    ∙ ap (filter own) (numbers-append n before (lines rest))
    ∙ filter-append own (enumerate_from n before) (enumerate_from (n + length before) (lines rest))

-- the records of whole lines, and of what follows them
pub records_on : (n : ℕ) (passage rest : List ℕ) → IsWhole passage
    → records_from n (passage ++ rest) ≡ records_from n passage ++ records_from (n + ended_lines passage) rest
records_on n passage rest (front, e) =
    ap (λ (p : List ℕ). records_from n (p ++ rest)) e ∙ records-append n front rest
    ∙ ap (λ (k : ℕ). records_from n (front ++ 10 ∷ []) ++ records_from (n + k) rest) (lines_counted front)
    ∙ ap (λ (p : List ℕ). records_from n p ++ records_from (n + ended_lines p) rest) (sym e)

-- some line ends in whole lines
pub some_ended : (passage : List ℕ) → IsWhole passage → 0 < ended_lines passage
some_ended passage (front, e) =
    let parts = ap length (split-newline front []) in
    let counted = length-slice_split newline (front ++ 10 ∷ []) in
    let some = parts_left front in
    let here : 0 < ended_lines (front ++ 10 ∷ []) = grind (arith, common_steps, parts, counted, some) in
    subst (λ (p : List ℕ). 0 < ended_lines p) (sym e) here
