-- A byte order mark stands in the first passage.
use Rattle.std.proofs.Common.{◌≡◌, ℕ, ◌+◌, ◌<◌, ◌==◌, ◌&&◌, Bool, true, false, cond, List, [], ◌∷◌, ◌++◌, refl, sym, ap, subst, ◌∙◌, arith}
use Rattle.scr_csv.specs.Lines.{records, records_from, without_mark}
use Rattle.scr_line_chunks.specs.Passages.{IsWhole, ended_lines, records_behind}
use Rattle.scr_line_chunks.proofs.Records.{records_on, some_ended}

-- what is left of whole lines without a mark, whatever follows them
record Unmarked (passage rest : List ℕ) : Type 0 where
  lines : List ℕ
  whole : IsWhole lines
  own : without_mark passage ≡ lines
  joint : without_mark (passage ++ rest) ≡ lines ++ rest
  ended : ended_lines lines ≡ ended_lines passage

abbrev is_mark : ℕ → ℕ → ℕ → Bool
is_mark a b c = ((a == 0xEF) && (b == 0xBB)) && (c == 0xBF)

-- no byte of a mark is a newline
none_ended : (a b c : ℕ) (bytes : List ℕ) → is_mark a b c ≡ true → ended_lines bytes ≡ ended_lines (a ∷ b ∷ c ∷ bytes)
none_ended a b c bytes mark = grind (arith, mark)

behind_three : (a b c : ℕ) (front rest : List ℕ) (t : Bool) → is_mark a b c ≡ t → Unmarked (a ∷ b ∷ c ∷ (front ++ 10 ∷ [])) rest
behind_three a b c front rest true mark = record {
  lines = front ++ 10 ∷ [];
  whole = (front, refl);
  own = ap (λ t. cond t (front ++ 10 ∷ []) (a ∷ b ∷ c ∷ (front ++ 10 ∷ []))) mark;
  joint = ap (λ t. cond t ((front ++ 10 ∷ []) ++ rest) (a ∷ b ∷ c ∷ ((front ++ 10 ∷ []) ++ rest))) mark;
  ended = none_ended a b c (front ++ 10 ∷ []) mark;
}
behind_three a b c front rest false mark = record {
  lines = a ∷ b ∷ c ∷ (front ++ 10 ∷ []);
  whole = (a ∷ b ∷ c ∷ front, refl);
  own = ap (λ t. cond t (front ++ 10 ∷ []) (a ∷ b ∷ c ∷ (front ++ 10 ∷ []))) mark;
  joint = ap (λ t. cond t ((front ++ 10 ∷ []) ++ rest) (a ∷ b ∷ c ∷ ((front ++ 10 ∷ []) ++ rest))) mark;
  ended = refl;
}

no_and : (t : Bool) (A : Type 0) (x y : A) → cond (t && false) x y ≡ y
no_and true A x y = refl
no_and false A x y = refl

no_and_and : (t s : Bool) (A : Type 0) (x y : A) → cond ((t && false) && s) x y ≡ y
no_and_and true s A x y = refl
no_and_and false s A x y = refl

joint_one : (rest : List ℕ) → without_mark (10 ∷ rest) ≡ 10 ∷ rest
joint_one [] = refl
joint_one (x ∷ []) = refl
joint_one (x ∷ y ∷ rest) = refl

joint_two : (a : ℕ) (rest : List ℕ) → without_mark (a ∷ 10 ∷ rest) ≡ a ∷ 10 ∷ rest
joint_two a [] = refl
joint_two a (x ∷ rest) = no_and_and (a == 0xEF) (x == 0xBF) (List ℕ) rest (a ∷ 10 ∷ x ∷ rest)

joint_three : (a b : ℕ) (rest : List ℕ) → without_mark (a ∷ b ∷ 10 ∷ rest) ≡ a ∷ b ∷ 10 ∷ rest
joint_three a b rest = no_and ((a == 0xEF) && (b == 0xBB)) (List ℕ) rest (a ∷ b ∷ 10 ∷ rest)

-- lines too short for a mark stay as they are
kept : (passage rest : List ℕ) → IsWhole passage → without_mark passage ≡ passage → without_mark (passage ++ rest) ≡ passage ++ rest
    → Unmarked passage rest
kept passage rest whole own joint = record { lines = passage; whole = whole; own = own; joint = joint; ended = refl }

unmarked : (front rest : List ℕ) → Unmarked (front ++ 10 ∷ []) rest
unmarked [] rest = kept (10 ∷ []) rest ([], refl) refl (joint_one rest)
unmarked (a ∷ []) rest = kept (a ∷ 10 ∷ []) rest (a ∷ [], refl) refl (joint_two a rest)
unmarked (a ∷ b ∷ []) rest = kept (a ∷ b ∷ 10 ∷ []) rest (a ∷ b ∷ [], refl) (joint_three a b []) (joint_three a b rest)
unmarked (a ∷ b ∷ c ∷ front) rest = behind_three a b c front rest (is_mark a b c) refl

-- the records of a file of which a first passage is whole lines
records_first : (passage rest : List ℕ) → Unmarked passage rest
    → records (passage ++ rest) ≡ records passage ++ records_from (1 + ended_lines passage) rest
records_first passage rest u =
    ap (records_from 1) u.joint ∙ records_on 1 u.lines rest u.whole
    ∙ ap (λ (k : ℕ). records_from 1 u.lines ++ records_from (1 + k) rest) u.ended
    ∙ ap (λ (p : List ℕ). records_from 1 p ++ records_from (1 + ended_lines passage) rest) (sym u.own)

none_behind : (n : ℕ) → 0 < n → (n == 0) ≡ false
none_behind n some = grind (arith, some)

-- the records behind lines, of which those of a passage come first
pub behind-append : (passed : ℕ) (passage rest : List ℕ) → IsWhole passage
    → records_behind passed (passage ++ rest) ≡ records_behind passed passage ++ records_behind (passed + ended_lines passage) rest
behind-append passed passage rest whole = by (passed == 0) refl
  where
    later : records_behind (passed + ended_lines passage) rest ≡ records_from ((passed + ended_lines passage) + 1) rest
    later = let some = some_ended passage whole in
        ap (λ t. cond t (records rest) (records_from ((passed + ended_lines passage) + 1) rest))
        (none_behind (passed + ended_lines passage) (omega (arith, some)))

    by : (t : Bool) → (passed == 0) ≡ t
        → cond t (records (passage ++ rest)) (records_from (passed + 1) (passage ++ rest))
        ≡ cond t (records passage) (records_from (passed + 1) passage) ++ records_behind (passed + ended_lines passage) rest
    by true none =
        let number : 1 + ended_lines passage ≡ (passed + ended_lines passage) + 1 = grind (arith, none) in
        records_first passage rest (subst (λ p. Unmarked p rest) (sym whole.1) (unmarked whole.0 rest))
        ∙ ap (λ (k : ℕ). records passage ++ records_from k rest) number
        ∙ ap (λ (more : List (ℕ × List ℕ)). records passage ++ more) (sym later)
    by false some =
        let number : (passed + 1) + ended_lines passage ≡ (passed + ended_lines passage) + 1 = omega arith in
        records_on (passed + 1) passage rest whole
        ∙ ap (λ (k : ℕ). records_from (passed + 1) passage ++ records_from k rest) number
        ∙ ap (λ (more : List (ℕ × List ℕ)). records_from (passed + 1) passage ++ more) (sym later)
