-- Lemmas on bytes that are taken or given piece by piece.
use Rattle.std.proofs.Common.{◌≡◌, ◌<◌, ℕ, ◌-◌, List, [], ◌++◌, length, take, drop, Option, sym, ap, ◌∙◌, append_assoc, take-append-drop, arith}
use Rattle.std.proofs.Math.ListN.{drop_of_length-le}
use Rattle.std.proofs.lemmas.List.{take_rest}
use Rattle.std.specs.Io.KnownBytes.{Appends}
use Rattle.std.proofs.KnownBytes.{Appends-trans}

-- known bytes grew by all of whole but rest
abbrev pub Took : Option (List ℕ) → Option (List ℕ) → List ℕ → List ℕ → Type 0
Took old now whole rest = (front : List ℕ) × (whole ≡ front ++ rest) × Appends old now front

-- one more piece was taken from the rest
pub Took-piece : (a b c : Option (List ℕ)) (whole rest : List ℕ) (n : ℕ) → Took a b whole rest → Appends b c (take n rest)
    → Took a c whole (take (length rest - n) (drop n rest))
Took-piece a b c whole rest n before piece =
    let parts : rest ≡ take n rest ++ take (length rest - n) (drop n rest) =
    sym (take-append-drop n rest) ∙ ap (λ l. take n rest ++ l) (sym (take_rest rest n)) in (
      before.0 ++ take n rest,
      before.1 ∙ ap (λ l. before.0 ++ l) parts ∙ sym (append_assoc before.0 (take n rest) _),
      Appends-trans a b c before.0 (take n rest) before.2 piece,
    )

-- a read that gave the first n bytes of what was left, and none only at the end
pub Consumes-front : (left next buf : List ℕ) (n : ℕ) → take n buf ≡ take n left → next ≡ drop n left → (n ≡ 0 → 0 < length buf → left ≡ [])
    → (left ≡ take n buf ++ next) × (n ≡ 0 → 0 < length buf → next ≡ [])
Consumes-front left next buf n given rest end = (
  sym (ap (λ l. take n buf ++ l) rest ∙ ap (λ l. l ++ drop n left) given ∙ take-append-drop n left),
  λ none room. rest ∙ ap (drop n) (end none room) ∙ drop_of_length-le {A = ℕ} [] (omega arith),
)
