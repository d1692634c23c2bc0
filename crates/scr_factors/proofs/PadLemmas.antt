-- Writing a list into the front of a longer one.
use Rattle.std.proofs.Common.{◌≡◌, ℕ, suc, ◌+◌, ◌-◌, ◌<◌, List, [], ◌∷◌, ◌++◌, length, take, set, get_or, map, replicate, sym, ◌∙◌, arith, append_assoc}
use Rattle.std.proofs.Math.Seq.{set-append_seam}
use Rattle.std.proofs.lemmas.List.{length-take-le, length-map, map-append, take_more}

-- the first i places hold what f gives, and the others are still filled
pub record PaddedTo {A B : Type 0} (f : A → B) (fill : B) (count : ℕ) (xs : List A) (out : List B)
    (i : ℕ) : Type 0 where
  pub so_far : out ≡ map f (take i xs) ++ replicate (count - i) fill

pub padded_to-next : {A B : Type 0} (f : A → B) (fill : B) (count : ℕ) (xs : List A) (out : List B) (i : ℕ) (x : A)
    → i < length xs → i < count → PaddedTo f fill count xs out i
    → PaddedTo f fill count xs (set out i (f (get_or xs i x))) (i + 1)
padded_to-next f fill count xs out i x lt room h =
    let y = f (get_or xs i x) in
    let left : count - i ≡ suc (count - (i + 1)) = omega arith in
    let front : length (map f (take i xs)) ≡ i = length-map (take i xs) f ∙ length-take-le i xs (omega arith) in
    let seam = set-append_seam (map f (take i xs)) fill (replicate (count - (i + 1)) fill) y in
    let more : map f (take (i + 1) xs) ≡ map f (take i xs) ++ y ∷ [] =
    rw (take_more xs i x lt) (map-append f (take i xs) (get_or xs i x ∷ [])) in
    record {
      so_far = rw (h.so_far, left, more) (rw front at seam
          ∙ sym (append_assoc (map f (take i xs)) (y ∷ []) (replicate (count - (i + 1)) fill)));
    }
