-- The parts of a list: their lengths and elements, and what of them stays where one comes last or the last takes a place.
use Rattle.std.proofs.Common.{◌≡◌, ℕ, ◌+◌, ◌-◌, ◌*◌, ◌/◌, ◌^◌, ◌<◌, ◌≤◌, min, Bool, true, false, leb, List, [], ◌∷◌, ◌++◌, length, get_or, take, drop, map, refl, sym, ap, ◌∙◌, arith}
use Rattle.std.proofs.lemmas.Bool.Decides.{nat_tests}
use Rattle.std.proofs.lemmas.List.{take_min, drop_all, length-take, length-drop, length_push, get_or-take, get_or-drop, take-append-le, drop-append-le, take-map, drop-map, same_lists}
use Rattle.scr_sum_tree.specs.Blocks.{part}

module _ {X : Type 0} where
  pub length-part : (i : ℕ) (xs : List X) → length (part i xs) ≡ min 32 (length xs - 32 * i)
  length-part i xs = length-take 32 (drop (32 * i) xs) ∙ ap (min 32) (length-drop (32 * i) xs)

  pub get_or-part : (i k : ℕ) (xs : List X) (d : X) → k < 32 → get_or (part i xs) k d ≡ get_or xs (32 * i + k) d
  get_or-part i k xs d h = get_or-take 32 (drop (32 * i) xs) k d h ∙ get_or-drop (32 * i) xs k d

  -- a part that is whole stays where one comes last
  pub part-push : (i : ℕ) (xs : List X) (y : X) → 32 * i + 32 ≤ length xs → part i (xs ++ y ∷ []) ≡ part i xs
  part-push i xs y h =
      ap (take 32) (drop-append-le (32 * i) xs (y ∷ []) (omega arith))
      ∙ take-append-le 32 (drop (32 * i) xs) (y ∷ []) (omega (arith, length-drop (32 * i) xs))

  -- and the last, which is not, gets one more
  pub part-grows : (i : ℕ) (xs : List X) (y : X) → i ≡ length xs / 32 → part i (xs ++ y ∷ []) ≡ part i xs → ⊥
  part-grows i xs y at same =
      let few = length-part i xs in
      let many = length-part i (xs ++ y ∷ []) in
      let lengths = ap length same in
      omega (arith, few, many, lengths, length_push xs y)

  -- parts with the same elements are the same
  pub part-same : (i : ℕ) (xs ys : List X) → 32 * i + 32 ≤ length xs → 32 * i + 32 ≤ length ys
      → ((k : ℕ) (d : X) → k < 32 → get_or xs (32 * i + k) d ≡ get_or ys (32 * i + k) d) → part i xs ≡ part i ys
  part-same i xs ys long long' each =
      same_lists (part i xs) (part i ys) (length-part i xs ∙ (omega arith) ∙ sym (length-part i ys))
      (λ k d h. get_or-part i k xs d (omega (arith, h, length-part i xs)) ∙ each k d (omega (arith, h, length-part i xs))
      ∙ sym (get_or-part i k ys d (omega (arith, h, length-part i xs))))

pub part-map : {X Y : Type 0} (f : X → Y) (i : ℕ) (xs : List X) → part i (map f xs) ≡ map f (part i xs)
part-map f i xs = ap (take 32) (drop-map f (32 * i) xs) ∙ take-map f 32 (drop (32 * i) xs)

-- a part as a range of places
pub part-range : {X : Type 0} (xs : List X) (i start end : ℕ) → length xs < 2 ^ 64 → start ≡ min (min (i * 32) 18446744073709551615) (length xs)
    → end ≡ start + min 32 (length xs - start) → take (end - start) (drop start xs) ≡ part i xs
part-range xs i start end fits from to = by (leb (32 * i) (length xs)) refl
  where
    size : end - start ≡ min 32 (length xs - start)
    size = omega (arith, to)

    cut : take (end - start) (drop start xs) ≡ take 32 (drop start xs)
    cut = ap (λ n. take n (drop start xs)) (size ∙ ap (min 32) (sym (length-drop start xs))) ∙ take_min 32 (drop start xs)

    by : (t : Bool) → leb (32 * i) (length xs) ≡ t → take (end - start) (drop start xs) ≡ part i xs
    by true e = let inside : 32 * i ≤ length xs = grind (arith, nat_tests, e) in
        cut ∙ ap (λ n. take 32 (drop n xs)) (omega (arith, from, inside, fits))
    by false e = let past : length xs ≤ 32 * i = grind (arith, nat_tests, e) in
        cut ∙ ap (take 32) (drop_all start xs (omega (arith, from, past, fits)) ∙ sym (drop_all (32 * i) xs past))
