-- A sum over a roll, and the sum over what is left of it at the top of its Blocks.
use Rattle.std.proofs.Common.{◌≡◌, ℕ, zero, suc, ◌+◌, ◌*◌, ◌<◌, ◌≤◌, Bool, true, false, cond, leb, List, [], ◌∷◌, ◌++◌, length, take, drop, map, refl, sym, ap, ◌∙◌, arith}
use Rattle.std.specs.List.{range_with_len}
use Rattle.std.proofs.Math.Seq.{take-add}
use Rattle.std.proofs.lemmas.Bool.Decides.{nat_tests}
use Rattle.std.proofs.lemmas.List.{length-map, take_all, drop-drop}
use Rattle.std.proofs.lemmas.List.FromFn.{length-map-range_with_len}
use Rattle.scr_sum_tree.specs.Blocks.{part, parts, firsts, seconds, tops}
use Rattle.scr_sum_tree.specs.Sums.{AddsUp, AreSums, total}
use Rattle.scr_sum_tree.specs.declared.blocks.Level.{Level}
use Rattle.scr_sum_tree.specs.declared.blocks.Level.TheVariants as levels
use Rattle.scr_sum_tree.proofs.BlockTests.{Decides-is_block_over}
use Rattle.scr_sum_tree.proofs.PartLemmas.{part-map}

pub map-map : {X Y Z : Type 0} (f : Y → Z) (g : X → Y) (xs : List X) → map f (map g xs) ≡ map (λ x. f (g x)) xs
map-map f g [] = refl
map-map f g (x ∷ xs) = ap (λ ys. f (g x) ∷ ys) (map-map f g xs)

-- a part, and some after it
pub part-and-rest : {X : Type 0} (a k : ℕ) (xs : List X) → part a xs ++ take (32 * k) (drop (32 * (a + 1)) xs) ≡ take (32 * suc k) (drop (32 * a) xs)
part-and-rest a k xs =
    ap (λ ys. part a xs ++ take (32 * k) ys) (sym next) ∙ sym (take-add 32 (32 * k) (drop (32 * a) xs))
    ∙ ap (λ n. take n (drop (32 * a) xs)) many
  where
    next : drop 32 (drop (32 * a) xs) ≡ drop (32 * (a + 1)) xs
    next = drop-drop 32 (32 * a) xs ∙ ap (λ n. drop n xs) (omega arith)

    many : 32 + 32 * k ≡ 32 * suc k
    many = omega arith

module _ {Sum : Type 0} (nothing : Sum) (add : Sum → Sum → Sum) (laws : AddsUp nothing add) where
  pub total-append : (xs ys : List Sum) → total nothing add (xs ++ ys) ≡ add (total nothing add xs) (total nothing add ys)
  total-append [] ys = sym (laws.empty (total nothing add ys))
  total-append (x ∷ xs) ys = ap (add x) (total-append xs ys) ∙ sym (laws.grouped x (total nothing add xs) (total nothing add ys))

  -- the sums of some parts, one after another
  total-parts : (f : ℕ → Sum) (xs : List Sum) (a k : ℕ) → ((i : ℕ) → a ≤ i → i < a + k → f i ≡ total nothing add (part i xs))
      → total nothing add (map f (range_with_len a k)) ≡ total nothing add (take (32 * k) (drop (32 * a) xs))
  total-parts f xs a zero each = refl
  total-parts f xs a (suc k) each =
      ap (add (f a)) (total-parts f xs (a + 1) k (λ i from to. each i (omega arith) (omega arith)))
      ∙ ap (λ m. add m (total nothing add (take (32 * k) (drop (32 * (a + 1)) xs)))) (each a (omega arith) (omega arith))
      ∙ sym (total-append (part a xs) (take (32 * k) (drop (32 * (a + 1)) xs)))
      ∙ ap (total nothing add) (part-and-rest a k xs)

  -- the sums of all parts
  pub total-all_parts : (f : ℕ → Sum) (xs : List Sum) (count : ℕ) → length xs ≡ count
      → ((i : ℕ) → i < parts count → f i ≡ total nothing add (part i xs))
      → total nothing add (map f (range_with_len 0 (parts count))) ≡ total nothing add xs
  total-all_parts f xs count is each =
      total-parts f xs 0 (parts count) (λ i from to. each i (omega arith))
      ∙ ap (total nothing add) (take_all (32 * parts count) xs (omega arith))

  module _ {Name Node : Type 0} (worth : Node → Sum) (member : Name → Node) (block : Level → ℕ → Node) (roll : List Name)
      (summed : AreSums (total nothing add) worth member block roll) where
    total-firsts : 32 < length roll → total nothing add (map worth (firsts block (length roll))) ≡ total nothing add (map worth (map member roll))
    total-firsts many =
        ap (total nothing add) (map-map worth (block levels.First) (range_with_len 0 (parts (length roll))))
        ∙ total-all_parts (λ i. worth (block levels.First i)) (map worth (map member roll)) (length roll)
        (length-map (map member roll) worth ∙ length-map roll member)
        (λ i within. summed levels.First i ((Decides-is_block_over (length roll) i).1 (many, within)) ∙ ap (total nothing add) (sym (part-map worth i (map member roll))))

    total-seconds : 32 < parts (length roll) → total nothing add (map worth (seconds block (length roll))) ≡ total nothing add (map worth (firsts block (length roll)))
    total-seconds many =
        ap (total nothing add) (map-map worth (block levels.Second) (range_with_len 0 (parts (parts (length roll)))))
        ∙ total-all_parts (λ i. worth (block levels.Second i)) (map worth (firsts block (length roll))) (parts (length roll))
        (length-map (firsts block (length roll)) worth ∙ length-map-range_with_len (block levels.First) 0 (parts (length roll)))
        (λ i within. summed levels.Second i ((Decides-is_block_over (parts (length roll)) i).1 (many, within)) ∙ ap (total nothing add) (sym (part-map worth i (firsts block (length roll)))))

    pub total-tops : total nothing add (map worth (tops member block roll)) ≡ total nothing add (map worth (map member roll))
    total-tops = by (leb (length roll) 32) refl (leb (parts (length roll)) 32) refl
      where
        over : Bool → Bool → List Node
        over s t = cond s (map member roll) (cond t (firsts block (length roll)) (seconds block (length roll)))

        by : (s : Bool) → leb (length roll) 32 ≡ s → (t : Bool) → leb (parts (length roll)) 32 ≡ t
            → total nothing add (map worth (over (leb (length roll) 32) (leb (parts (length roll)) 32))) ≡ total nothing add (map worth (map member roll))
        by true e t d = ap (λ s. total nothing add (map worth (over s (leb (parts (length roll)) 32)))) e
        by false e true d = (λ i. total nothing add (map worth (over (e i) (d i)))) ∙ total-firsts (grind (arith, nat_tests, e))
        by false e false d = (λ i. total nothing add (map worth (over (e i) (d i))))
            ∙ total-seconds (grind (arith, nat_tests, d)) ∙ total-firsts (grind (arith, nat_tests, e))
