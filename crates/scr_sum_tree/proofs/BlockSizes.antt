-- How large the figures of a roll's Blocks are together: no larger than those of its members.
use Rattle.std.proofs.Common.{◌≡◌, ℕ, zero, suc, ◌+◌, ◌*◌, ◌<◌, ◌≤◌, Bool, true, false, cond, leb, List, length, take, drop, map, sum_by, unsigned_abs, refl, ap, ◌∙◌, arith}
use Rattle.std.specs.List.{range_with_len}
use Rattle.std.proofs.lemmas.Bool.Decides.{nat_tests}
use Rattle.std.proofs.lemmas.List.{length-map, take_all}
use Rattle.std.proofs.lemmas.List.FromFn.{length-map-range_with_len}
use Rattle.std.proofs.lemmas.List.Sums.{sum_by-append, sum_by-cons, sum_by-take-drop}
use Rattle.scr_num.specs.Rounding.{Ends}
use Rattle.scr_num.specs.Sizes.{AreTogether}
use Rattle.scr_num.specs.Sums.{sum_ends}
use Rattle.scr_num.proofs.SumLemmas.{sum_ends-low_size, sum_ends-high_size}
use Rattle.scr_sum_tree.specs.Blocks.{part, parts, is_block, firsts, seconds, tops, block_sources}
use Rattle.scr_sum_tree.specs.Sums.{AreSums}
use Rattle.scr_sum_tree.specs.declared.blocks.Level.{Level}
use Rattle.scr_sum_tree.specs.declared.blocks.Level.TheVariants as levels
use Rattle.scr_sum_tree.proofs.BlockTests.{Decides-is_block_over}
use Rattle.scr_sum_tree.proofs.PartLemmas.{part-map}
use Rattle.scr_sum_tree.proofs.Regrouped.{map-map, part-and-rest}

module _ {X : Type 0} (size : X → ℕ) where
  -- a part is no larger than the list
  part-le : (i : ℕ) (xs : List X) → sum_by size (part i xs) ≤ sum_by size xs
  part-le i xs = omega (arith, sum_by-take-drop size (drop (32 * i) xs) 32, sum_by-take-drop size xs (32 * i))

  -- what is no larger than some parts, one by one, is no larger together
  parts-le : (of : ℕ → X) (xs : List X) (a k : ℕ) → ((i : ℕ) → a ≤ i → i < a + k → size (of i) ≤ sum_by size (part i xs))
      → sum_by size (map of (range_with_len a k)) ≤ sum_by size (take (32 * k) (drop (32 * a) xs))
  parts-le of xs a zero each = omega arith
  parts-le of xs a (suc k) each =
      let rest = parts-le of xs (a + 1) k (λ i from to. each i (omega arith) (omega arith)) in
      let here = each a (omega arith) (omega arith) in
      let all = ap (sum_by size) (part-and-rest a k xs) in
      omega (arith, rest, here, all, sum_by-append size (part a xs) (take (32 * k) (drop (32 * (a + 1)) xs)), sum_by-cons size (of a) (map of (range_with_len (a + 1) k)))

  all_parts-le : (of : ℕ → X) (xs : List X) (count : ℕ) → length xs ≡ count → ((i : ℕ) → i < parts count → size (of i) ≤ sum_by size (part i xs))
      → sum_by size (map of (range_with_len 0 (parts count))) ≤ sum_by size xs
  all_parts-le of xs count is each =
      let some = parts-le of xs 0 (parts count) (λ i from to. each i (omega arith)) in
      let all = ap (sum_by size) (take_all (32 * parts count) xs (omega (arith, is))) in
      omega (arith, some, all)

module _ (size : Ends → ℕ) (least : (es : List Ends) → size (sum_ends es) ≤ sum_by size es) {Name Node : Type 0} (worth : Node → Ends)
    (member : Name → Node) (block : Level → ℕ → Node) (roll : List Name) (summed : AreSums sum_ends worth member block roll) where
  abbrev members : ℕ
  members = sum_by size (map worth (map member roll))

  block-le : (level : Level) (i : ℕ) → is_block (length roll) level i ≡ true
      → size (worth (block level i)) ≤ sum_by size (map worth (block_sources member block roll level i))
  block-le level i there =
      let is = ap size (summed level i there) in omega (arith, is, least (map worth (block_sources member block roll level i)))

  firsts-le : 32 < length roll → sum_by size (map worth (firsts block (length roll))) ≤ members
  firsts-le many =
      let some = all_parts-le size (λ i. worth (block levels.First i)) (map worth (map member roll)) (length roll)
      (length-map (map member roll) worth ∙ length-map roll member)
      (λ i within. let whole = ap (sum_by size) (part-map worth i (map member roll)) in
      omega (arith, block-le levels.First i ((Decides-is_block_over (length roll) i).1 (many, within)), whole)) in
      let same = ap (sum_by size) (map-map worth (block levels.First) (range_with_len 0 (parts (length roll)))) in
      omega (arith, some, same)

  seconds-le : 32 < parts (length roll) → sum_by size (map worth (seconds block (length roll))) ≤ sum_by size (map worth (firsts block (length roll)))
  seconds-le many =
      let some = all_parts-le size (λ i. worth (block levels.Second i)) (map worth (firsts block (length roll))) (parts (length roll))
      (length-map (firsts block (length roll)) worth ∙ length-map-range_with_len (block levels.First) 0 (parts (length roll)))
      (λ i within. let whole = ap (sum_by size) (part-map worth i (firsts block (length roll))) in
      omega (arith, block-le levels.Second i ((Decides-is_block_over (parts (length roll)) i).1 (many, within)), whole)) in
      let same = ap (sum_by size) (map-map worth (block levels.Second) (range_with_len 0 (parts (parts (length roll))))) in
      omega (arith, some, same)

  pub tops-le : sum_by size (map worth (tops member block roll)) ≤ members
  tops-le = by (leb (length roll) 32) refl (leb (parts (length roll)) 32) refl
    where
      over : Bool → Bool → List Node
      over s t = cond s (map member roll) (cond t (firsts block (length roll)) (seconds block (length roll)))

      at : (s : Bool) → leb (length roll) 32 ≡ s → (t : Bool) → leb (parts (length roll)) 32 ≡ t
          → sum_by size (map worth (over (leb (length roll) 32) (leb (parts (length roll)) 32))) ≡ sum_by size (map worth (over s t))
      at s e t d = λ i. sum_by size (map worth (over (e i) (d i)))

      by : (s : Bool) → leb (length roll) 32 ≡ s → (t : Bool) → leb (parts (length roll)) 32 ≡ t
          → sum_by size (map worth (over (leb (length roll) 32) (leb (parts (length roll)) 32))) ≤ sum_by size (map worth (map member roll))
      by true e t d = omega (arith, at true e t d)
      by false e true d = omega (arith, at false e true d, firsts-le (grind (arith, nat_tests, e)))
      by false e false d = omega (arith, at false e false d, seconds-le (grind (arith, nat_tests, d)), firsts-le (grind (arith, nat_tests, e)))

  pub sources-le : (level : Level) (i : ℕ) → is_block (length roll) level i ≡ true
      → sum_by size (map worth (block_sources member block roll level i)) ≤ members
  sources-le levels.First i there =
      let whole = ap (sum_by size) (part-map worth i (map member roll)) in omega (arith, whole, part-le size i (map worth (map member roll)))
  sources-le levels.Second i there =
      let whole = ap (sum_by size) (part-map worth i (firsts block (length roll))) in
      let many = (Decides-is_block_over (parts (length roll)) i).0 there in
      omega (arith, whole, part-le size i (map worth (firsts block (length roll))), firsts-le (omega (arith, many.0)))

module _ {Name Node : Type 0} (worth : Node → Ends) (member : Name → Node) (block : Level → ℕ → Node) (roll : List Name)
    (summed : AreSums sum_ends worth member block roll) (most : ℕ) (small : AreTogether most (map worth (map member roll))) where
  pub tops-together : AreTogether most (map worth (tops member block roll))
  tops-together = record {
    lows = omega (arith, small.lows, tops-le (λ (e : Ends). unsigned_abs e.low) sum_ends-low_size worth member block roll summed);
    highs = omega (arith, small.highs, tops-le (λ (e : Ends). unsigned_abs e.high) sum_ends-high_size worth member block roll summed);
  }

  pub sources-together : (level : Level) (i : ℕ) → is_block (length roll) level i ≡ true → AreTogether most (map worth (block_sources member block roll level i))
  sources-together level i there = record {
    lows = omega (arith, small.lows, sources-le (λ (e : Ends). unsigned_abs e.low) sum_ends-low_size worth member block roll summed level i there);
    highs = omega (arith, small.highs, sources-le (λ (e : Ends). unsigned_abs e.high) sum_ends-high_size worth member block roll summed level i there);
  }
