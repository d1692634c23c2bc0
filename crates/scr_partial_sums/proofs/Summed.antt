-- What a sum comes to whose blocks are there, and that they are there once both levels are written.
use Rattle.std.proofs.Common.{◌≡◌, ℕ, zero, suc, ◌+◌, ◌*◌, ◌<◌, ◌≤◌, Bool, true, false, cond, ltb, List, length, take, drop, map, sum_by, unsigned_abs, slice_get, pos, refl, sym, ap, subst, ◌∙◌, arith}
use Rattle.std.specs.Prelude.{All}
use Rattle.std.specs.List.{range_with_len}
use Rattle.std.specs.Option.{option_map_or}
use Rattle.std.proofs.lemmas.Bool.Decides.{Decides-ltb}
use Rattle.std.proofs.lemmas.List.{same_lists}
use Rattle.std.proofs.lemmas.List.FromFn.{get_or-map-range_with_len, length-map-range_with_len}
use Rattle.std.proofs.lemmas.List.Sums.{sum_by-append, sum_by-cons, sum_by-take-drop}
use Rattle.scr_sum_tree.specs.Blocks.{blocks_at, blocks_over, part, parts}
use Rattle.scr_sum_tree.specs.Sums.{AreSums}
use Rattle.scr_sum_tree.specs.declared.blocks.Level.TheVariants as levels
use Rattle.scr_sum_tree.proofs.BlockTests.{Decides-is_block_over, over-many}
use Rattle.scr_sum_tree.proofs.ListedSums.{ends-add_up, total-ends}
use Rattle.scr_sum_tree.proofs.PartLemmas.{part-map}
use Rattle.scr_sum_tree.proofs.Regrouped.{map-map, part-and-rest, total-all_parts}
use Rattle.scr_num.specs.Rounding.{Ends, add_ends, ends, exact_ends}
use Rattle.scr_num.specs.Sizes.{AreTogether}
use Rattle.scr_num.specs.Sums.{sum_ends}
use Rattle.scr_num.proofs.SumLemmas.{sum_ends-high_size, sum_ends-low_size}
use Rattle.scr_partial_sums.specs.Figures.{ends_at, member_number, members_ends}
use Rattle.scr_partial_sums.specs.Written.{AreNumbered, AreOffBlocks, IsPut, blocks_ends, number_of, part_ends, second_ends}
use Rattle.scr_partial_sums.specs.declared.figure.Figure.{Figure}
use Rattle.scr_partial_sums.specs.declared.writing.Subtotals.{Subtotals}
use Rattle.scr_partial_sums.proofs.Members.{members-length, members-same}
use Rattle.scr_partial_sums.proofs.Parted.{members-kept, members-part}
use Rattle.scr_partial_sums.proofs.Seconds.{blocks-kept, blocks-length, firsts-apart}

-- ---- sizes

module _ {X : Type 0} (size : X → ℕ) where
  -- what is no larger than some parts, one by one, is no larger together
  parts-le : (of : ℕ → X) (xs : List X) (a k : ℕ) → ((i : ℕ) → a ≤ i → i < a + k → size (of i) ≤ sum_by size (part i xs))
      → sum_by size (map of (range_with_len a k)) ≤ sum_by size (take (32 * k) (drop (32 * a) xs))
  parts-le of xs a zero each = omega arith
  parts-le of xs a (suc k) each =
      let rest = parts-le of xs (a + 1) k (λ i from to. each i (omega (arith, from)) (omega (arith, to))) in
      let here = each a (omega arith) (omega arith) in
      let all = ap (sum_by size) (part-and-rest a k xs) in
      omega (arith, rest, here, all, sum_by-append size (part a xs) (take (32 * k) (drop (32 * (a + 1)) xs)), sum_by-cons size (of a) (map of (range_with_len (a + 1) k)))

  -- so all of them
  pub all-le : (of : ℕ → X) (xs : List X) (many : ℕ) → ((i : ℕ) → i < many → size (of i) ≤ sum_by size (part i xs))
      → sum_by size (map of (range_with_len 0 many)) ≤ sum_by size xs
  all-le of xs many each =
      let some = parts-le of xs 0 many (λ i from to. each i (omega (arith, to))) in
      omega (arith, some, sum_by-take-drop size xs (32 * many))

-- what is worth no more than the parts of a list, one by one
pub parts-together : (most many : ℕ) (of : ℕ → Ends) (es : List Ends) → ((i : ℕ) → i < many → of i ≡ sum_ends (part i es)) → AreTogether most es
    → AreTogether most (map of (range_with_len 0 many))
parts-together most many of es each all = record {
  lows = let few = all-le (λ (e : Ends). unsigned_abs e.low) of es many one-low in let whole = all.lows in omega (arith, few, whole);
  highs = let few = all-le (λ (e : Ends). unsigned_abs e.high) of es many one-high in let whole = all.highs in omega (arith, few, whole);
}
  where
    one-low : (i : ℕ) → i < many → unsigned_abs (of i).low ≤ sum_by (λ (e : Ends). unsigned_abs e.low) (part i es)
    one-low i low = let is = ap (λ (e : Ends). unsigned_abs e.low) (each i low) in omega (arith, is, sum_ends-low_size (part i es))

    one-high : (i : ℕ) → i < many → unsigned_abs (of i).high ≤ sum_by (λ (e : Ends). unsigned_abs e.high) (part i es)
    one-high i low = let is = ap (λ (e : Ends). unsigned_abs e.high) (each i low) in omega (arith, is, sum_ends-high_size (part i es))

-- the sums of all parts of a list
pub parts-sum : (of : ℕ → Ends) (es : List Ends) (count : ℕ) → length es ≡ count → ((i : ℕ) → i < parts count → of i ≡ sum_ends (part i es))
    → sum_ends (map of (range_with_len 0 (parts count))) ≡ sum_ends es
parts-sum of es count long each =
    sym (total-ends (map of (range_with_len 0 (parts count))))
    ∙ total-all_parts (exact_ends (pos 0)) add_ends ends-add_up of es count long (λ i low. each i low ∙ sym (total-ends (part i es)))
    ∙ total-ends es

-- there are Blocks where there are more than 32
pub over-some : (count : ℕ) → 0 < blocks_over count → 32 < count
over-some count some = by (ltb 32 count) refl
  where
    by : (t : Bool) → ltb 32 count ≡ t → 32 < count
    by true e = (Decides-ltb 32 count).0 e
    by false e = absurd (omega (arith, some, ap (λ (t : Bool). cond t (parts count) 0) e))

-- ---- the first level written

module _ (s : Subtotals) (family : ℕ) (firsts : List ℕ) (many : ℕ) (before between : List Figure)
    (first : IsPut s levels.First many (part_ends before family firsts) before between) where
  firsts-are : blocks_ends between s levels.First 0 many ≡ map (part_ends before family firsts) (range_with_len 0 many)
  firsts-are =
      same_lists (blocks_ends between s levels.First 0 many) (map (part_ends before family firsts) (range_with_len 0 many))
      (blocks-length between s levels.First 0 many ∙ sym (length-map-range_with_len (part_ends before family firsts) 0 many))
      (λ k d h. let low : k < many = omega (arith, h, blocks-length between s levels.First 0 many) in
      get_or-map-range_with_len (λ i. ends_at between (number_of s levels.First i)) 0 many k k d low (omega arith)
      ∙ first.there k low
      ∙ sym (get_or-map-range_with_len (part_ends before family firsts) 0 many k k d low (omega arith)))

  pub written-together : (most : ℕ) → AreTogether most (members_ends before family firsts) → AreTogether most (blocks_ends between s levels.First 0 many)
  written-together most all =
      subst (λ (es : List Ends). AreTogether most es) (sym firsts-are)
      (parts-together most many (part_ends before family firsts) (members_ends before family firsts)
      (λ i low. ap sum_ends (sym (members-part before family firsts i))) all)

-- ---- both levels written, one after the other

module _ (s : Subtotals) (family : ℕ) (firsts : List ℕ) (numbered : AreNumbered s (length firsts)) (before between after : List Figure)
    (first : IsPut s levels.First (blocks_at (length firsts) levels.First) (part_ends before family firsts) before between)
    (second : IsPut s levels.Second (blocks_at (length firsts) levels.Second) (second_ends between s (length firsts)) between after)
    (off : All (λ number. AreOffBlocks s (length firsts) (member_number family number)) firsts) where
  abbrev count : ℕ
  count = length firsts

  members-after : members_ends after family firsts ≡ members_ends before family firsts
  members-after =
      members-same between after family firsts (members-kept s levels.Second (blocks_at count levels.Second) (second_ends between s count) between after second family firsts (omega arith) off)
      ∙ members-same before between family firsts (members-kept s levels.First (blocks_at count levels.First) (part_ends before family firsts) before between first family firsts (omega arith) off)

  first-after : (i : ℕ) → i < blocks_at count levels.First → slice_get after (number_of s levels.First i) ≡ slice_get between (number_of s levels.First i)
  first-after i low = second.kept.others (number_of s levels.First i)
      (firsts-apart s count numbered (blocks_at count levels.Second) (second_ends between s count) between after second (omega arith) i low)

  pub sums-after : AreSums sum_ends (ends_at after) (member_number family) (number_of s) firsts
  sums-after levels.First i there =
      ap (λ o. option_map_or (λ (f : Figure). ends f.span) o (exact_ends (pos 0))) (first-after i low) ∙ first.there i low
      ∙ ap sum_ends (sym (members-part before family firsts i) ∙ ap (part i) (sym members-after)
      ∙ ap (part i) (sym (map-map (ends_at after) (member_number family) firsts)) ∙ part-map (ends_at after) i (map (member_number family) firsts))
    where
      low : i < blocks_at count levels.First
      low = (Decides-ltb i (blocks_over count)).0 there
  sums-after levels.Second i there =
      second.there i low
      ∙ ap sum_ends (ap (part i) (sym (blocks-kept s count numbered (blocks_at count levels.Second) (second_ends between s count) between after second (omega arith)
      0 (blocks_at count levels.First) (omega arith)))
      ∙ ap (λ n. part i (blocks_ends after s levels.First 0 n)) (over-many count more)
      ∙ ap (part i) (sym (map-map (ends_at after) (number_of s levels.First) (range_with_len 0 (parts count))))
      ∙ part-map (ends_at after) i (map (number_of s levels.First) (range_with_len 0 (parts count))))
    where
      low : i < blocks_at count levels.Second
      low = (Decides-ltb i (blocks_over (parts count))).0 there

      more : 32 < count
      more = let many = over-some (parts count) (omega (arith, low)) in omega (arith, many)

  pub kept-after : (number : ℕ) → AreOffBlocks s count number → slice_get after number ≡ slice_get before number
  kept-after number apart = second.kept.others number (λ i low. apart levels.Second i low) ∙ first.kept.others number (λ i low. apart levels.First i low)

-- ---- blocks that are there

module _ (figures : List Figure) (s : Subtotals) (family : ℕ) (firsts : List ℕ) (sums : AreSums sum_ends (ends_at figures) (member_number family) (number_of s) firsts)
  where
    first-is : 32 < length firsts → (i : ℕ) → i < parts (length firsts)
        → ends_at figures (number_of s levels.First i) ≡ sum_ends (part i (members_ends figures family firsts))
    first-is many i low =
        sums levels.First i ((Decides-is_block_over (length firsts) i).1 (many, low))
        ∙ ap sum_ends (sym (part-map (ends_at figures) i (map (member_number family) firsts)) ∙ ap (part i) (map-map (ends_at figures) (member_number family) firsts))

    second-is : 32 < parts (length firsts) → (i : ℕ) → i < parts (parts (length firsts))
        → ends_at figures (number_of s levels.Second i) ≡ sum_ends (part i (blocks_ends figures s levels.First 0 (parts (length firsts))))
    second-is many i low =
        sums levels.Second i ((Decides-is_block_over (parts (length firsts)) i).1 (many, low))
        ∙ ap sum_ends (sym (part-map (ends_at figures) i (map (number_of s levels.First) (range_with_len 0 (parts (length firsts)))))
        ∙ ap (part i) (map-map (ends_at figures) (number_of s levels.First) (range_with_len 0 (parts (length firsts)))))

    pub firsts-sum : 32 < length firsts → sum_ends (blocks_ends figures s levels.First 0 (parts (length firsts))) ≡ sum_ends (members_ends figures family firsts)
    firsts-sum many = parts-sum (λ i. ends_at figures (number_of s levels.First i)) (members_ends figures family firsts) (length firsts)
        (members-length figures family firsts) (first-is many)

    pub seconds-sum : 32 < parts (length firsts)
        → sum_ends (blocks_ends figures s levels.Second 0 (parts (parts (length firsts)))) ≡ sum_ends (members_ends figures family firsts)
    seconds-sum many =
        parts-sum (λ i. ends_at figures (number_of s levels.Second i)) (blocks_ends figures s levels.First 0 (parts (length firsts))) (parts (length firsts))
        (blocks-length figures s levels.First 0 (parts (length firsts))) (second-is many)
        ∙ firsts-sum (omega (arith, many))

    pub firsts-together : (most : ℕ) → 32 < length firsts → AreTogether most (members_ends figures family firsts)
        → AreTogether most (blocks_ends figures s levels.First 0 (parts (length firsts)))
    firsts-together most many all = parts-together most (parts (length firsts)) (λ i. ends_at figures (number_of s levels.First i))
        (members_ends figures family firsts) (first-is many) all

    pub seconds-together : (most : ℕ) → 32 < parts (length firsts) → AreTogether most (members_ends figures family firsts)
        → AreTogether most (blocks_ends figures s levels.Second 0 (parts (parts (length firsts))))
    seconds-together most many all = parts-together most (parts (parts (length firsts))) (λ i. ends_at figures (number_of s levels.Second i))
        (blocks_ends figures s levels.First 0 (parts (length firsts))) (second-is many) (firsts-together most (omega (arith, many)) all)
