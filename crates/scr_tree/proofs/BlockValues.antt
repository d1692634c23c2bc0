-- What Blocks come to over the figures of members: each what is reckoned from, and so a part of the members.
use Rattle.std.proofs.Common.{◌≡◌, ℕ, zero, suc, ◌+◌, ◌<◌, ◌≤◌, true, List, ◌∷◌, length, map, refl, sym, ap, ap₂, ◌∙◌, arith}
use Rattle.std.specs.List.{range_with_len}
use Rattle.std.proofs.lemmas.Bool.Decides.{Decides-ltb}
use Rattle.std.proofs.lemmas.List.{length-map}
use Rattle.scr_sum_tree.specs.Blocks.{block_sources, blocks_at, is_block, part, parts}
use Rattle.scr_sum_tree.specs.Sums.{AreSums}
use Rattle.scr_sum_tree.specs.declared.blocks.Level.{Level}
use Rattle.scr_sum_tree.specs.declared.blocks.Level.TheVariants as levels
use Rattle.scr_sum_tree.proofs.BlockTests.{Decides-is_block_over}
use Rattle.scr_sum_tree.proofs.PartLemmas.{part-map}
use Rattle.scr_sum_tree.proofs.Regrouped.{map-map}
use Rattle.scr_num.specs.Rounding.{Ends}
use Rattle.scr_num.specs.Sums.{sum_ends}
use Rattle.scr_partial_sums.specs.Figures.{ends_at, member_number, members_ends}
use Rattle.scr_partial_sums.specs.declared.figure.Figure.{Figure}
use Rattle.scr_tree.specs.Summed.{spanned_ends}

pub map-range : {X : Type 0} (f g : ℕ → X) (a n : ℕ) → ((j : ℕ) → a ≤ j → j < a + n → f j ≡ g j) → map f (range_with_len a n) ≡ map g (range_with_len a n)
map-range f g a zero each = refl
map-range f g a (suc n) each =
    ap₂ (λ x xs. x ∷ xs) (each a (omega arith) (omega arith))
    (map-range f g (a + 1) n (λ j from to. each j (omega (arith, from)) (omega (arith, to))))

-- the Blocks of a level are numbered from 0
pub block-there : (count : ℕ) (level : Level) (i : ℕ) → i < blocks_at count level → is_block count level i ≡ true
block-there count levels.First i low = (Decides-ltb i (blocks_at count levels.First)).1 low
block-there count levels.Second i low = (Decides-ltb i (blocks_at count levels.Second)).1 low

pub block-low : (count : ℕ) (level : Level) (i : ℕ) → is_block count level i ≡ true → i < blocks_at count level
block-low count levels.First i there = (Decides-ltb i (blocks_at count levels.First)).0 there
block-low count levels.Second i there = (Decides-ltb i (blocks_at count levels.Second)).0 there

-- where there is a Block of the second level, each part has one of the first
first-there : (count i j : ℕ) → is_block count levels.Second i ≡ true → j < parts count → is_block count levels.First j ≡ true
first-there count i j there low =
    let many = (Decides-is_block_over (parts count) i).0 there in
    (Decides-is_block_over count j).1 (omega (arith, many.0), low)

-- a list that has none of the first level has none
pub none-above : (count : ℕ) → blocks_at count levels.First ≡ 0 → (level : Level) (i : ℕ) → i < blocks_at count level → ⊥
none-above count none levels.First i low = omega (arith, none, low)
none-above count none levels.Second i low =
    let there = block-there count levels.Second i low in
    let many = (Decides-is_block_over (parts count) i).0 there in
    let first = block-low count levels.First 0 (first-there count i 0 there (omega (arith, many.0))) in
    omega (arith, none, first)

module _ (figures : List Figure) (family : ℕ) (firsts : List ℕ) (block : Level → ℕ → ℕ) where
  abbrev ends : List Ends
  ends = members_ends figures family firsts

  abbrev here : Level → ℕ → Ends
  here level i = ends_at figures (block level i)

  abbrev pub AreSpanned : Type 0
  AreSpanned = (level : Level) (i : ℕ) → is_block (length firsts) level i ≡ true → here level i ≡ spanned_ends ends level i

  abbrev pub AreSummed : Type 0
  AreSummed = AreSums sum_ends (ends_at figures) (member_number family) block firsts

  first-sources : (i : ℕ) → map (ends_at figures) (block_sources (member_number family) block firsts levels.First i) ≡ part i ends
  first-sources i =
      sym (part-map (ends_at figures) i (map (member_number family) firsts)) ∙ ap (part i) (map-map (ends_at figures) (member_number family) firsts)

  second-sources : (i : ℕ) → map (ends_at figures) (block_sources (member_number family) block firsts levels.Second i)
      ≡ part i (map (here levels.First) (range_with_len 0 (parts (length firsts))))
  second-sources i =
      sym (part-map (ends_at figures) i (map (block levels.First) (range_with_len 0 (parts (length firsts)))))
      ∙ ap (part i) (map-map (ends_at figures) (block levels.First) (range_with_len 0 (parts (length firsts))))

  long : length ends ≡ length firsts
  long = length-map firsts (λ first. ends_at figures (member_number family first))

  -- the parts, where each is what the members of it come to
  same-parts : ((j : ℕ) → j < parts (length firsts) → here levels.First j ≡ sum_ends (part j ends))
      → map (here levels.First) (range_with_len 0 (parts (length firsts))) ≡ map (λ j. sum_ends (part j ends)) (range_with_len 0 (parts (length ends)))
  same-parts each =
      map-range (here levels.First) (λ j. sum_ends (part j ends)) 0 (parts (length firsts)) (λ j from to. each j (omega (arith, to)))
      ∙ ap (λ n. map (λ j. sum_ends (part j ends)) (range_with_len 0 (parts n))) (sym long)

  pub to-spanned : AreSummed → AreSpanned
  to-spanned summed levels.First i there = summed levels.First i there ∙ ap sum_ends (first-sources i)
  to-spanned summed levels.Second i there =
      summed levels.Second i there
      ∙ ap sum_ends (second-sources i
      ∙ ap (part i) (same-parts (λ j low. summed levels.First j (first-there (length firsts) i j there low) ∙ ap sum_ends (first-sources j))))

  pub to-summed : AreSpanned → AreSummed
  to-summed spanned levels.First i there = spanned levels.First i there ∙ ap sum_ends (sym (first-sources i))
  to-summed spanned levels.Second i there =
      spanned levels.Second i there
      ∙ ap sum_ends (ap (part i) (sym (same-parts (λ j low. spanned levels.First j (first-there (length firsts) i j there low))))
      ∙ sym (second-sources i))
