-- Each place is spanned by one Block, and the Blocks of a level add up all that is below them, in order.
use Rattle.std.proofs.Common.{◌≡◌, ℕ, zero, suc, ◌+◌, ◌*◌, ◌/◌, ◌<◌, ◌≤◌, Bool, true, false, cond, eqb, ltb, Decides, List, [], ◌++◌, length, take, drop, map, refl, ap, ◌∙◌, arith}
use Rattle.std.specs.Prelude.{flat_map}
use Rattle.std.specs.List.{range_with_len}
use Rattle.std.proofs.lemmas.Bool.Decides.{Decides-eqb, nat_tests}
use Rattle.std.proofs.lemmas.List.{length-map, take_all}
use Rattle.std.proofs.lemmas.List.FromFn.{length-map-range_with_len}
use Rattle.scr_sum_tree.specs.Blocks.{below, block_of, block_sources, blocks_at, blocks_over, end_of, firsts, is_block, part, parts, start_of}
use Rattle.scr_sum_tree.specs.declared.blocks.Level.{Level}
use Rattle.scr_sum_tree.specs.declared.blocks.Level.TheVariants as levels
use Rattle.scr_sum_tree.proofs.BlockTests.{Decides-is_block_over, over-many}
use Rattle.scr_sum_tree.proofs.Regrouped.{part-and-rest}

pub is_block-numbered : (count : ℕ) (level : Level) (i : ℕ) → is_block count level i ≡ ltb i (blocks_at count level)
is_block-numbered count levels.First i = refl
is_block-numbered count levels.Second i = refl

-- where there is a Block, they are more than 32
some-many : (count : ℕ) → 0 < blocks_over count → 32 < count
some-many count some = by (ltb 32 count) refl
  where
    by : (t : Bool) → ltb 32 count ≡ t → 32 < count
    by true e = grind (arith, nat_tests, e)
    by false e = absurd (omega (arith, some, ap (λ t. cond t (parts count) 0) e))

-- there are no more Blocks than members
pub blocks-fewer : (count : ℕ) → blocks_at count levels.First + blocks_at count levels.Second ≤ count
blocks-fewer count = by (ltb 32 count) refl (ltb 32 (parts count)) refl
  where
    over : Bool → Bool → ℕ
    over s t = cond s (parts count) 0 + cond t (parts (parts count)) 0

    by : (s : Bool) → ltb 32 count ≡ s → (t : Bool) → ltb 32 (parts count) ≡ t → over (ltb 32 count) (ltb 32 (parts count)) ≤ count
    by true e true d =
        let many : 32 < count = grind (arith, nat_tests, e) in
        omega (arith, many, ap (λ s. over s (ltb 32 (parts count))) e, ap (over true) d)
    by true e false d =
        let many : 32 < count = grind (arith, nat_tests, e) in
        omega (arith, many, ap (λ s. over s (ltb 32 (parts count))) e, ap (over true) d)
    by false e true d =
        let few : count ≤ 32 = grind (arith, nat_tests, e) in
        let many : 32 < parts count = grind (arith, nat_tests, d) in
        absurd (omega (arith, few, many))
    by false e false d = omega (arith, ap (λ s. over s (ltb 32 (parts count))) e, ap (over false) d)

-- ---- places

pub own-block : (count : ℕ) (level : Level) (place : ℕ) → 0 < blocks_at count level → place < count
    → is_block count level (block_of level place) ≡ true
own-block count levels.First place some inside =
    (Decides-is_block_over count (place / 32)).1 (some-many count some, omega (arith, inside))
own-block count levels.Second place some inside =
    (Decides-is_block_over (parts count) (place / 1024)).1 (some-many (parts count) some, omega (arith, inside))

pub spans-place : (count : ℕ) (level : Level) (place i : ℕ) → is_block count level i ≡ true → place < count
    → Decides (eqb i (block_of level place)) ((start_of count level i ≤ place) × (place < end_of count level i))
spans-place count levels.First place i there inside = (
  λ t. let at = (Decides-eqb i (place / 32)).0 t in (omega (arith, at), omega (arith, at, inside)),
  λ h. (Decides-eqb i (place / 32)).1 (omega (arith, h.0, h.1, inside)),
)
spans-place count levels.Second place i there inside = (
  λ t. let at = (Decides-eqb i (place / 1024)).0 t in (omega (arith, at), omega (arith, at, inside)),
  λ h. (Decides-eqb i (place / 1024)).1 (omega (arith, h.0, h.1, inside)),
)

pub nested-blocks : (place : ℕ) → block_of levels.Second place ≡ block_of levels.First place / 32
nested-blocks place = omega arith

-- ---- what is added up

flat-parts : {X : Type 0} (xs : List X) (a k : ℕ) → flat_map (λ i. part i xs) (range_with_len a k) ≡ take (32 * k) (drop (32 * a) xs)
flat-parts xs a zero = refl
flat-parts xs a (suc k) = ap (λ ys. part a xs ++ ys) (flat-parts xs (a + 1) k) ∙ part-and-rest a k xs

flat-all : {X : Type 0} (xs : List X) (count : ℕ) → length xs ≡ count → 0 < blocks_over count
    → flat_map (λ i. part i xs) (range_with_len 0 (blocks_over count)) ≡ xs
flat-all xs count is some =
    ap (λ n. flat_map (λ i. part i xs) (range_with_len 0 n)) (over-many count (some-many count some))
    ∙ flat-parts xs 0 (parts count) ∙ take_all (32 * parts count) xs (omega (arith, is))

pub all-below : {Name Node : Type 0} (member : Name → Node) (block : Level → ℕ → Node) (list : List Name) (level : Level)
    → 0 < blocks_at (length list) level
    → flat_map (block_sources member block list level) (range_with_len 0 (blocks_at (length list) level)) ≡ below member block list level
all-below member block list levels.First some = flat-all (map member list) (length list) (length-map list member) some
all-below member block list levels.Second some =
    flat-all (firsts block (length list)) (parts (length list)) (length-map-range_with_len (block levels.First) 0 (parts (length list))) some
