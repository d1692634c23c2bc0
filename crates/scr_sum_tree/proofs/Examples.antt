-- Worked lists, by computation.
use Rattle.std.specs.Prelude.{◌≡◌, ℕ, ◌+◌, [], ◌∷◌, refl, false}
use Rattle.std.specs.List.{range_with_len}
use Rattle.scr_sum_tree.specs.Blocks.{block_sources, blocks_at, top_count, tops}
use Rattle.scr_sum_tree.specs.ChangedBlocks.{coming, leaving, went}
use Rattle.scr_sum_tree.specs.Readers.{reader_of_block, reader_of_member}
use Rattle.scr_sum_tree.specs.declared.blocks.Level.{Level}
use Rattle.scr_sum_tree.specs.declared.blocks.Level.TheVariants as levels
use Rattle.scr_sum_tree.specs.declared.readers.Reader.TheVariants as readers

-- members are their numbers, and the Block of a number stands for itself from 100,000 on, the second level from 200,000 on
abbrev block : Level → ℕ → ℕ
block levels.First i = 100_000 + i
block levels.Second i = 200_000 + i

-- 32 members are added up as they are, 33 by two Blocks
no-blocks : tops (λ k. k) block (range_with_len 0 3) ≡ 0 ∷ 1 ∷ 2 ∷ []
no-blocks = refl

two-blocks : tops (λ k. k) block (range_with_len 0 33) ≡ 100_000 ∷ 100_001 ∷ []
two-blocks = refl

the-last-alone : block_sources (λ k. k) block (range_with_len 0 33) levels.First 1 ≡ 32 ∷ []
the-last-alone = refl

-- 100 have four Blocks of the first level and none of the second; 1,025 have 33 and two; 20,000 have 625 and 20
hundred : top_count 100 ≡ 4
hundred = refl

many : blocks_at 1_025 levels.Second ≡ 2
many = refl

most : top_count 20_000 ≡ 20
most = refl

-- the 33rd begins the level with two Blocks, the 1,025th a Block and the second level
begins : coming 32 levels.First ≡ 0 ∷ 1 ∷ []
begins = refl

begins-both : coming 1_024 levels.Second ≡ 0 ∷ 1 ∷ []
begins-both = refl

third-place : coming 64 levels.First ≡ 2 ∷ []
third-place = refl

-- of 100 the one at place 40 leaves: the last, of the fourth Block, takes its place in the second
leaves : leaving 100 40 levels.First ≡ 1 ∷ 3 ∷ []
leaves = refl

last-leaves : leaving 100 99 levels.First ≡ 3 ∷ []
last-leaves = refl

others-stay : went 100 40 levels.First 2 ≡ false
others-stay = refl

ends : leaving 33 5 levels.First ≡ 0 ∷ 1 ∷ []
ends = refl

-- the member at place 5,000 of 20,000 is added up by the 157th Block, and that by the fifth of the second level
reads : reader_of_member 20_000 5_000 ≡ readers.Block levels.First 156
reads = refl

reads-above : reader_of_block 20_000 levels.First 156 ≡ readers.Block levels.Second 4
reads-above = refl

reads-whole : reader_of_block 1_000 levels.First 31 ≡ readers.Whole
reads-whole = refl
