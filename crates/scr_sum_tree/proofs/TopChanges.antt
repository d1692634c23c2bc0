-- What is left at the top of the Blocks, and how many Blocks there are over a roll.
use Rattle.std.proofs.Common.{◌≡◌, ℕ, ◌+◌, ◌<◌, ◌≤◌, Bool, true, false, cond, eqb, leb, Decides, List, length, map, refl, sym, ap, ◌∙◌, arith}
use Rattle.std.specs.List.{range_with_len}
use Rattle.std.proofs.lemmas.Bool.Decides.{Decides-eqb, nat_tests}
use Rattle.std.proofs.lemmas.List.{length-map}
use Rattle.std.proofs.lemmas.List.FromFn.{length-map-range_with_len}
use Rattle.scr_sum_tree.specs.Blocks.{parts, is_block, top_count, firsts, seconds, tops, block_sources}
use Rattle.scr_sum_tree.specs.declared.blocks.Level.{Level}
use Rattle.scr_sum_tree.specs.declared.blocks.Level.TheVariants as levels
use Rattle.scr_sum_tree.proofs.BlockTests.{Decides-is_block_over}
use Rattle.scr_sum_tree.proofs.PartLemmas.{length-part}

-- how many of so many are left at the top
pub top_count-le : (count : ℕ) → count ≤ 32768 → top_count count ≤ 32
top_count-le count most = by (leb count 32) refl (leb (parts count) 32) refl
  where
    over : Bool → Bool → ℕ
    over s t = cond s count (cond t (parts count) (parts (parts count)))

    by : (s : Bool) → leb count 32 ≡ s → (t : Bool) → leb (parts count) 32 ≡ t → over (leb count 32) (leb (parts count) 32) ≤ 32
    by true e t d = grind (arith, nat_tests, e)
    by false e true d = grind (arith, nat_tests, e, d)
    by false e false d = omega (arith, ap (λ s. over s (leb (parts count) 32)) e, ap (over false) d)

module _ {Name Node : Type 0} (member : Name → Node) (block : Level → ℕ → Node) where
  -- a Block sums up 1 to 32
  pub sources-some : (roll : List Name) (level : Level) (i : ℕ) → is_block (length roll) level i ≡ true
      → (1 ≤ length (block_sources member block roll level i)) × (length (block_sources member block roll level i) ≤ 32)
  sources-some roll levels.First i there =
      let within = (Decides-is_block_over (length roll) i).0 there in
      (omega (arith, within.1, length-part i (map member roll), length-map roll member), omega (arith, length-part i (map member roll)))
  sources-some roll levels.Second i there =
      let within = (Decides-is_block_over (parts (length roll)) i).0 there in (
        omega (arith, within.1, length-part i (firsts block (length roll)), length-map-range_with_len (block levels.First) 0 (parts (length roll))),
        omega (arith, length-part i (firsts block (length roll))),
      )

  module _ (roll : List Name) where
    abbrev top : Bool → Bool → List Node
    top s t = cond s (map member roll) (cond t (firsts block (length roll)) (seconds block (length roll)))

    abbrev count : Bool → Bool → ℕ
    count s t = cond s (length roll) (cond t (parts (length roll)) (parts (parts (length roll))))

    length-top : (s t : Bool) → length (top s t) ≡ count s t
    length-top true t = length-map roll member
    length-top false true = length-map-range_with_len (block levels.First) 0 (parts (length roll))
    length-top false false = length-map-range_with_len (block levels.Second) 0 (parts (parts (length roll)))

    pub length-tops : length (tops member block roll) ≡ top_count (length roll)
    length-tops = length-top (leb (length roll) 32) (leb (parts (length roll)) 32)

  module _ (few many : List Name) (more : length many ≡ length few + 1) where
    -- tests on numbers
    low : (a : ℕ) → leb a 32 ≡ true → a ≤ 32
    low a e = grind (arith, nat_tests, e)

    high : (a : ℕ) → leb a 32 ≡ false → 32 < a
    high a e = grind (arith, nat_tests, e)

    same_tops : (s t s' t' : Bool) → leb (length few) 32 ≡ s → leb (parts (length few)) 32 ≡ t → leb (length many) 32 ≡ s' → leb (parts (length many)) 32 ≡ t'
        → count few s t ≡ count many s' t' → top few s t ≡ top many s' t'
    same_tops true t true t' e d e' d' same = absurd (omega (arith, same, more))
    same_tops true t false true e d e' d' same = absurd (omega (arith, same, more, low (length few) e, high (length many) e'))
    same_tops true t false false e d e' d' same = absurd (omega (arith, more, low (length few) e, high (parts (length many)) d'))
    same_tops false t true t' e d e' d' same = absurd (omega (arith, more, high (length few) e, low (length many) e'))
    same_tops false true false true e d e' d' same = ap (λ n. map (block levels.First) (range_with_len 0 n)) same
    same_tops false true false false e d e' d' same = absurd (omega (arith, same, more, low (parts (length few)) d, high (parts (length many)) d'))
    same_tops false false false true e d e' d' same = absurd (omega (arith, more, high (parts (length few)) d, low (parts (length many)) d'))
    same_tops false false false false e d e' d' same = ap (λ n. map (block levels.Second) (range_with_len 0 n)) same

    pub tops-told : Decides (eqb (top_count (length few)) (top_count (length many))) (tops member block few ≡ tops member block many)
    tops-told = (
      λ t. same_tops (leb (length few) 32) (leb (parts (length few)) 32) (leb (length many) 32) (leb (parts (length many)) 32) refl refl refl refl
          ((Decides-eqb (top_count (length few)) (top_count (length many))).0 t),
      λ h. (Decides-eqb (top_count (length few)) (top_count (length many))).1 (sym (length-tops few) ∙ ap length h ∙ length-tops many),
    )
