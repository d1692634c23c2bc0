-- What blocks come to that stand one after another.
use Rattle.std.proofs.Common.{◌≡◌, ℕ, zero, suc, ◌+◌, ◌-◌, ◌*◌, ◌<◌, ◌≤◌, ◌||◌, Bool, true, false, min, List, length, get_or, map, pos, refl, sym, ap, ◌∙◌, arith}
use Rattle.std.specs.List.{list_any, range_with_len}
use Rattle.std.specs.Option.{option_map_or}
use Rattle.std.proofs.Math.Bool.{or-false}
use Rattle.std.proofs.lemmas.List.{same_lists}
use Rattle.std.proofs.lemmas.List.FromFn.{get_or-map-range_with_len, length-map-range_with_len}
use Rattle.scr_sum_tree.specs.Blocks.{blocks_at, part}
use Rattle.scr_sum_tree.specs.declared.blocks.Level.{Level}
use Rattle.scr_sum_tree.specs.declared.blocks.Level.TheVariants as levels
use Rattle.scr_sum_tree.proofs.PartLemmas.{get_or-part, length-part}
use Rattle.scr_num.specs.Rounding.{Ends, ends, exact_ends}
use Rattle.scr_partial_sums.specs.Figures.{ends_at}
use Rattle.scr_partial_sums.specs.Written.{AreNumbered, IsPut, blocks_ends, number_of}
use Rattle.scr_partial_sums.specs.declared.figure.Figure.{Figure}
use Rattle.scr_partial_sums.specs.declared.writing.Subtotals.{Subtotals}
use Rattle.scr_partial_sums.proofs.Members.{ends-there}
use Rattle.scr_partial_sums.proofs.Numbered.{number-apart}

-- a part of what is listed by numbers
pub part-of_range : {X : Type 0} (f : ℕ → X) (count i start end : ℕ) → start ≡ min count (32 * i) → end ≡ min count (32 * i + 32)
    → map f (range_with_len start (end - start)) ≡ part i (map f (range_with_len 0 count))
part-of_range f count i start end from to =
    same_lists (map f (range_with_len start (end - start))) (part i (map f (range_with_len 0 count)))
    (own ∙ omega (arith, from, to) ∙ sym (length-part i (map f (range_with_len 0 count)) ∙ ap (λ n. min 32 (n - 32 * i)) all))
    (λ k d h. let low : k < end - start = omega (arith, h, own) in
    get_or-map-range_with_len f start (end - start) k (32 * i + k) d low (omega (arith, from, to, low))
    ∙ sym (get_or-part i k (map f (range_with_len 0 count)) d (omega (arith, from, to, low))
    ∙ get_or-map-range_with_len f 0 count (32 * i + k) (32 * i + k) d (omega (arith, from, to, low)) (omega arith)))
  where
    own : length (map f (range_with_len start (end - start))) ≡ end - start
    own = length-map-range_with_len f start (end - start)

    all : length (map f (range_with_len 0 count)) ≡ count
    all = length-map-range_with_len f 0 count

module _ (figures : List Figure) (s : Subtotals) (level : Level) (start many : ℕ) where
  pub blocks-length : length (blocks_ends figures s level start many) ≡ many
  blocks-length = length-map-range_with_len (λ i. ends_at figures (number_of s level i)) start many

  -- the one at a number
  pub block-at : (index number : ℕ) (d : Figure) → start ≤ index → index - start < many → number ≡ number_of s level index → number < length figures
      → get_or (blocks_ends figures s level start many) (index - start) (ends (get_or figures number d).span) ≡ ends (get_or figures number d).span
  block-at index number d from low is room =
      get_or-map-range_with_len (λ i. ends_at figures (number_of s level i)) start many (index - start) index (ends (get_or figures number d).span) low (omega (arith, from))
      ∙ ap (ends_at figures) (sym is) ∙ ends-there figures number d room

or-assoc : (x y z : Bool) → (x || (y || z)) ≡ ((x || y) || z)
or-assoc true y z = refl
or-assoc false y z = refl

-- one more number is tested
pub any-next : (f : ℕ → Bool) (start many next : ℕ) → start + many ≡ next
    → list_any f (range_with_len start (suc many)) ≡ (list_any f (range_with_len start many) || f next)
any-next f start zero next is = or-false (f start) ∙ ap f (omega (arith, is))
any-next f start (suc many) next is =
    ap (λ b. f start || b) (any-next f (start + 1) many next (omega (arith, is)))
    ∙ or-assoc (f start) (list_any f (range_with_len (start + 1) many)) (f next)

-- the blocks of the first level stay while those of the second are written
module _ (s : Subtotals) (members : ℕ) (numbered : AreNumbered s members) (upto : ℕ) (worth : ℕ → Ends) (before now : List Figure)
    (put : IsPut s levels.Second upto worth before now) (few : upto ≤ blocks_at members levels.Second) where
  pub firsts-apart : (j : ℕ) → j < blocks_at members levels.First → (i : ℕ) → i < upto → number_of s levels.First j ≡ number_of s levels.Second i → ⊥
  firsts-apart j there i low same =
      let clash : levels.First ≡ levels.Second = (number-apart s members numbered levels.First levels.Second j i there (omega (arith, low, few)) same).0 in cc

  pub blocks-kept : (start many : ℕ) → start + many ≤ blocks_at members levels.First
      → blocks_ends now s levels.First start many ≡ blocks_ends before s levels.First start many
  blocks-kept start many within =
      same_lists (blocks_ends now s levels.First start many) (blocks_ends before s levels.First start many)
      (blocks-length now s levels.First start many ∙ sym (blocks-length before s levels.First start many))
      (λ k d h. let low : k < many = omega (arith, h, blocks-length now s levels.First start many) in
      get_or-map-range_with_len (λ i. ends_at now (number_of s levels.First i)) start many k (start + k) d low refl
      ∙ ap (λ o. option_map_or (λ (f : Figure). ends f.span) o (exact_ends (pos 0)))
      (put.kept.others (number_of s levels.First (start + k)) (firsts-apart (start + k) (omega (arith, low, within))))
      ∙ sym (get_or-map-range_with_len (λ i. ends_at before (number_of s levels.First i)) start many k (start + k) d low refl))
