-- Which Blocks under a sum a record touches, and whether what is left at the top of the sum stays.
use Rattle.std.proofs.Common.{◌≡◌, ◌↔◌, ℕ, ◌<◌, Bool, true, false, ◌&&◌, ◌||◌, Decides, Contains, List, Some, length, get_or, refl, sym, ap, ◌∙◌, arith}
use Rattle.std.specs.Prelude.{IsTrue}
use Rattle.std.specs.List.{position_or_len, range_with_len}
use Rattle.std.proofs.lemmas.Bool.Decides.{Decides-ltb}
use Rattle.std.proofs.lemmas.List.FromFn.{get_or-range_with_len, length-range_with_len}
use Rattle.std.proofs.lemmas.Option.{get_or_from_slice_get, slice_get-get_or}
use Rattle.scr_factors.specs.Values.{FactorValues}
use Rattle.scr_tables.specs.Names.{same_name}
use Rattle.scr_sum_tree.specs.Blocks.{HasEachOnce, blocks_at, is_block}
use Rattle.scr_sum_tree.specs.declared.blocks.Level.{Level}
use Rattle.scr_sum_tree.proofs.Partition.{is_block-numbered}
use Rattle.scr_sheet.specs.Members.{edit_name, is_member}
use Rattle.scr_sheet.specs.Records.{applied}
use Rattle.scr_sheet.specs.declared.edit.Edit.{Edit}
use Rattle.scr_block_graph.specs.Graph.{IsRoll, Rolled, block_point, member_point, reads, roll_in, tops_of}
use Rattle.scr_block_graph.specs.Sums.{roll_of}
use Rattle.scr_block_graph.specs.Touched.{IsTouchedIn, applied_in}
use Rattle.scr_block_graph.specs.Turns.{changed_blocks, changed_by, count_after, keeps_tops, step_of, turn_of}
use Rattle.scr_block_graph.specs.declared.point.Block.{Block}
use Rattle.scr_block_graph.specs.declared.point.Point.TheVariants as points
use Rattle.scr_block_graph.specs.declared.sum.Sum.{Sum}
use Rattle.scr_block_graph.specs.declared.turns.Step.{Step}
use Rattle.scr_block_graph.proofs.Apart.{points-apart}
use Rattle.scr_block_graph.proofs.Changed.{block-begins, block-changed, block-ends}
use Rattle.scr_block_graph.proofs.Steps.{changed-once, steps-length, steps-told, steps-tops}

-- ---- all Blocks of a level

numbers-in : (n i : ℕ) → Contains (range_with_len 0 n) i ↔ (i < n)
numbers-in n i = (
  λ h. omega (arith, h.1, h.2, length-range_with_len 0 n, get_or-range_with_len 0 n h.0 i (omega (arith, h.1, length-range_with_len 0 n))),
  λ inside. (i, omega (arith, inside, length-range_with_len 0 n), get_or-range_with_len 0 n i i inside ∙ (omega arith)),
)

numbers-once : (n : ℕ) → HasEachOnce (range_with_len 0 n)
numbers-once n j k before inside same =
    let within : k < n = omega (arith, inside, length-range_with_len 0 n) in
    let at : get_or (range_with_len 0 n) k j ≡ j =
    get_or_from_slice_get (range_with_len 0 n) k j j
    (sym same ∙ slice_get-get_or (range_with_len 0 n) j j (omega (arith, before, inside)) ∙ ap Some (get_or-range_with_len 0 n j j (omega (arith, before, within)) ∙ (omega arith))) in
    omega (arith, before, at, get_or-range_with_len 0 n k j within)

pub blocks-in : (n : ℕ) (level : Level) (i : ℕ) → Contains (range_with_len 0 (blocks_at n level)) i ↔ (is_block n level i ≡ true)
blocks-in n level i = (
  λ h. is_block-numbered n level i ∙ (Decides-ltb i (blocks_at n level)).1 ((numbers-in (blocks_at n level) i).0 h),
  λ t. (numbers-in (blocks_at n level) i).1 ((Decides-ltb i (blocks_at n level)).0 (sym (is_block-numbered n level i) ∙ t)),
)

neither : (a b x y : Bool) → a ≡ false → b ≡ false → IsTrue ((a && x) || (b && y)) → ⊥
neither false false x y r s h = absurd (cc)
neither true b x y r s h = absurd (cc)
neither false true x y r s h = absurd (cc)

module _ (edit : Edit) (book : Rolled) (sum : Sum) where
  abbrev name : List ℕ
  name = edit_name edit

  abbrev roll : List (List ℕ)
  roll = roll_in book sum

  abbrev was : Bool
  was = is_member (roll_of sum) name book.sheet

  abbrev is : Bool
  is = is_member (roll_of sum) name (applied edit book.sheet)

  abbrev step : Step
  step = step_of was is (position_or_len (same_name name) roll)

  abbrev after : Rolled
  after = applied_in edit book

  abbrev block-at : Level → ℕ → Block
  block-at level i = record { sum = sum; level = level; index = i }

  module _ (own : IsRoll book (roll_of sum)) where
    pub length-after : length (roll_in after sum) ≡ count_after (length roll) step
    length-after =
        steps-length (member_point sum) (block_point sum) (points-apart sum) roll own.once name was is
        (own.members name)

    pub tops-stay : Decides (keeps_tops (turn_of edit book sum)) (tops_of book (Some sum) ≡ tops_of after (Some sum))
    tops-stay =
        steps-tops (member_point sum) (block_point sum) (points-apart sum) roll own.once name was is
        (own.members name)

    pub turned-told : (factors : FactorValues) (level : Level) (i : ℕ)
        → Contains (changed_blocks (turn_of edit book sum) level) i ↔ IsTouchedIn factors book edit (points.Block (block-at level i))
    turned-told factors level i = by (reads book.sheet sum) refl (reads after.sheet sum) refl
      where
        by : (s : Bool) → reads book.sheet sum ≡ s → (t : Bool) → reads after.sheet sum ≡ t
            → Contains (changed_by s t (length roll) step level) i ↔ IsTouchedIn factors book edit (points.Block (block-at level i))
        by true e true d =
            let changed = block-changed factors book after (block-at level i) e d in
            let told = steps-told (member_point sum) (block_point sum) (points-apart sum) roll own.once name was is
            (own.members name) level i in
            ((λ h. changed.1 (told.0 h)), (λ h. told.1 (changed.0 h)))
        by true e false d =
            let changed = block-ends factors book after (block-at level i) e d in
            let listed = blocks-in (length roll) level i in
            ((λ h. changed.1 (listed.0 h)), (λ h. listed.1 (changed.0 h)))
        by false e true d =
            let changed = block-begins factors book after (block-at level i) e d in
            let listed = blocks-in (count_after (length roll) step) level i in
            let same : is_block (length (roll_in after sum)) level i ≡ is_block (count_after (length roll) step) level i =
            ap (λ n. is_block n level i) length-after in
            ((λ h. changed.1 (same ∙ listed.0 h)), (λ h. listed.1 (sym same ∙ changed.0 h)))
        by false e false d = (
          λ h. absurd (omega (arith, h.1)),
          λ h. absurd (neither (reads book.sheet sum) (reads after.sheet sum) (is_block (length roll) level i)
              (is_block (length (roll_in after sum)) level i) e d h.live),
        )

  pub turned-once : (level : Level) → HasEachOnce (changed_blocks (turn_of edit book sum) level)
  turned-once level = by (reads book.sheet sum) (reads after.sheet sum)
    where
      by : (s t : Bool) → HasEachOnce (changed_by s t (length roll) step level)
      by true true = changed-once (length roll) was is (position_or_len (same_name name) roll) level
      by true false = numbers-once (blocks_at (length roll) level)
      by false true = numbers-once (blocks_at (count_after (length roll) step) level)
      by false false = λ j k before inside same. omega (arith, inside)
