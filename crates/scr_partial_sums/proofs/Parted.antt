-- What the members of one part come to, while blocks are written.
use Rattle.std.proofs.Common.{◌≡◌, ℕ, ◌*◌, ◌≤◌, List, length, drop, slice_get, sum_by, unsigned_abs, arith}
use Rattle.std.specs.Prelude.{All}
use Rattle.std.proofs.lemmas.List.Elements.{All-drop, All-take}
use Rattle.std.proofs.lemmas.List.Sums.{sum_by-take-drop}
use Rattle.scr_sum_tree.specs.Blocks.{blocks_at, part}
use Rattle.scr_sum_tree.specs.declared.blocks.Level.{Level}
use Rattle.scr_sum_tree.proofs.PartLemmas.{part-map}
use Rattle.scr_num.specs.Rounding.{Ends}
use Rattle.scr_num.specs.Sizes.{AreTogether}
use Rattle.scr_partial_sums.specs.Figures.{ends_at, member_number, members_ends}
use Rattle.scr_partial_sums.specs.Written.{AreOffBlocks, IsPut}
use Rattle.scr_partial_sums.specs.declared.figure.Figure.{Figure}
use Rattle.scr_partial_sums.specs.declared.writing.Subtotals.{Subtotals}
use Rattle.scr_partial_sums.proofs.Members.{members-same}

-- a part is no larger than the list
part-le : {X : Type 0} (size : X → ℕ) (i : ℕ) (xs : List X) → sum_by size (part i xs) ≤ sum_by size xs
part-le size i xs = omega (arith, sum_by-take-drop size (drop (32 * i) xs) 32, sum_by-take-drop size xs (32 * i))

pub all-part : {X : Type 0} (P : X → Type 0) (i : ℕ) (xs : List X) → All P xs → All P (part i xs)
all-part P i xs all = All-take P 32 (drop (32 * i) xs) (All-drop P (32 * i) xs all)

pub together-part : (most : ℕ) (i : ℕ) (es : List Ends) → AreTogether most es → AreTogether most (part i es)
together-part most i es all = record {
  lows = let few = part-le (λ (e : Ends). unsigned_abs e.low) i es in let whole = all.lows in omega (arith, few, whole);
  highs = let few = part-le (λ (e : Ends). unsigned_abs e.high) i es in let whole = all.highs in omega (arith, few, whole);
}

pub members-part : (figures : List Figure) (family : ℕ) (firsts : List ℕ) (i : ℕ)
    → part i (members_ends figures family firsts) ≡ members_ends figures family (part i firsts)
members-part figures family firsts i = part-map (λ first. ends_at figures (member_number family first)) i firsts

-- the figures of members stay where none of them has the number of a block
module _ (s : Subtotals) (level : Level) (upto : ℕ) (worth : ℕ → Ends) (before now : List Figure) (put : IsPut s level upto worth before now)
    (family : ℕ) (firsts : List ℕ) (few : upto ≤ blocks_at (length firsts) level)
    (off : All (λ first. AreOffBlocks s (length firsts) (member_number family first)) firsts) where
  pub members-kept : All (λ first. slice_get now (member_number family first) ≡ slice_get before (member_number family first)) firsts
  members-kept k d low = put.kept.others _ (λ i less same. off k d low level i (omega (arith, less, few)) same)

  pub part-kept : (i : ℕ) → members_ends now family (part i firsts) ≡ members_ends before family (part i firsts)
  part-kept i = members-same before now family (part i firsts)
      (all-part (λ first. slice_get now (member_number family first) ≡ slice_get before (member_number family first)) i firsts members-kept)
