-- What a record touches in the graph of a book it touches in that of the balance sheet: a figure itself, and of a Block each reader of its sum.
use Rattle.std.proofs.Common.{◌≡◌, inl, inr, Bool, ◌&&◌, ◌||◌, List, Option, Some, None, is_some, length, refl, sym, ap, ap₂, ◌∙◌, ℕ}
use Rattle.scr_sum_tree.specs.Blocks.{is_block}
use Rattle.scr_factors.specs.Values.{FactorValues}
use Rattle.scr_sheet.specs.declared.{edit.Edit.Edit, sheet.BalanceSheet.BalanceSheet}
use Rattle.scr_nodes.specs.Changed.{IsChanged, IsSame}
use Rattle.scr_nodes.specs.Live.{is_live}
use Rattle.scr_nodes.specs.declared.node.Node.{Node}
use Rattle.scr_block_graph.specs.Changed.{IsSameIn}
use Rattle.scr_block_graph.specs.Graph.{Rolled, reads, roll_in, sources_in}
use Rattle.scr_block_graph.specs.Sums.{first_sum}
use Rattle.scr_block_graph.specs.Touched.{IsTouchedIn, applied_in}
use Rattle.scr_block_graph.specs.declared.point.Block.{Block}
use Rattle.scr_block_graph.specs.declared.point.Point.TheVariants as points
use Rattle.scr_block_graph.specs.declared.sum.Sum.{Sum}
use Rattle.scr_block_graph.proofs.Kept.{first-live, plain-in, plain-same, rolls-stay, second-live}
use Rattle.scr_block_graph.proofs.Listing.{one-reads}
use Rattle.scr_plan.specs.Ways.{AreKept}
use Rattle.scr_plan.proofs.Up.{Reads, reads-summed}

-- a figure that is reckoned from a sum lives where the sum is read
pub live-reads : (sheet : BalanceSheet) (node : Node) (sum : Sum) → Reads node sum → is_live sheet node ≡ reads sheet sum
live-reads sheet node sum (inl e) = first-live sheet node sum e
live-reads sheet node sum (inr e) = second-live sheet node sum e

module _ (factors : FactorValues) (edit : Edit) (book : Rolled) (kept : AreKept edit book) where
  abbrev later : Rolled
  later = applied_in edit book

  pub touched-figure : (node : Node) → IsTouchedIn factors book edit (points.Figure node) → IsChanged factors book.sheet later.sheet node
  touched-figure node touched = record { live = touched.live; changed = λ same. touched.changed (by (first_sum node) refl same) }
    where
      by : (o : Option Sum) → first_sum node ≡ o → IsSame factors book.sheet later.sheet node → IsSameIn factors book later (points.Figure node)
      by None none same = plain-in factors edit book node none same
      by (Some sum) first same = plain-same factors edit book kept.valid kept.valid_after node (ap is_some first) same

  pub touched-block : (block : Block) → IsTouchedIn factors book edit (points.Block block) → (node : Node) → Reads node block.sum
      → IsChanged factors book.sheet later.sheet node
  touched-block block touched node reader = record {
    live = ap₂ (λ (a b : Bool). a || b) (live-reads book.sheet node block.sum reader) (live-reads later.sheet node block.sum reader)
        ∙ one-reads (reads book.sheet block.sum) (reads later.sheet block.sum) (is_block (length (roll_in book block.sum)) block.level block.index)
        (is_block (length (roll_in later block.sum)) block.level block.index) touched.live;
    changed = λ same. touched.changed (block-same same);
  }
    where
      block-same : IsSame factors book.sheet later.sheet node → IsSameIn factors book later (points.Block block)
      block-same same =
          let roll = rolls-stay edit book kept.valid kept.valid_after node (reads-summed node block.sum reader) same.sources block.sum reader in
          let read : reads book.sheet block.sum ≡ reads later.sheet block.sum =
          sym (live-reads book.sheet node block.sum reader) ∙ same.live ∙ live-reads later.sheet node block.sum reader in
          record {
            live = ap₂ (λ (a : Bool) (names : List (List ℕ)). a && is_block (length names) block.level block.index) read roll;
            own = refl;
            sources = ap (λ (names : List (List ℕ)). sources_in (record { sheet = book.sheet; rolls = λ r. names }) (points.Block block)) roll;
          }
