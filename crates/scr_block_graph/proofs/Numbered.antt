-- A Block has a number where its part has one at the place of its sum.
use Rattle.std.proofs.Common.{◌≡◌, ℕ, Option, Some, None, IfSome, refl, sym, ap, subst, ◌∙◌}
use Rattle.std.proofs.lemmas.Option.{same_Some}
use Rattle.scr_ids.specs.Ranges.{IsAt, Numbered}
use Rattle.scr_ids.specs.declared.table.Table.TheVariants as numbered_tables
use Rattle.scr_sum_slots.specs.Parts.{Parted, slot_of}
use Rattle.scr_sum_slots.specs.PartNumbers.{PartAt}
use Rattle.scr_sum_slots.specs.declared.parts.Part.{Part}
use Rattle.scr_sheet.specs.declared.roll.Roll.{Roll}
use Rattle.scr_block_graph.specs.BlockNumbers.{BlockAt, list_number, part_of, place_of}
use Rattle.scr_block_graph.specs.Sums.{roll_of}
use Rattle.scr_block_graph.specs.declared.point.Block.{Block}

pub if-some-map : {A : Type 0} (P Q : A → Type 0) → ((x : A) → P x → Q x) → (o : Option A) → IfSome o P → IfSome o Q
if-some-map P Q f (Some x) p = f x p
if-some-map P Q f None p = tt

module _ (numbers : Roll → Option ℕ) (parts : Parted) (places : Numbered) (block : Block) (roll : Roll) (own : roll ≡ roll_of block.sum) where
  named : (found : Option ℕ) → numbers roll ≡ found → numbers (roll_of block.sum) ≡ found
  named found e = ap numbers (sym own) ∙ e

  module _ (n : ℕ) (is : numbers roll ≡ Some n) where
    same-roll : (number : ℕ) (at : BlockAt numbers parts places block number) → at.roll ≡ n
    same-roll number at = same_Some at.roll n (sym at.numbered ∙ named (Some n) is)

    module _ (list : ℕ) (listed : list ≡ list_number roll n) (place : ℕ) (placed : place ≡ place_of block.sum) where
      abbrev part : Part
      part = record { list = list; level = block.level; index = block.index }

      same-part : (m : ℕ) → m ≡ n → part ≡ part_of m block
      same-part m e =
          ap (λ l. record { list = l; level = block.level; index = block.index })
          (listed ∙ ap (λ r. list_number r n) own ∙ ap (list_number (roll_of block.sum)) (sym e))

      pub to-block : (number : ℕ) → PartAt parts places part place number → BlockAt numbers parts places block number
      to-block number at = record {
        roll = n;
        numbered = named (Some n) is;
        slot = at.slot;
        part = subst (λ (p : Part). slot_of p parts ≡ Some at.slot) (same-part n refl) at.held;
        at = subst (λ (k : ℕ). IsAt places numbered_tables.Part at.slot k number) placed at.at;
      }

      pub from-block : (number : ℕ) → BlockAt numbers parts places block number → PartAt parts places part place number
      from-block number at = record {
        slot = at.slot;
        held = subst (λ (p : Part). slot_of p parts ≡ Some at.slot) (sym (same-part at.roll (same-roll number at))) at.part;
        at = subst (λ (k : ℕ). IsAt places numbered_tables.Part at.slot k number) (sym placed) at.at;
      }
