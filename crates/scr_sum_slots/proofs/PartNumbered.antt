-- What the number of a part tells.
use Rattle.std.proofs.Common.{◌≡◌, ◌≢◌, ◌⊎◌, inl, inr, ℕ, ◌^◌, ◌<◌, ◌≤◌, length, Some, None, sym, ap, ◌∙◌, arith}
use Rattle.std.proofs.lemmas.Bool.{cases_lt}
use Rattle.std.proofs.lemmas.List.{get_or_past}
use Rattle.std.proofs.lemmas.Option.{slice_get_within}
use Rattle.scr_sum_tree.specs.declared.blocks.Level.{Level}
use Rattle.scr_sum_tree.specs.declared.blocks.Level.TheVariants as levels
use Rattle.scr_ids.specs.Ranges.{IsApart, IsAt, IsOne, Numbered, count}
use Rattle.scr_ids.specs.declared.table.Table.{Table}
use Rattle.scr_ids.specs.declared.table.Table.TheVariants as tables
use Rattle.scr_sum_slots.specs.Parts.{AreOwn, NumberList, Parted, key_of, no_numbers, part_at, size_of, slot_of, slots_in}
use Rattle.scr_sum_slots.specs.PartNumbers.{PartAt}
use Rattle.scr_sum_slots.specs.declared.parts.Part.{Part}
use Rattle.scr_sum_slots.proofs.Views.{no-some, one-some}

-- ---- of a part

module _ (parts : Parted) (places : Numbered) (part : Part) (place number : ℕ) where
  pub no-slot : slot_of part parts ≡ None → PartAt parts places part place number → ⊥
  no-slot none at = no-some (sym none ∙ at.held)

  pub past-slots : (slot : ℕ) → slot_of part parts ≡ Some slot → count places tables.Part ≤ slot → PartAt parts places part place number → ⊥
  past-slots slot own past at = let same = one-some (sym own ∙ at.held) in let row = at.at.row in omega (arith, same, row, past)

-- ---- of a number

module _ (parts : Parted) (places : Numbered) (own : AreOwn parts) (apart : IsApart places) (number : ℕ) (table : Table) (row family : ℕ)
    (is : IsAt places table row family number) (part : Part) (place : ℕ) (at : PartAt parts places part place number) where
  one : IsOne table row family tables.Part at.slot place
  one = apart number table row family tables.Part at.slot place is at.at

  pub other-table : table ≢ tables.Part → ⊥
  other-table ne = ne one.tables

  pub past-size : size_of parts ≤ row → ⊥
  past-size past = let inside = own.within part at.slot at.held in let same = one.rows in omega (arith, past, inside, same)

  pub no-part : part_at row parts ≡ None → ⊥
  no-part none = no-some (sym none ∙ ap (λ slot. part_at slot parts) one.rows ∙ own.own part at.slot at.held)

-- ---- a list with parts has a small number

pub few-lists : (parts : Parted) → length parts.lists ≤ 2 ^ 32 → (part : Part) (slot : ℕ) → slot_of part parts ≡ Some slot → part.list < 2 ^ 31
few-lists parts few part slot is = by (cases_lt (key_of part.list part.level) (length parts.lists))
  where
    low : part.index < length (slots_in (key_of part.list part.level) parts)
    low = slice_get_within (slots_in (key_of part.list part.level) parts) part.index slot is

    small : (list : ℕ) (level : Level) → key_of list level < length parts.lists → list < 2 ^ 31
    small list levels.First inside = omega (arith, inside, few)
    small list levels.Second inside = omega (arith, inside, few)

    by : (key_of part.list part.level < length parts.lists) ⊎ (length parts.lists ≤ key_of part.list part.level) → part.list < 2 ^ 31
    by (inl inside) = small part.list part.level inside
    by (inr past) =
        let none : length (slots_in (key_of part.list part.level) parts) ≡ 0 =
        ap (λ (list : NumberList). length list.items) (get_or_past parts.lists (key_of part.list part.level) no_numbers past) in
        absurd (omega (arith, low, none))
