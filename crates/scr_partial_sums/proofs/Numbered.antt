-- Each block has a number of its own.
use Rattle.std.proofs.Common.{◌≡◌, ℕ, ◌<◌, Some, refl, sym, ap, ◌∙◌, subst, arith}
use Rattle.std.proofs.lemmas.Option.{slice_get-get_or, same_Some}
use Rattle.scr_sum_tree.specs.Blocks.{blocks_at}
use Rattle.scr_sum_tree.specs.declared.blocks.Level.{Level}
use Rattle.scr_ids.specs.Ranges.{IsAt, IsOne}
use Rattle.scr_ids.specs.declared.table.Table.TheVariants as tables
use Rattle.scr_sum_slots.specs.Parts.{key_of, part_at, slot_at, slot_of, slots_of}
use Rattle.scr_sum_slots.specs.declared.parts.Part.{Part}
use Rattle.scr_partial_sums.specs.Written.{AreNumbered, number_of}
use Rattle.scr_partial_sums.specs.declared.writing.Subtotals.{Subtotals}

abbrev pub part_in : Subtotals → Level → ℕ → Part
part_in s level i = record { list = s.list; level = level; index = i }

module _ (s : Subtotals) (members : ℕ) (numbered : AreNumbered s members) where
  pub slot-there : (level : Level) (i : ℕ) → i < blocks_at members level
      → slot_of (part_in s level i) s.parts.now ≡ Some (slot_at (key_of s.list level) i s.parts.now)
  slot-there level i there =
      let many = numbered.parts level in
      slice_get-get_or (slots_of s.list level s.parts.now) i 0 (omega (arith, many, there))

  pub slot-is : (level : Level) (i slot : ℕ) → i < blocks_at members level → slot_of (part_in s level i) s.parts.now ≡ Some slot
      → slot ≡ slot_at (key_of s.list level) i s.parts.now
  slot-is level i slot there is = same_Some slot (slot_at (key_of s.list level) i s.parts.now) (sym is ∙ slot-there level i there)

  pub number-at : (level : Level) (i : ℕ) → i < blocks_at members level
      → IsAt s.places.now tables.Part (slot_at (key_of s.list level) i s.parts.now) s.own (number_of s level i)
  number-at level i there = record {
    row = numbered.rows (part_in s level i) (slot_at (key_of s.list level) i s.parts.now) (slot-there level i there);
    family = numbered.own;
    is = refl;
  }

  pub number-within : (level : Level) (i : ℕ) → i < blocks_at members level → number_of s level i < s.places.now.size
  number-within level i there = numbered.within (number_of s level i) tables.Part (slot_at (key_of s.list level) i s.parts.now) s.own (number-at level i there)

  pub number-apart : (level other : Level) (i j : ℕ) → i < blocks_at members level → j < blocks_at members other
      → number_of s level i ≡ number_of s other j → (level ≡ other) × (i ≡ j)
  number-apart level other i j here there same = (ap (λ (p : Part). p.level) parts, ap (λ (p : Part). p.index) parts)
    where
      slot : ℕ
      slot = slot_at (key_of s.list level) i s.parts.now

      slot' : ℕ
      slot' = slot_at (key_of s.list other) j s.parts.now

      one : IsOne tables.Part slot s.own tables.Part slot' s.own
      one = numbered.apart (number_of s level i) tables.Part slot s.own tables.Part slot' s.own (number-at level i here)
          (subst (λ n. IsAt s.places.now tables.Part slot' s.own n) (sym same) (number-at other j there))

      parts : part_in s level i ≡ part_in s other j
      parts = same_Some (part_in s level i) (part_in s other j) (sym (numbered.slots.own (part_in s level i) slot (slot-there level i here))
          ∙ ap (λ k. part_at k s.parts.now) one.rows
          ∙ numbered.slots.own (part_in s other j) slot' (slot-there other j there))
