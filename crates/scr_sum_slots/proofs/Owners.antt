-- The part that has a slot, told by where the slot stands.
use Rattle.std.proofs.Common.{◌≡◌, ◌⊎◌, inl, inr, ℕ, ◌+◌, ◌-◌, ◌*◌, ◌/◌, ◌%◌, ◌<◌, ◌≤◌, Bool, true, false, length, Option, Some, None, slice_get, refl, sym, ap, subst, ◌∙◌, arith}
use Rattle.std.specs.Prelude.{◌==◌, if◌then◌else◌}
use Rattle.std.specs.Option.{option_and_then}
use Rattle.std.proofs.lemmas.Bool.{cases_Bool, cases_lt, eq-eqb, eqb-true, eqb-false, ne_eqb}
use Rattle.std.proofs.lemmas.Option.{get_or_from_slice_get, slice_get-get_or, slice_get_past, slice_get_within}
use Rattle.scr_sum_tree.specs.declared.blocks.Level.{Level}
use Rattle.scr_sum_tree.specs.declared.blocks.Level.TheVariants as levels
use Rattle.scr_sum_slots.specs.Parts.{AreOwn, Parted, key_of, owner_at, part_at, part_of, slot_of, slots_in}
use Rattle.scr_sum_slots.specs.Kept.{AreKept, IsHeld}
use Rattle.scr_sum_slots.specs.declared.parts.Owner.{Owner}
use Rattle.scr_sum_slots.specs.declared.parts.Part.{Part}
use Rattle.scr_sum_slots.proofs.Standing.{at-place}
use Rattle.scr_sum_slots.proofs.Views.{no-some, one-some, size-is}

abbrev level-at : Bool → Level
level-at t = if t then levels.First else levels.Second

abbrev leveled : ℕ → Level → ℕ → Option Part
leveled list level index = Some (record { list = list; level = level; index = index })

abbrev part-with : ℕ → Bool → ℕ → Option Part
part-with list t index = leveled list (level-at t) index

coded-some : (key index : ℕ) → (key ≡ 0 → ⊥) → part_of (at-place key index) ≡ part-with ((key - 1) / 2) ((key - 1) % 2 == 0) index
coded-some key index ne = ap (λ t. if t then None else part-with ((key - 1) / 2) ((key - 1) % 2 == 0) index) (ne_eqb key 0 ne)

-- the list of a part's slot leads back to the part
pub coded : (part : Part) → part_of (at-place (key_of part.list part.level) part.index) ≡ Some part
coded part = by part.level refl
  where
    by : (level : Level) → part.level ≡ level → part_of (at-place (key_of part.list part.level) part.index) ≡ Some part
    by levels.First e =
        let key : ℕ = 2 * part.list + 1 in
        ap (λ l. part_of (at-place (key_of part.list l) part.index)) e
        ∙ coded-some key part.index (λ z. omega (arith, z))
        ∙ ap (λ l. part-with l ((key - 1) % 2 == 0) part.index) (omega arith)
        ∙ ap (λ t. part-with part.list t part.index) (eq-eqb ((key - 1) % 2) 0 (omega arith))
        ∙ ap (λ (l : Level). leveled part.list l part.index) (sym e)
    by levels.Second e =
        let key : ℕ = 2 * part.list + 2 in
        ap (λ l. part_of (at-place (key_of part.list l) part.index)) e
        ∙ coded-some key part.index (λ z. omega (arith, z))
        ∙ ap (λ l. part-with l ((key - 1) % 2 == 0) part.index) (omega arith)
        ∙ ap (λ t. part-with part.list t part.index) (ne_eqb ((key - 1) % 2) 0 (λ z. omega (arith, z)))
        ∙ ap (λ (l : Level). leveled part.list l part.index) (sym e)

record IsOf (owner : Owner) (part : Part) : Type 0 where
  list : key_of part.list part.level ≡ owner.list
  index : part.index ≡ owner.index

decoded : (owner : Owner) (part : Part) → part_of owner ≡ Some part → IsOf owner part
decoded owner part is = by (cases_Bool (owner.list == 0))
  where
    by : (owner.list == 0 ≡ true) ⊎ (owner.list == 0 ≡ false) → IsOf owner part
    by (inl e) =
        let none : None ≡ Some part = ap (λ t. if t then None else part-with ((owner.list - 1) / 2) ((owner.list - 1) % 2 == 0) owner.index) (sym e) ∙ is in
        absurd (no-some none)
    by (inr e) = record {
      list = ap (λ (p : Part). key_of p.list p.level) (sym same) ∙ back (cases_Bool ((owner.list - 1) % 2 == 0));
      index = ap (λ (p : Part). p.index) (sym same);
    }
      where
        some : owner.list ≡ 0 → ⊥
        some = eqb-false owner.list 0 e

        same : record { list = (owner.list - 1) / 2; level = level-at ((owner.list - 1) % 2 == 0); index = owner.index } ≡ part
        same = one-some (sym (coded-some owner.list owner.index some) ∙ is)

        back : ((owner.list - 1) % 2 == 0 ≡ true) ⊎ ((owner.list - 1) % 2 == 0 ≡ false)
            → key_of ((owner.list - 1) / 2) (level-at ((owner.list - 1) % 2 == 0)) ≡ owner.list
        back (inl t) =
            let even = eqb-true ((owner.list - 1) % 2) 0 t in
            ap (λ b. key_of ((owner.list - 1) / 2) (level-at b)) t ∙ omega (arith, even, some)
        back (inr f) =
            let odd = eqb-false ((owner.list - 1) % 2) 0 f in
            ap (λ b. key_of ((owner.list - 1) / 2) (level-at b)) f ∙ omega (arith, odd, some)

module _ (parts : Parted) (kept : AreKept parts) where
  held-at : (part : Part) (slot : ℕ) → slot_of part parts ≡ Some slot → IsHeld parts.owner (key_of part.list part.level) part.index slot
  held-at part slot is =
      let key : ℕ = key_of part.list part.level in
      subst (IsHeld parts.owner key part.index) (get_or_from_slice_get (slots_in key parts) part.index slot 0 is)
      (kept.held key part.index (slice_get_within (slots_in key parts) part.index slot is))

  read : (slot : ℕ) → slot < length parts.owner → slice_get parts.owner slot ≡ Some (owner_at slot parts.owner)
  read slot low = slice_get-get_or parts.owner slot (at-place 0 0) low

  own-part : (part : Part) (slot : ℕ) → slot_of part parts ≡ Some slot → part_at slot parts ≡ Some part
  own-part part slot is =
      let held = held-at part slot is in
      ap (option_and_then part_of) (read slot held.within ∙ ap Some held.is) ∙ coded part

  back-part : (slot : ℕ) (part : Part) → part_at slot parts ≡ Some part → slot_of part parts ≡ Some slot
  back-part slot part is = by (cases_lt slot (length parts.owner))
    where
      by : (slot < length parts.owner) ⊎ (length parts.owner ≤ slot) → slot_of part parts ≡ Some slot
      by (inl low) =
          let owner : Owner = owner_at slot parts.owner in
          let of = decoded owner part (sym (ap (option_and_then part_of) (read slot low)) ∙ is) in
          let there = kept.listed slot low in
          ap (λ key. slice_get (slots_in key parts) part.index) of.list
          ∙ ap (slice_get (slots_in owner.list parts)) of.index
          ∙ slice_get-get_or (slots_in owner.list parts) owner.index 0 there.within ∙ ap Some there.is
      by (inr past) =
          let none : None ≡ Some part = sym (ap (option_and_then part_of) (slice_get_past parts.owner slot past)) ∙ is in
          absurd (no-some none)

  pub are-own : AreOwn parts
  are-own = record {
    own = own-part;
    back = back-part;
    within = λ part slot is. let held = held-at part slot is in let l = held.within in omega (arith, l, size-is parts);
  }
