use Rattle.std.proofs.Common.{◌≡◌, ℕ, ◌^◌, ◌<◌, Some, subst}
use Rattle.scr_sum_slots.specs.Parts.{AreOwn, Parted, slot_of}
use Rattle.scr_sum_slots.specs.Kept.{parted_of}
use Rattle.scr_sum_slots.specs.declared.parts.Part.{Part}
use Rattle.scr_sum_slots.proofs.Owners.{are-own}
use Rattle.scr_sum_slots.proofs.PartNumbered.{few-lists}
use Rattle.scr_sum_slots.proofs.parts.Parts.len.Goals as goal

pub returns-clause-own : goal.returns-clause-own
returns-clause-own c = subst AreOwn c.self.view_is (are-own (parted_of c.self.inside) c.self.invariant.slots)

pub returns-clause-lists : goal.returns-clause-lists
returns-clause-lists c =
    subst (λ (parts : Parted). (part : Part) (slot : ℕ) → slot_of part parts ≡ Some slot → part.list < 2 ^ 31) c.self.view_is
    (few-lists (parted_of c.self.inside) c.self.invariant.lists)
