-- What contracts see of lists and owners.
use Rattle.std.proofs.Common.{◌≡◌, ℕ, Some, None, length, refl}
use Rattle.std.proofs.lemmas.Option.{none-some, same_Some}
use Rattle.scr_sum_slots.specs.Parts.{Parted, list_at, room_in, size_of, slots_in}

pub slots-is : (key : ℕ) (parts : Parted) → slots_in key parts ≡ (list_at key parts.lists).items
slots-is key parts = refl

pub room-is : (key : ℕ) (parts : Parted) → room_in key parts ≡ (list_at key parts.lists).room
room-is key parts = refl

pub size-is : (parts : Parted) → size_of parts ≡ length parts.owner
size-is parts = refl

module _ {A : Type 0} {x y : A} where
  pub one-some : Some x ≡ Some y → x ≡ y
  one-some e = same_Some x y e

module _ {A : Type 0} {x : A} where
  pub no-some : None ≡ Some x → ⊥
  no-some e = none-some x e
