-- What is told of the cell at a place of the table.
use Rattle.std.proofs.Common.{◌≡◌, Option, None, Some, ap}
use Rattle.std.proofs.lemmas.Option.{none-some}
use Rattle.std.specs.Option.{option_map_or}
use Rattle.std.specs.Prelude.{option_map}

-- what is told of a part of what is there
pub of_part : {A B C : Type 0} (part : A → B) (tell : B → C) (nothing : C) (there : Option A) (b : B)
    → option_map part there ≡ Some b → option_map_or (λ (a : A). tell (part a)) there nothing ≡ tell b
of_part part tell nothing None b is = absurd (none-some b is)
of_part part tell nothing (Some a) b is =
    let same : part a ≡ b = cc in
    ap tell same
