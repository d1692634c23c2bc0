use Rattle.std.proofs.Common.{◌≡◌, Result, Ok, Err, OnOk, sym, ◌∙◌, refl}
use Rattle.std.specs.Map.{values_of}
use Rattle.scr_tables.proofs.Moves.{moved-kept}
use Rattle.scr_tables.proofs.room.make_room.Goals as goal

held : {A E P : Type 0} (r : Result A E) (a : A) → r ≡ Ok a → OnOk r P → P
held (Ok b) a is p = p
held (Err e) a is p = absurd (cc)

pub returns-then-len-capacity-clause-entries : goal.returns-then-len-capacity-clause-entries
returns-then-len-capacity-clause-entries g c =
    moved-kept g.R.Row.name_of c.args.map.now.entries c.room.inside.map.entries c.append.new.self.entries (values_of c.args.map.now.entries) refl c.requires.named c.len.ensures.unique c.room.invariant
    (held c.append.result c.unwrap.result c.unwrap.ensures c.append.ensures.entries)
    ∙ sym c.requires.named
