use Rattle.std.proofs.Common.{◌≡◌, ℕ, true, false, Result, Ok, Err, OnOk, List, length, insert, is_some, sym, ap, ◌∙◌, arith}
use Rattle.std.specs.Map.{keys_of, values_of, lookup}
use Rattle.std.specs.List.{position_or_len}
use Rattle.indexmap.specs.IndexMap.{insert_entry, move_index}
use Rattle.scr_tables.specs.Names.{same_name}
use Rattle.scr_tables.specs.ByName.{by_name}
use Rattle.scr_tables.specs.Tables.{has_row}
use Rattle.scr_tables.proofs.Entries.{lookup-by_name}
use Rattle.scr_tables.proofs.Moves.{put_at-kept, length-by_name}
use Rattle.scr_tables.proofs.table.Rows.put_at.Goals as goal

held : {A E P : Type 0} (r : Result A E) (a : A) → r ≡ Ok a → OnOk r P → P
held (Ok b) a is p = p
held (Err e) a is p = absurd (cc)

-- the rows, whether they moved or not
keyed : {Row : Type 0} (name_of : Row → List ℕ) (entries moved : List (List ℕ × Row)) (now : List Row) → values_of entries ≡ now → entries ≡ by_name name_of (values_of entries) → moved ≡ entries → moved ≡ by_name name_of now
keyed name_of entries moved now view kept same = same ∙ kept ∙ ap (by_name name_of) view

put : {Row : Type 0} (name_of : Row → List ℕ) (entries moved after : List (List ℕ × Row)) (now : List Row) (k : ℕ) (row : Row) (name : List ℕ) → values_of entries ≡ now → entries ≡ by_name name_of (values_of entries) → moved ≡ entries
    → has_row name_of (name_of row) now ≡ false → name ≡ name_of row → after ≡ move_index (insert_entry same_name moved name row) (position_or_len (same_name name) (keys_of moved)) k
    → (after ≡ by_name name_of (values_of after)) × (values_of after ≡ insert now k row)
put name_of entries moved after now k row name view kept same new named is = put_at-kept name_of moved after now k row name (keyed name_of entries moved now view kept same) new named is

pub make_room-requires-clause-fits : goal.make_room-requires-clause-fits
make_room-requires-clause-fits g c =
    let rows = ap length (c.self.invariant ∙ ap (by_name g.R.Row.name_of) c.self.view_is) ∙ length-by_name g.R.Row.name_of c.args.self.now in
    omega (arith, rows, c.requires.fits)

pub shift_insert-requires-clause-in_bounds : goal.shift_insert-requires-clause-in_bounds
shift_insert-requires-clause-in_bounds g c =
    let rows = ap length (keyed g.R.Row.name_of c.self.inside.map.entries c.make_room.new.map.entries c.args.self.now c.self.view_is c.self.invariant c.make_room.ensures.entries) ∙ length-by_name g.R.Row.name_of c.args.self.now in
    omega (arith, rows, c.requires.place)

pub shift_insert-requires-clause-below_len : goal.shift_insert-requires-clause-below_len
shift_insert-requires-clause-below_len g c has =
    let rows = keyed g.R.Row.name_of c.self.inside.map.entries c.make_room.new.map.entries c.args.self.now c.self.view_is c.self.invariant c.make_room.ensures.entries in
    let found = ap is_some ((λ i. lookup (same_name (c.name.ensures i)) (rows i)) ∙ lookup-by_name g.R.Row.name_of (g.R.Row.name_of c.args.row) c.args.self.now) in
    let never : true ≡ false = sym has ∙ found ∙ c.requires.new_name in
    absurd (cc)

pub invariant_of-self : goal.invariant_of-self
invariant_of-self g c =
    (put g.R.Row.name_of c.self.inside.map.entries c.make_room.new.map.entries c.shift_insert.new.self.entries c.args.self.now c.args.k c.args.row c.name.result c.self.view_is c.self.invariant c.make_room.ensures.entries
    c.requires.new_name c.name.ensures (held c.shift_insert.result c.unwrap.result c.unwrap.ensures c.shift_insert.ensures.entries)).0

pub returns : goal.returns
returns g c =
    (put g.R.Row.name_of c.self.inside.map.entries c.make_room.new.map.entries c.shift_insert.new.self.entries c.args.self.now c.args.k c.args.row c.name.result c.self.view_is c.self.invariant c.make_room.ensures.entries
    c.requires.new_name c.name.ensures (held c.shift_insert.result c.unwrap.result c.unwrap.ensures c.shift_insert.ensures.entries)).1
