use Rattle.std.proofs.Common.{Result, Ok, Err, OnErr, is_some, sym, ap, ◌∙◌}
use Rattle.indexmap.specs.IndexMap.{insert_entry}
use Rattle.std.specs.Map.{lookup}
use Rattle.scr_tables.specs.Names.{same_name}
use Rattle.scr_tables.proofs.Entries.{lookup-kept, put-kept}
use Rattle.scr_tables.proofs.table.Rows.insert.Goals as goal

pub invariant_of-self-2 : goal.invariant_of-self-2
invariant_of-self-2 g c =
    (put-kept g.R.Row.name_of c.self.inside.map.entries c.args.self.now c.self.view_is c.self.invariant c.args.row
    c.insert.new.self.entries
    (c.in_ok-insert.ensures.entries ∙ ap (λ n. insert_entry same_name c.self.inside.map.entries n c.args.row)
    c.name-name.ensures)).0

pub returns-clause-ok : goal.returns-clause-ok
returns-clause-ok g c =
    (put-kept g.R.Row.name_of c.self.inside.map.entries c.args.self.now c.self.view_is c.self.invariant c.args.row
    c.insert.new.self.entries
    (c.in_ok-insert.ensures.entries ∙ ap (λ n. insert_entry same_name c.self.inside.map.entries n c.args.row)
    c.name-name.ensures)).1

on_err : {A E P : Type 0} (r : Result A E) → P → OnErr r P
on_err (Ok a) p = tt
on_err (Err e) p = p

-- a row that was refused is new
pub returns-in_err-insert-clause-new_name : goal.returns-in_err-insert-clause-new_name
returns-in_err-insert-clause-new_name g c =
    on_err c.from_residual.result
    (ap is_some
    (sym (lookup-kept g.R.Row.name_of c.self.inside.map.entries c.args.self.now c.self.view_is c.self.invariant
    (g.R.Row.name_of c.args.row))
    ∙ ap (λ n. lookup (same_name n) c.self.inside.map.entries) (sym c.name-name.ensures)
    ∙ c.in_err-insert.ensures.absent))
