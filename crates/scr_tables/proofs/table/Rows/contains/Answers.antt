use Rattle.std.proofs.Common.{is_some, ap, ◌∙◌}
use Rattle.scr_tables.proofs.Entries.{lookup-kept}
use Rattle.scr_tables.proofs.table.Rows.contains.Goals as goal

pub returns : goal.returns
returns g c = c.contains_key.ensures ∙ ap is_some
    (lookup-kept g.R.Row.name_of c.self.inside.map.entries c.args.self.now c.self.view_is c.self.invariant
    c.args.name.now)
