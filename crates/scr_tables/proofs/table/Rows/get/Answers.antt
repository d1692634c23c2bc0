use Rattle.std.proofs.Common.{◌∙◌}
use Rattle.scr_tables.proofs.Entries.{lookup-kept}
use Rattle.scr_tables.proofs.table.Rows.get.Goals as goal

pub returns : goal.returns
returns g c = c.get.ensures.value ∙ lookup-kept g.R.Row.name_of c.self.inside.map.entries c.args.self.now c.self.view_is
    c.self.invariant c.args.name.now
