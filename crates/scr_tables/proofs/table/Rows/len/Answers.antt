use Rattle.std.proofs.Common.{subst}
use Rattle.std.specs.List.{IsDistinct}
use Rattle.scr_tables.specs.Names.{same_name}
use Rattle.scr_tables.proofs.Entries.{keys-kept}
use Rattle.scr_tables.proofs.table.Rows.len.Goals as goal

pub returns-clause-apart : goal.returns-clause-apart
returns-clause-apart g c =
    subst (IsDistinct same_name)
    (keys-kept g.R.Row.name_of c.self.inside.map.entries c.args.self.now c.self.view_is c.self.invariant)
    c.len.ensures.unique
