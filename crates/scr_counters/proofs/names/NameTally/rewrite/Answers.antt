use Rattle.std.proofs.Common.{sym, ap, ◌∙◌, rules}
use Rattle.scr_tables.specs.Tables.{with_row}
use Rattle.scr_counters.specs.declared.names.Used.{Used}
use Rattle.scr_counters.specs.Users.{Tallied, used_name, came}
use Rattle.scr_counters.proofs.Uses.{written-users, changed-users}
use Rattle.scr_counters.proofs.names.NameTally.rewrite.Goals as goal

pub returns-clause-written : goal.returns-clause-written
returns-clause-written c =
    let new : Used = record { name = c.args.name; users = c.args.users } in
    written-users c.args.name c.args.users c.args.self.now _ (ap (λ (t : Tallied). t.is_lost) (sym c.self.view_is))
    (changed-users c.args.name c.args.users c.self.inside.used c.change.new.self _ (λ old new ran. search rules)
    (ap (came c.args.name) c.self.view_is ∙ c.requires) c.change.ensures
    ∙ ap (λ (t : Tallied). with_row used_name new t.used) c.self.view_is)
