use Rattle.std.proofs.Common.{Option, ap, ◌∙◌}
use Rattle.std.specs.Option.{option_map_or}
use Rattle.scr_counters.specs.declared.names.Used.{Used}
use Rattle.scr_counters.specs.Users.{users_under}
use Rattle.scr_counters.proofs.names.NameTally.users.Goals as goal

pub returns-in-Some : goal.returns-in-Some
unfolding users_under
returns-in-Some c = ap (λ (o : Option Used). option_map_or (λ u. u.users) o 0) c.in-Some.ensures ∙ ap (users_under c.args.name.now) c.self.view_is

pub returns-in-None : goal.returns-in-None
unfolding users_under
returns-in-None c = ap (λ (o : Option Used). option_map_or (λ u. u.users) o 0) c.in-None.ensures ∙ ap (users_under c.args.name.now) c.self.view_is
