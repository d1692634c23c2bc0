use Rattle.std.proofs.Common.{ap, arith}
use Rattle.scr_counters.specs.Users.{nothing, uses_one, uses_each}
use Rattle.scr_counters.proofs.Uses.{moves-both, moves-same}
use Rattle.scr_book.specs.Users.{of_name}
use Rattle.scr_book.proofs.users.Users.count_again.Goals as goal

pub returns-clause-names : goal.returns-clause-names
returns-clause-names c =
    moves-same _ _ nothing (λ name. of_name name c.args.uses) c.args.self.now.names c.put_back.new.self (λ n. let whole = ap (of_name n) c.uses.view_is in omega (arith, whole))
    (moves-both nothing (uses_each c.uses.inside.components.now) nothing (uses_one c.uses.inside.group) c.args.self.now.names c.put_back_each.new.self c.put_back.new.self c.put_back_each.ensures c.put_back.ensures.moves)
