use Rattle.std.proofs.Common.{ℕ, List, Option, sym, subst, arith}
use Rattle.scr_counters.specs.Users.{uses_one, nothing, Moves}
use Rattle.scr_counters.proofs.Uses.{written-more}
use Rattle.scr_counters.proofs.names.NameTally.add.Goals as goal

pub returns-in-Some-checked_add : goal.returns-in-Some-checked_add
returns-in-Some-checked_add c =
    let more = c.in-Some-checked_add.ensures.1 in
    subst (λ (name : Option (List ℕ)). Moves nothing (uses_one name) c.args.self.now c.write.new.self) (sym c.in-Some.is)
    (written-more c.in-Some.name c.in-Some-checked_add.users c.args.self.now c.write.new.self c.write.ensures (omega (arith, more, c.users.ensures)))
