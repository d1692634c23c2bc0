use Rattle.std.proofs.Common.{ℕ, List, Option, sym, subst, arith}
use Rattle.scr_counters.specs.Users.{uses_one, nothing, Moves}
use Rattle.scr_counters.proofs.Uses.{written-more}
use Rattle.scr_counters.proofs.names.NameTally.put_back.Goals as goal

pub returns-in-Some-checked_add-clause-moves : goal.returns-in-Some-checked_add-clause-moves
returns-in-Some-checked_add-clause-moves c =
    let more = c.in-Some-checked_add.ensures.1 in
    subst (λ (name : Option (List ℕ)). Moves nothing (uses_one name) c.args.self.now c.rewrite.new.self) (sym c.in-Some.is)
    (written-more c.in-Some.name c.in-Some-checked_add.users c.args.self.now c.rewrite.new.self c.rewrite.ensures.written (omega (arith, more, c.users.ensures)))
