use Rattle.std.proofs.Common.{ℕ, List, Option, sym, subst, arith}
use Rattle.scr_counters.specs.Users.{uses_one, nothing, Moves}
use Rattle.scr_counters.proofs.Uses.{written-less, came-used}
use Rattle.scr_counters.proofs.names.NameTally.take.Goals as goal

pub rewrite-requires : goal.rewrite-requires
rewrite-requires c =
    let some = c.in-Some-checked_sub.ensures.0 in
    came-used c.in-Some.name c.args.self.now (omega (arith, some, c.users.ensures))

pub returns-in-Some-checked_sub-clause-moves : goal.returns-in-Some-checked_sub-clause-moves
returns-in-Some-checked_sub-clause-moves c =
    let some = c.in-Some-checked_sub.ensures.0 in
    let less = c.in-Some-checked_sub.ensures.1 in
    subst (λ (name : Option (List ℕ)). Moves (uses_one name) nothing c.args.self.now c.rewrite.new.self) (sym c.in-Some.is)
    (written-less c.in-Some.name c.in-Some-checked_sub.users c.args.self.now c.rewrite.new.self c.rewrite.ensures.written (omega (arith, some, less, c.users.ensures)))
