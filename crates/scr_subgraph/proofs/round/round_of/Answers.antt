use Rattle.std.proofs.Common.{◌≡◌, ap, subst, sym, length, arith}
use Rattle.std.specs.List.{AllByRecursion}
use Rattle.scr_subgraph.specs.Naming.{AreBelow}
use Rattle.scr_subgraph.proofs.Entering.{below-slots, length-slots}
use Rattle.scr_subgraph.proofs.round.round_of.Goals as goal

pub all_dependants-requires-clause-within : goal.all_dependants-requires-clause-within
all_dependants-requires-clause-within c =
    let dues = c.args.dues.now in
    let rows = c.in_ok-slots.ensures in
    let a = ap length rows in
    let d = length-slots dues dues in
    let count : length dues ≡ length c.in_ok-slots.slots = omega (arith, a, d) in
    subst (λ n. AllByRecursion (AreBelow n) c.in_ok-slots.slots) count
    (subst (AllByRecursion (AreBelow (length dues))) (sym rows) (below-slots dues dues))
