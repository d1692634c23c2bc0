use Rattle.std.proofs.Common.{arith}
use Rattle.scr_tree.proofs.WholeNumbers.{whole-place}
use Rattle.scr_tree.proofs.graph.Numbers.place_at.Goals as goal

pub returns-then-number-stride-clause-there : goal.returns-then-number-stride-clause-there
returns-then-number-stride-clause-there c =
    let stride = c.stride.ensures in
    whole-place c.args.self.now.book.now.sheet c.args.self.now.places.now c.requires.numbered c.args.number
    (omega (arith, stride, c.if-number-stride.true))
