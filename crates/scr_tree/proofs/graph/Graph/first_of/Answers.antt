use Rattle.std.proofs.Common.{refl, arith}
use Rattle.scr_tree.proofs.graph.Graph.first_of.Goals as goal

pub returns-in-Some : goal.returns-in-Some
returns-in-Some c = λ table k j at.
    let place = c.in-Some.place in
    let one = c.len-size.ensures.apart c.args.number place.table place.row place.family table k j c.in-Some.ensures.there at in
    let own = c.in-Some.ensures.there.is in
    let same = one.families in
    omega (arith, own, same)

pub returns-in-None : goal.returns-in-None
returns-in-None c = λ table k j at. absurd (c.in-None.ensures.absent refl table k j at)
