-- Each seat is told in 32 bits.
use Rattle.std.proofs.Common.{rules}
use Rattle.std.proofs.lemmas.Iterator.{YieldsList-from_map, YieldsList-from_slice}
use Rattle.std.proofs.lemmas.Iterator.Adapters.{items_from_extend}
use Rattle.scr_links.specs.Seats.{long_seat}
use Rattle.scr_links.proofs.seats.long_seats.Goals as goal

pub returns-clause-items : goal.returns-clause-items
returns-clause-items c =
    let told = items_from_extend c.extend.result c.extend.ensures.ran
    (YieldsList-from_map _ long_seat (YieldsList-from_slice c.args.seats.now cc) c.map.ensures.closure (λ x r q k. search rules)) in
    search rules
