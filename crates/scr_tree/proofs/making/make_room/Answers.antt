use Rattle.std.proofs.Common.{◌≡◌, ◌<◌, All, max, ap, arith}
use Rattle.std.proofs.lemmas.List.Elements.{All-weaker}
use Rattle.scr_links.specs.Edges.{Linked, linked}
use Rattle.scr_tree.proofs.FirstRows.{on-ok}
use Rattle.scr_tree.proofs.LinkRoom.{room-edges, room-size}
use Rattle.scr_tree.proofs.making.make_room.Goals as goal

pub returns-clause-edges : goal.returns-clause-edges
returns-clause-edges c =
    room-edges c.reserve.result c.args.links.now c.reserve.new.self c.in_ok-more.more c.in-Some.size c.reserve.ensures.ok c.reserve.ensures.err

pub returns-clause-size : goal.returns-clause-size
returns-clause-size c = λ most above all small.
    room-size c.reserve.result c.args.links.now c.reserve.new.self c.in_ok-more.more c.in-Some.size c.reserve.ensures.ok c.reserve.ensures.err
    most (c.in-Some.ensures.least most above all) small

pub returns-clause-number : goal.returns-clause-number
returns-clause-number c =
    let links = c.args.links.now in
    on-ok (c.reserve.new.self ≡ linked links.edges (max links.spare c.in_ok-more.more) (max links.size c.in-Some.size))
    (c.args.number < c.reserve.new.self.size) c.reserve.result
    (λ is. let room = ap (λ (l : Linked). l.size) is in let above = c.in-Some.ensures.number in omega (arith, room, above)) c.reserve.ensures.ok

pub returns-clause-sources : goal.returns-clause-sources
returns-clause-sources c =
    let links = c.args.links.now in
    on-ok (c.reserve.new.self ≡ linked links.edges (max links.spare c.in_ok-more.more) (max links.size c.in-Some.size))
    (All (λ source. source < c.reserve.new.self.size) c.args.sources.now) c.reserve.result
    (λ is. All-weaker (λ source. source < c.in-Some.size) (λ source. source < c.reserve.new.self.size)
    (λ source below. let room = ap (λ (l : Linked). l.size) is in omega (arith, room, below)) c.args.sources.now c.in-Some.ensures.sources)
    c.reserve.ensures.ok

pub returns-clause-spare : goal.returns-clause-spare
returns-clause-spare c =
    let links = c.args.links.now in
    on-ok (c.reserve.new.self ≡ linked links.edges (max links.spare c.in_ok-more.more) (max links.size c.in-Some.size)) _ c.reserve.result
    (λ is. let room = ap (λ (l : Linked). l.spare) is in
    omega (arith, room, c.in_ok-more.ensures, c.spare.ensures.value)) c.reserve.ensures.ok
