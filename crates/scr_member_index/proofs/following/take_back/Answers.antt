use Rattle.scr_member_index.proofs.Turned.{can-regain, can-return, firsts-back, turned-still}
use Rattle.scr_member_index.proofs.following.take_back.Goals as goal

pub follow-requires-clause-own : goal.follow-requires-clause-own
follow-requires-clause-own c = let t = c.requires.2 in (t.can.seat_of, t.can.after, t.can.before)

pub follow-requires-clause-can : goal.follow-requires-clause-can
follow-requires-clause-can c = can-return c.args.change.now c.requires.0 c.args.firsts.now c.requires.1 c.args.parts.now c.requires.2

pub regain_all-requires : goal.regain_all-requires
regain_all-requires c =
    let move = c.args.change.now in
    let was = c.requires.0 in
    let old = c.requires.1 in
    let t = c.requires.2 in
    let now = c.args.firsts.now in
    let new = c.args.parts.now in (
      t.between,
      can-regain move was now old new t c.follow.new.self
          (firsts-back move was now old new t c.follow.new.self (c.follow.ensures.followed t.can.seat_of t.can.after t.can.before)),
    )

pub cut-requires : goal.cut-requires
cut-requires c = let t = c.requires.2 in (t.can.seat_of, t.can.after)

pub returns : goal.returns
returns c = λ was old t.
    let move = c.args.change.now in
    let now = c.args.firsts.now in
    let new = c.args.parts.now in
    let turned = c.follow.new.self in
    let same = firsts-back move was now old new t turned (c.follow.ensures.followed t.can.seat_of t.can.after t.can.before) in
    turned-still move was now old new t turned same c.regain_all.new.parts c.cut.new.parts
    (c.regain_all.ensures.slots t.between (can-regain move was now old new t turned same)) c.cut.ensures.cut c.cut.ensures.kept
