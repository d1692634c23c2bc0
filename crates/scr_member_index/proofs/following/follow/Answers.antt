use Rattle.scr_member_index.proofs.RowMoves.{beside-was, extended-was, followed-was, others-moved, parts-moved}
use Rattle.scr_member_index.proofs.following.follow.Goals as goal

pub returns-clause-ok : goal.returns-clause-ok
returns-clause-ok c =
    let move = c.args.change.now in
    let was = c.args.firsts.now in
    let old = c.args.parts.now in
    let can = c.requires in
    let ready = c.make_room.new.self in
    let still = c.make_room.ensures.still in
    let followed = c.follow.ensures.followed can.seat_of can.before can.after in
    record {
      firsts = λ seat_of one two. followed-was move was old can ready still seat_of c.follow.new.self (c.follow.ensures.followed seat_of one two);
      parts = parts-moved move was old can ready still c.follow.new.self followed c.extend.new.parts c.cut.new.parts c.in_ok-extend.ensures.ok c.cut.ensures.cut;
      others = others-moved move was old can ready still c.follow.new.self followed c.extend.new.parts c.cut.new.parts c.in_ok-extend.ensures.ok c.cut.ensures.cut;
    }

pub returns-clause-back : goal.returns-clause-back
returns-clause-back c =
    let move = c.args.change.now in
    let was = c.args.firsts.now in
    let old = c.args.parts.now in
    let can = c.requires in
    let ready = c.make_room.new.self in
    let still = c.make_room.ensures.still in
    record {
      can = can;
      moved = returns-clause-ok c;
      between = c.extend.new.parts;
      extended = extended-was move was old can ready still c.extend.new.parts c.in_ok-extend.ensures.ok;
      kept = c.extend.ensures.kept;
      lost = c.cut.ensures.lost;
      room = c.cut.ensures.room;
      beside = beside-was move was old can ready still c.make_room.ensures.room c.follow.new.self c.follow.ensures.room;
    }
