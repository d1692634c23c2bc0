use Rattle.std.proofs.Common.{Some, None, map, sym, ap, ◌∙◌}
use Rattle.std.specs.Prelude.{if◌then◌else◌}
use Rattle.scr_member_lists.specs.Seatings.{seats_of}
use Rattle.scr_member_lists.proofs.SeatLists.{named-at}
use Rattle.scr_book.proofs.RollLaws.{own-before}
use Rattle.scr_book.proofs.rolls.seats_at.Goals as goal

pub returns : goal.returns
returns g c =
    let named = named-at g.R.Row.name_of c.args.rows.now c.in_ok-place.place c.args.name.now c.in_ok-place.ensures.place in
    ap (λ s. Some s)
    (c.seats.ensures ∙ sym (own-before (map g.R.Row.name_of c.args.rows.now) c.args.seating.now c.requires c.len-count.ensures.apart c.in_ok-place.place named.0 c.args.name.now named.1))
    ∙ ap (λ b. if b then Some (seats_of (map g.R.Row.name_of c.args.rows.now) c.args.seating.now.seats c.args.name.now) else None) c.in_ok-place.ensures.there
