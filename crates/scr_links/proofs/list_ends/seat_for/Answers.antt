-- A block without a seat has the next one.
use Rattle.std.proofs.Common.{◌≡◌, ◌/◌, sym, arith, ◌∙◌}
use Rattle.scr_links.specs.Chains.{none}
use Rattle.scr_links.proofs.Blocks.{filled-long, longest, made, made-room}
use Rattle.scr_links.proofs.list_ends.seat_for.Goals as goal

pub write-requires : goal.write-requires
write-requires c =
    let nothing : c.at-seat.result ≡ none = omega arith in
    let is = sym c.at-seat.ensures ∙ nothing in
    let room = made-room c.args.seats.now.items c.args.ends.now.items c.requires.seated c.args.block is c.fill.new.self.items c.fill.ensures.filled in
    let long = filled-long c.args.seats.now.items c.args.ends.now.items c.requires.seated c.args.block is c.fill.new.self.items c.fill.ensures.filled in
    omega (arith, room, long, c.requires.ends, c.requires.all)

-- there are no more seats than there is room for, and the next is below their number
pub set-requires-clause-seat : goal.set-requires-clause-seat
set-requires-clause-seat c =
    let nothing : c.at-seat.result ≡ none = omega arith in
    let is = sym c.at-seat.ensures ∙ nothing in
    let room = made-room c.args.seats.now.items c.args.ends.now.items c.requires.seated c.args.block is c.fill.new.self.items c.fill.ensures.filled in
    let within = longest c.args.seats.now.items c.args.ends.now.items c.requires.seated c.args.block is c.fill.new.self.items c.fill.ensures.filled
    c.args.seats.now.room c.requires.seats c.requires.within in
    omega (arith, room, within, c.fill.ensures.room, c.len.ensures, c.args.ends.now.ok)

pub returns-clause-seated : goal.returns-clause-seated
returns-clause-seated c =
    let nothing : c.at-seat.result ≡ none = omega arith in
    let is = sym c.at-seat.ensures ∙ nothing in
    let counted = c.requires.seated.counted in
    (made c.args.seats.now.items c.args.ends.now.items c.requires.seated c.args.block is c.fill.new.self.items c.fill.ensures.filled
    (c.len.result / 4) (omega (arith, c.requires.few)) (omega (arith, c.requires.block))
    (omega (arith, counted, c.len.ensures, c.args.ends.now.ok))
    c.set.new.self.items c.set.ensures.items c.write.new.ends.items c.write.ensures.items).seated

pub returns-clause-same : goal.returns-clause-same
returns-clause-same c =
    let nothing : c.at-seat.result ≡ none = omega arith in
    let is = sym c.at-seat.ensures ∙ nothing in
    let counted = c.requires.seated.counted in
    (made c.args.seats.now.items c.args.ends.now.items c.requires.seated c.args.block is c.fill.new.self.items c.fill.ensures.filled
    (c.len.result / 4) (omega (arith, c.requires.few)) (omega (arith, c.requires.block))
    (omega (arith, counted, c.len.ensures, c.args.ends.now.ok))
    c.set.new.self.items c.set.ensures.items c.write.new.ends.items c.write.ensures.items).same
