use Rattle.std.proofs.Common.{◌≡◌, length, ap, arith}
use Rattle.scr_member_lists.specs.Seatings.{Seated}
use Rattle.scr_member_lists.proofs.SeatComings.{now-seated, regains-none, regains-one, rejoins-seated}
use Rattle.scr_member_lists.proofs.seating.Seating.rejoin_if_gone.Goals as goal

pub returns-then-len-clause-seated : goal.returns-then-len-clause-seated
returns-then-len-clause-seated g c =
    let same : c.self.inside.seats.items ≡ c.args.self.now.seats = ap (λ (s : Seated). s.seats) c.self.view_is in
    let is : c.len.result ≡ length c.args.self.now.seats = omega (arith, c.len.ensures, c.self.inside.seats.ok.0, ap length same) in
    rejoins-seated g.R.Row.name_of c.args._name.now c.args.rows.now c.args.self.now
    (regains-one g.R.Row.name_of c.args._name.now c.args.rows.now c.args.self.now c.requires.seated (omega (arith, is, c.if-len.true, c.len-2.ensures.count)))
    c.len-2.ensures.apart c.args.place c.requires.place c.rejoin.new.self c.rejoin.ensures.rolls c.rejoin.ensures.seats

pub returns-else-len-clause-seats : goal.returns-else-len-clause-seats
returns-else-len-clause-seats g c =
    let same : c.self.inside.seats.items ≡ c.args.self.now.seats = ap (λ (s : Seated). s.seats) c.self.view_is in
    let is : c.len.result ≡ length c.args.self.now.seats = omega (arith, c.len.ensures, c.self.inside.seats.ok.0, ap length same) in
    now-seated g.R.Row.name_of c.args._name.now c.args.rows.now c.args.self.now
    (regains-none g.R.Row.name_of c.args._name.now c.args.rows.now c.args.self.now c.requires.seated (omega (arith, is, c.if-len.false, c.len-2.ensures.count)))
    c.len-2.ensures.apart c.args.place c.requires.place
