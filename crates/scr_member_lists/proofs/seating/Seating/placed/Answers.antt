use Rattle.std.proofs.Common.{◌≡◌, IfSome, Some, length, slice_get, ap, subst, arith}
use Rattle.std.specs.Option.{option_map}
use Rattle.std.proofs.lemmas.List.{length-map}
use Rattle.scr_member_lists.specs.Seatings.{Seated}
use Rattle.scr_member_lists.proofs.SeatComings.{awaits-none, comes, there-seats}
use Rattle.scr_member_lists.proofs.SeatLists.{named-at}
use Rattle.scr_member_lists.proofs.seating.Seating.placed.Goals as goal

pub returns-then-count-len-clause-name : goal.returns-then-count-len-clause-name
returns-then-count-len-clause-name g c =
    let same : c.self.inside.seats.items ≡ c.args.self.now.seats = ap (λ (s : Seated). s.seats) c.self.view_is in
    let is : c.len-count.result ≡ length c.args.self.now.seats = omega (arith, c.len-count.ensures, c.self.inside.seats.ok.0, ap length same) in
    (comes g.R.Row.name_of c.args.name.now c.args.rows.now c.args.self.now c.requires.seated c.len-count.result c.len.result is c.len.ensures.count
    (omega (arith, c.if-count-len.true)) c.enter.new.self c.enter.ensures.rolls c.enter.ensures.seats).1

pub returns-then-count-len-clause-seated : goal.returns-then-count-len-clause-seated
returns-then-count-len-clause-seated g c =
    let same : c.self.inside.seats.items ≡ c.args.self.now.seats = ap (λ (s : Seated). s.seats) c.self.view_is in
    let is : c.len-count.result ≡ length c.args.self.now.seats = omega (arith, c.len-count.ensures, c.self.inside.seats.ok.0, ap length same) in
    (comes g.R.Row.name_of c.args.name.now c.args.rows.now c.args.self.now c.requires.seated c.len-count.result c.len.result is c.len.ensures.count
    (omega (arith, c.if-count-len.true)) c.enter.new.self c.enter.ensures.rolls c.enter.ensures.seats).0

pub returns-then-count-len-clause-seats : goal.returns-then-count-len-clause-seats
returns-then-count-len-clause-seats g c =
    let same : c.self.inside.seats.items ≡ c.args.self.now.seats = ap (λ (s : Seated). s.seats) c.self.view_is in
    let is : c.len-count.result ≡ length c.args.self.now.seats = omega (arith, c.len-count.ensures, c.self.inside.seats.ok.0, ap length same) in
    (comes g.R.Row.name_of c.args.name.now c.args.rows.now c.args.self.now c.requires.seated c.len-count.result c.len.result is c.len.ensures.count
    (omega (arith, c.if-count-len.true)) c.enter.new.self c.enter.ensures.rolls c.enter.ensures.seats).2

pub returns-clause-place : goal.returns-clause-place
returns-clause-place g c =
    let at : option_map g.R.Row.name_of (slice_get c.args.rows.now c.unwrap.result) ≡ Some c.args.name.now =
    subst (λ found. IfSome found (λ k. option_map g.R.Row.name_of (slice_get c.args.rows.now k) ≡ Some c.args.name.now)) c.unwrap.ensures c.place.ensures.place in
    let named = named-at g.R.Row.name_of c.args.rows.now c.unwrap.result c.args.name.now at in
    omega (arith, named.0, length-map c.args.rows.now g.R.Row.name_of)

pub returns-clause-name : goal.returns-clause-name
returns-clause-name g c =
    let at : option_map g.R.Row.name_of (slice_get c.args.rows.now c.unwrap.result) ≡ Some c.args.name.now =
    subst (λ found. IfSome found (λ k. option_map g.R.Row.name_of (slice_get c.args.rows.now k) ≡ Some c.args.name.now)) c.unwrap.ensures c.place.ensures.place in
    (named-at g.R.Row.name_of c.args.rows.now c.unwrap.result c.args.name.now at).1

pub returns-clause-seated : goal.returns-clause-seated
returns-clause-seated g c =
    let same : c.self.inside.seats.items ≡ c.args.self.now.seats = ap (λ (s : Seated). s.seats) c.self.view_is in
    let is : c.len-count.result ≡ length c.args.self.now.seats = omega (arith, c.len-count.ensures, c.self.inside.seats.ok.0, ap length same) in
    awaits-none g.R.Row.name_of c.args.name.now c.args.rows.now c.args.self.now c.requires.seated (omega (arith, is, c.if-count-len.false, c.len.ensures.count))

pub returns-clause-seats : goal.returns-clause-seats
returns-clause-seats g c =
    let same : c.self.inside.seats.items ≡ c.args.self.now.seats = ap (λ (s : Seated). s.seats) c.self.view_is in
    let is : c.len-count.result ≡ length c.args.self.now.seats = omega (arith, c.len-count.ensures, c.self.inside.seats.ok.0, ap length same) in
    let at : option_map g.R.Row.name_of (slice_get c.args.rows.now c.unwrap.result) ≡ Some c.args.name.now =
    subst (λ found. IfSome found (λ k. option_map g.R.Row.name_of (slice_get c.args.rows.now k) ≡ Some c.args.name.now)) c.unwrap.ensures c.place.ensures.place in
    there-seats g.R.Row.name_of c.args.name.now c.args.rows.now c.args.self.now
    (awaits-none g.R.Row.name_of c.args.name.now c.args.rows.now c.args.self.now c.requires.seated (omega (arith, is, c.if-count-len.false, c.len.ensures.count)))
    c.len.ensures.apart c.unwrap.result at
