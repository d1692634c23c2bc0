use Rattle.std.proofs.Common.{◌≡◌, ◌+◌, length, eqb, refl, sym, ap, ◌∙◌, arith}
use Rattle.std.specs.Prelude.{if◌then◌else◌}
use Rattle.scr_member_lists.specs.Seatings.{NOWHERE, roll_in, seat_at}
use Rattle.scr_book.proofs.RollGrowth.{kept-same, roomy-securities}
use Rattle.scr_book.proofs.RollPrepared.{empty-of, payer-few, payer-inside, payer-within, prepared-nobody, prepared-payments}
use Rattle.scr_book.proofs.rolls.Rolls.of_payments.Goals as goal

pub returns-in_default-clause-prepared : goal.returns-in_default-clause-prepared
returns-in_default-clause-prepared c = prepared-nobody c.args.sheet.now c.requires.valid c.args.self.now c.requires.rolls c.args.name.now c.args.flows.now (sym c.in_default.ensures.there)

pub returns-then-is_empty-clause-prepared : goal.returns-then-is_empty-clause-prepared
returns-then-is_empty-clause-prepared c =
    prepared-payments c.args.sheet.now c.requires.valid c.args.self.now c.requires.rolls c.in-Some.place c.args.name.now c.in-Some.ensures.place c.args.flows.now c.args.self.now (kept-same c.args.sheet.now c.args.self.now c.requires.rolls) NOWHERE
    (ap (λ b. if b then NOWHERE else roll_in 3 (seat_at c.in-Some.place c.args.self.now.securities.seats) + 1)
    (c.if-is_empty.ensures ∙ ap (λ l. eqb (length l) 0) c.as_slice.ensures ∙ empty-of c.args.flows.now))
    (λ some. absurd (some refl))

pub seats-requires : goal.seats-requires
seats-requires c =
    (omega arith, payer-inside c.args.sheet.now c.requires.valid c.args.self.now c.requires.rolls c.in-Some.place c.args.name.now c.in-Some.ensures.place c.args.flows.now)

pub overflow_add-number : goal.overflow_add-number
overflow_add-number c =
    let small = payer-few c.args.sheet.now c.requires.valid c.args.self.now c.requires.rolls c.in-Some.place c.args.name.now c.in-Some.ensures.place c.args.flows.now in
    let number : c.roll-number.result ≡ roll_in 3 (seat_at c.in-Some.place c.args.self.now.securities.seats) = c.roll-number.ensures ∙ ap (roll_in 3) c.seats.ensures in
    omega (arith, small, number)

pub reserve-requires : goal.reserve-requires
reserve-requires c = (
  omega arith,
  λ some.
      let within = payer-within c.args.sheet.now c.requires.valid c.args.self.now c.requires.rolls c.in-Some.place c.args.name.now c.in-Some.ensures.place c.args.flows.now in
      let number : c.roll-number.result ≡ roll_in 3 (seat_at c.in-Some.place c.args.self.now.securities.seats) = c.roll-number.ensures ∙ ap (roll_in 3) c.seats.ensures in
      omega (arith, within, number),
)

pub returns-in_err-reserve-clause-kept : goal.returns-in_err-reserve-clause-kept
returns-in_err-reserve-clause-kept c = roomy-securities c.args.sheet.now c.args.self.now c.requires.rolls c.reserve.new.self c.reserve.ensures.grows

pub returns-clause-kept : goal.returns-clause-kept
returns-clause-kept c = roomy-securities c.args.sheet.now c.args.self.now c.requires.rolls c.reserve.new.self c.reserve.ensures.grows

pub returns-clause-prepared : goal.returns-clause-prepared
returns-clause-prepared c =
    let kept = roomy-securities c.args.sheet.now c.args.self.now c.requires.rolls c.reserve.new.self c.reserve.ensures.grows in
    let number : c.roll-number.result ≡ roll_in 3 (seat_at c.in-Some.place c.reserve.new.self.seats) =
    c.roll-number.ensures ∙ ap (roll_in 3) (c.seats.ensures ∙ ap (seat_at c.in-Some.place) (sym c.reserve.ensures.grows.seats)) in
    prepared-payments c.args.sheet.now c.requires.valid _ kept.kept c.in-Some.place c.args.name.now c.in-Some.ensures.place c.args.flows.now c.args.self.now kept (c.roll-number.result + 1)
    (ap (λ n. n + 1) number
    ∙ ap (λ b. if b then NOWHERE else roll_in 3 (seat_at c.in-Some.place c.reserve.new.self.seats) + 1)
    (c.if-is_empty.ensures ∙ ap (λ l. eqb (length l) 0) c.as_slice.ensures ∙ empty-of c.args.flows.now))
    c.in_ok-reserve.ensures.ok
