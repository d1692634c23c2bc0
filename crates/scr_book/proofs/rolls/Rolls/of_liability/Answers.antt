use Rattle.std.proofs.Common.{◌≢◌, ℕ, ◌<◌, List, length, sym, ap, subst, ◌∙◌, arith}
use Rattle.scr_member_lists.specs.Seatings.{NOWHERE, room_of, target}
use Rattle.scr_book.proofs.RollGrowth.{kept-then, numbered-lines, roomy-liabilities}
use Rattle.scr_book.proofs.RollPrepared.{liability-within, prepared-liability}
use Rattle.scr_book.proofs.rolls.Rolls.of_liability.Goals as goal

pub returns-in_err-lines-clause-kept : goal.returns-in_err-lines-clause-kept
returns-in_err-lines-clause-kept c = λ sheet h. numbered-lines sheet c.args.self.now h c.args.currency.now c.owned_number.new.seating c.owned_number.new.owners c.owned_number.ensures.gives

pub make_room-requires : goal.make_room-requires
make_room-requires c = (
  omega arith,
  λ seat some.
      let kept = numbered-lines c.requires.0 c.args.self.now c.requires.1 c.args.currency.now c.owned_number.new.seating c.owned_number.new.owners c.owned_number.ensures.gives in
      let within = liability-within c.requires.0 _ kept.kept c.args.kind c.args.currency.now c.first_loss-losses.result c.in_ok-lines.lines c.first_loss-losses.ensures.number c.in_ok-lines.ensures.own seat in
      subst (λ (l : List ℕ). target seat l < length c.owned_number.new.seating.rolls) (sym c.all_losses.ensures) (within (λ e. some (ap (target seat) c.all_losses.ensures ∙ e))),
)

pub returns-in_err-make_room-clause-kept : goal.returns-in_err-make_room-clause-kept
returns-in_err-make_room-clause-kept c = λ sheet h.
    let one = numbered-lines sheet c.args.self.now h c.args.currency.now c.owned_number.new.seating c.owned_number.new.owners c.owned_number.ensures.gives in
    kept-then sheet c.args.self.now _ _ one (roomy-liabilities sheet _ one.kept c.make_room.new.self c.make_room.ensures.grows)

pub returns-clause-kept : goal.returns-clause-kept
returns-clause-kept c = λ sheet h.
    let one = numbered-lines sheet c.args.self.now h c.args.currency.now c.owned_number.new.seating c.owned_number.new.owners c.owned_number.ensures.gives in
    kept-then sheet c.args.self.now _ _ one (roomy-liabilities sheet _ one.kept c.make_room.new.self c.make_room.ensures.grows)

pub returns-clause-prepared : goal.returns-clause-prepared
returns-clause-prepared c = λ sheet h.
    let one = numbered-lines sheet c.args.self.now h c.args.currency.now c.owned_number.new.seating c.owned_number.new.owners c.owned_number.ensures.gives in
    let two = kept-then sheet c.args.self.now _ _ one (roomy-liabilities sheet _ one.kept c.make_room.new.self c.make_room.ensures.grows) in
    prepared-liability sheet _ two.kept c.args.kind c.args.currency.now c.first_loss-losses.result c.in_ok-lines.lines c.first_loss-losses.ensures.number c.in_ok-lines.ensures.own
    c.args.name.now c.args.self.now two c.first_loss-losses.ensures.few c.in_ok-make_room.ensures.row
    (λ seat. subst (λ (l : List ℕ). target seat l ≢ NOWHERE → 0 < room_of (target seat l) c.make_room.new.self.rolls) c.all_losses.ensures (c.in_ok-make_room.ensures.ok seat))
