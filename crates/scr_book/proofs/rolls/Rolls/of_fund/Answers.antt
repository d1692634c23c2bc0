use Rattle.std.proofs.Common.{◌≡◌, ◌≢◌, ℕ, zero, suc, ◌<◌, [], ◌∷◌, length, eqb, refl, sym, ap, subst, ◌∙◌, arith}
use Rattle.std.specs.Prelude.{if◌then◌else◌}
use Rattle.scr_member_lists.specs.Seatings.{NOWHERE, target}
use Rattle.scr_sheet.specs.Members.{is_closed}
use Rattle.scr_sheet.specs.declared.roll.Roll.TheVariants as rolls
use Rattle.scr_book.proofs.RollAims.{aimed-fund, stake}
use Rattle.scr_book.proofs.RollGrowth.{roomy-funds}
use Rattle.scr_book.proofs.RollPrepared.{closed-of}
use Rattle.scr_book.proofs.rolls.Rolls.of_fund.Goals.{else-is_closed, then-is_closed}
use Rattle.scr_book.proofs.rolls.Rolls.of_fund.Goals as goal

pub make_room-requires : goal.make_room-requires
make_room-requires c = (omega arith, within)
  where
    within : (seat : ℕ) → target seat (c.if-is_closed.number ∷ []) ≢ NOWHERE → target seat (c.if-is_closed.number ∷ []) < length c.args.self.now.funds.rolls
    within zero some =
        elim c.if-is_closed.branch [
          | then-is_closed w ↦ subst (λ n. n < length c.args.self.now.funds.rolls) (sym w.number-is) (c.requires.1.numbered.own rolls.Closed 0 refl).0
          | else-is_closed w ↦ absurd (some w.number-is)
        ]
    within (suc seat) some = absurd (some refl)

pub returns-in_err-make_room-clause-kept : goal.returns-in_err-make_room-clause-kept
returns-in_err-make_room-clause-kept c = λ sheet h. roomy-funds sheet c.args.self.now h c.make_room.new.self c.make_room.ensures.grows

pub returns-clause-kept : goal.returns-clause-kept
returns-clause-kept c = λ sheet h. roomy-funds sheet c.args.self.now h c.make_room.new.self c.make_room.ensures.grows

pub returns-clause-prepared : goal.returns-clause-prepared
returns-clause-prepared c = λ sheet h.
    let kept = roomy-funds sheet c.args.self.now h c.make_room.new.self c.make_room.ensures.grows in
    let row = stake sheet _ kept.kept c.args.name.now c.args.components.now in
    let told : eqb (length c.args.components.now) 0 ≡ is_closed row = closed-of c.args.name.now row.held c.args.components.now in
    record {
      awaits = aimed-fund sheet _ kept.kept c.args.name.now c.args.components.now c.if-is_closed.number
          (elim c.if-is_closed.branch [
            | then-is_closed w ↦ w.number-is ∙ ap (λ b. if b then 0 else NOWHERE) (w.if-is_closed.ensures ∙ ap (λ l. eqb (length l) 0) c.as_slice.ensures ∙ told)
            | else-is_closed w ↦ w.number-is ∙ ap (λ b. if b then 0 else NOWHERE) (w.if-is_closed.ensures ∙ ap (λ l. eqb (length l) 0) c.as_slice.ensures ∙ told)
          ]) c.in_ok-make_room.ensures.row (c.in_ok-make_room.ensures.ok 0);
      ready = record { kept = kept.kept; ready = kept.ready; name = refl; table = refl };
    }
