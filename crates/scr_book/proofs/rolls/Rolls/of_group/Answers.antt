use Rattle.std.proofs.Common.{◌≢◌, ℕ, zero, suc, ◌<◌, [], ◌∷◌, length, refl, arith}
use Rattle.scr_book.proofs.RollAims.{aimed-group}
use Rattle.scr_book.proofs.RollGrowth.{roomy-groups}
use Rattle.scr_member_lists.specs.Seatings.{NOWHERE, target}
use Rattle.scr_sheet.specs.declared.roll.Roll.TheVariants as rolls
use Rattle.scr_book.proofs.rolls.Rolls.of_group.Goals as goal

pub make_room-requires : goal.make_room-requires
make_room-requires c = (omega arith, within)
  where
    within : (seat : ℕ) → target seat (0 ∷ []) ≢ NOWHERE → target seat (0 ∷ []) < length c.args.self.now.groups.rolls
    within zero some = (c.requires.1.numbered.own rolls.Groups 0 refl).0
    within (suc seat) some = absurd (some refl)

pub returns-in_err-make_room-clause-kept : goal.returns-in_err-make_room-clause-kept
returns-in_err-make_room-clause-kept c = λ sheet h. roomy-groups sheet c.args.self.now h c.make_room.new.self c.make_room.ensures.grows

pub returns-clause-kept : goal.returns-clause-kept
returns-clause-kept c = λ sheet h. roomy-groups sheet c.args.self.now h c.make_room.new.self c.make_room.ensures.grows

pub returns-clause-prepared : goal.returns-clause-prepared
returns-clause-prepared c = λ sheet kind step h.
    let kept = roomy-groups sheet c.args.self.now h c.make_room.new.self c.make_room.ensures.grows in
    record {
      awaits = aimed-group sheet _ kept.kept c.args.name.now kind step c.in_ok-make_room.ensures.row (c.in_ok-make_room.ensures.ok 0 (λ e. let no : ⊥ = omega (arith, e) in absurd no));
      ready = record { kept = kept.kept; ready = kept.ready; name = refl; table = refl };
    }
