use Rattle.std.proofs.Common.{◌≡◌, ◌+◌, ◌<◌, [], ◌∷◌, Some, refl, ap, ◌∙◌, arith}
use Rattle.std.specs.Prelude.{pos}
use Rattle.std.specs.Option.{option_map}
use Rattle.scr_member_lists.specs.Owned.{number_of}
use Rattle.scr_member_lists.specs.Seatings.{NOWHERE}
use Rattle.scr_sheet.specs.declared.roll.Roll.TheVariants as rolls
use Rattle.scr_book.specs.Rolls.{class_number}
use Rattle.scr_book.proofs.RollAims.{few}
use Rattle.scr_book.proofs.RollGrowth.{kept-then, numbered-assets, roomy-securities}
use Rattle.scr_book.proofs.RollPrepared.{group-same, prepared-security, security-within}
use Rattle.scr_book.proofs.rolls.Rolls.of_security.Goals as goal

pub returns-in_err-assets-clause-kept : goal.returns-in_err-assets-clause-kept
returns-in_err-assets-clause-kept c = λ sheet h. numbered-assets sheet c.args.self.now h c.args.currency.now c.owned_number.new.seating c.owned_number.new.owners c.owned_number.ensures.gives

pub group_numbers-requires : goal.group_numbers-requires
group_numbers-requires c =
    (c.requires.0, (numbered-assets c.requires.0 c.args.self.now c.requires.1 c.args.currency.now c.owned_number.new.seating c.owned_number.new.owners c.owned_number.ensures.gives).kept)

pub returns-in_err-grouped-clause-kept : goal.returns-in_err-grouped-clause-kept
returns-in_err-grouped-clause-kept c = λ sheet h.
    let one = numbered-assets sheet c.args.self.now h c.args.currency.now c.owned_number.new.seating c.owned_number.new.owners c.owned_number.ensures.gives in
    kept-then sheet c.args.self.now _ _ one (c.group_numbers.ensures.kept sheet one.kept)

pub overflow_add-numbers : goal.overflow_add-numbers
overflow_add-numbers c =
    let one = numbered-assets c.requires.0 c.args.self.now c.requires.1 c.args.currency.now c.owned_number.new.seating c.owned_number.new.owners c.owned_number.ensures.gives in
    let small : c.in_ok-assets.assets + 1 < NOWHERE =
    few c.requires.0 _ one.kept (rolls.Flows c.args.currency.now) (c.in_ok-assets.assets + 1) (ap (option_map (λ n. n + 1)) c.in_ok-assets.ensures.own) in
    omega (arith, small)

pub make_room-requires : goal.make_room-requires
make_room-requires c = (
  omega arith,
  λ seat some.
      let one = numbered-assets c.requires.0 c.args.self.now c.requires.1 c.args.currency.now c.owned_number.new.seating c.owned_number.new.owners c.owned_number.ensures.gives in
      let two = c.group_numbers.ensures.kept c.requires.0 one.kept in
      let is : number_of c.args.currency.now c.group_numbers.new.self.of_assets ≡ Some c.in_ok-assets.assets =
      ap (number_of c.args.currency.now) c.group_numbers.ensures.assets ∙ c.in_ok-assets.ensures.own in
      security-within c.requires.0 _ two.kept c.args.name.now c.args.class c.args.group c.args.currency.now (pos 0) c.in_ok-grouped.group c.in_ok-assets.assets c.in_ok-grouped.ensures.group is
      (c.class_number.result ∷ c.in_ok-grouped.grouped ∷ c.in_ok-grouped.group ∷ c.in_ok-assets.assets ∷ (c.in_ok-assets.assets + 1) ∷ [])
      (ap (λ k. k ∷ c.in_ok-grouped.grouped ∷ c.in_ok-grouped.group ∷ c.in_ok-assets.assets ∷ (c.in_ok-assets.assets + 1) ∷ []) c.class_number.ensures
      ∙ ap (λ k. class_number c.args.class ∷ k ∷ c.in_ok-grouped.group ∷ c.in_ok-assets.assets ∷ (c.in_ok-assets.assets + 1) ∷ []) c.in_ok-grouped.ensures.grouped) seat some,
)

pub returns-in_err-make_room-clause-kept : goal.returns-in_err-make_room-clause-kept
returns-in_err-make_room-clause-kept c = λ sheet h.
    let one = numbered-assets sheet c.args.self.now h c.args.currency.now c.owned_number.new.seating c.owned_number.new.owners c.owned_number.ensures.gives in
    let two = kept-then sheet c.args.self.now _ _ one (c.group_numbers.ensures.kept sheet one.kept) in
    kept-then sheet c.args.self.now _ _ two (roomy-securities sheet _ two.kept c.make_room.new.self c.make_room.ensures.grows)

pub returns-clause-kept : goal.returns-clause-kept
returns-clause-kept c = λ sheet h.
    let one = numbered-assets sheet c.args.self.now h c.args.currency.now c.owned_number.new.seating c.owned_number.new.owners c.owned_number.ensures.gives in
    let two = kept-then sheet c.args.self.now _ _ one (c.group_numbers.ensures.kept sheet one.kept) in
    kept-then sheet c.args.self.now _ _ two (roomy-securities sheet _ two.kept c.make_room.new.self c.make_room.ensures.grows)

pub returns-clause-prepared : goal.returns-clause-prepared
returns-clause-prepared c = λ sheet duration h.
    let one = numbered-assets sheet c.args.self.now h c.args.currency.now c.owned_number.new.seating c.owned_number.new.owners c.owned_number.ensures.gives in
    let two = kept-then sheet c.args.self.now _ _ one (c.group_numbers.ensures.kept sheet one.kept) in
    let three = kept-then sheet c.args.self.now _ _ two (roomy-securities sheet _ two.kept c.make_room.new.self c.make_room.ensures.grows) in
    let is : number_of c.args.currency.now c.group_numbers.new.self.of_assets ≡ Some c.in_ok-assets.assets =
    ap (number_of c.args.currency.now) c.group_numbers.ensures.assets ∙ c.in_ok-assets.ensures.own in
    prepared-security sheet (record c.group_numbers.new.self { securities = c.make_room.new.self }) three.kept c.args.name.now c.args.class c.args.group c.args.currency.now duration
    c.in_ok-grouped.group c.in_ok-assets.assets
    (group-same c.args.group c.in_ok-grouped.group c.group_numbers.new.self (record c.group_numbers.new.self { securities = c.make_room.new.self }) refl c.in_ok-grouped.ensures.group) is
    c.args.self.now three (c.class_number.result ∷ c.in_ok-grouped.grouped ∷ c.in_ok-grouped.group ∷ c.in_ok-assets.assets ∷ (c.in_ok-assets.assets + 1) ∷ [])
    (ap (λ k. k ∷ c.in_ok-grouped.grouped ∷ c.in_ok-grouped.group ∷ c.in_ok-assets.assets ∷ (c.in_ok-assets.assets + 1) ∷ []) c.class_number.ensures
    ∙ ap (λ k. class_number c.args.class ∷ k ∷ c.in_ok-grouped.group ∷ c.in_ok-assets.assets ∷ (c.in_ok-assets.assets + 1) ∷ []) c.in_ok-grouped.ensures.grouped)
    c.in_ok-make_room.ensures.row c.in_ok-make_room.ensures.ok
