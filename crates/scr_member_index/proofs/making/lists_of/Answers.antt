use Rattle.std.proofs.Common.{length, refl, sym, ap, ◌∙◌, arith}
use Rattle.scr_member_lists.specs.Seatings.{Seated}
use Rattle.scr_sheet.specs.declared.keys.Table.TheVariants as tables
use Rattle.scr_sum_slots.specs.Filling.{AreFirsts}
use Rattle.scr_sheet.specs.Validity.{Valid}
use Rattle.scr_book.specs.Rolls.{AreRollsOf}
use Rattle.scr_member_index.specs.Lists.{first_of, firsts_at, lists_in}
use Rattle.scr_member_index.specs.declared.lists.Lists.{Lists}
use Rattle.scr_member_index.proofs.Made.{firsts-of, four-tables, made-of}
use Rattle.scr_member_index.proofs.making.lists_of.Goals as goal

pub listed-requires : goal.listed-requires
listed-requires c = (
  omega arith,
  ap (λ (s : Seated). length s.seats) c.security_seats.ensures.seats ∙ (c.security_seats.ensures.kept.seated tables.Security).beside
      ∙ sym (c.requires tables.Security refl),
)

pub listed-requires-2 : goal.listed-requires-2
listed-requires-2 c = (
  omega arith,
  ap (λ (s : Seated). length s.seats) c.liability_seats.ensures.seats ∙ (c.liability_seats.ensures.kept.seated tables.Liability).beside
      ∙ sym (c.requires tables.Liability refl),
)

pub listed-requires-3 : goal.listed-requires-3
listed-requires-3 c = (
  omega arith,
  ap (λ (s : Seated). length s.seats) c.fund_seats.ensures.seats ∙ (c.fund_seats.ensures.kept.seated tables.Fund).beside
      ∙ sym (c.requires tables.Fund refl),
)

pub listed-requires-4 : goal.listed-requires-4
listed-requires-4 c = (
  omega arith,
  ap (λ (s : Seated). length s.seats) c.group_seats.ensures.seats ∙ (c.group_seats.ensures.kept.seated tables.Group).beside
      ∙ sym (c.requires tables.Group refl),
)

pub returns-clause-ok : goal.returns-clause-ok
returns-clause-ok c =
    let book = c.args.book.now in
    let places = c.args.places.now in
    let lists : Lists = record {
      securities = c.in_ok-securities.securities;
      liabilities = c.in_ok-liabilities.liabilities;
      funds = c.in_ok-funds.funds;
      groups = c.in_ok-groups.groups;
      parts = c.listed-4.new.parts;
    } in
    let valid : Valid book.sheet = c.sheet-sheet.ensures.valid in
    let kept : AreRollsOf book.sheet book.rolls = c.security_seats.ensures.kept in
    made-of book places c.number_parts.new.places lists c.in_ok-parts.parts c.listed.new.parts c.listed-2.new.parts c.listed-3.new.parts
    c.in_ok-parts.ensures.none c.in_ok-securities.ensures.parts c.in_ok-liabilities.ensures.parts c.in_ok-funds.ensures.parts c.in_ok-groups.ensures.parts
    c.number_parts.ensures.more c.in_ok-number_parts.ensures.ok c.len-slots.ensures.own
    (four-tables (λ table. AreFirsts (first_of book.sheet places table) (lists_in table book.rolls) (firsts_at table lists))
    (firsts-of book places tables.Security refl valid kept c.security_seats.result.now c.security_seats.ensures.seats lists.securities c.in_ok-securities.ensures.firsts)
    (firsts-of book places tables.Liability refl valid kept c.liability_seats.result.now c.liability_seats.ensures.seats lists.liabilities c.in_ok-liabilities.ensures.firsts)
    (firsts-of book places tables.Fund refl valid kept c.fund_seats.result.now c.fund_seats.ensures.seats lists.funds c.in_ok-funds.ensures.firsts)
    (firsts-of book places tables.Group refl valid kept c.group_seats.result.now c.group_seats.ensures.seats lists.groups c.in_ok-groups.ensures.firsts))
