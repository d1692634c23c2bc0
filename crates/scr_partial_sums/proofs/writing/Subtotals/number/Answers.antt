use Rattle.std.proofs.Common.{◌≡◌, ℕ, ◌+◌, None, Some, sym, ap, ◌∙◌, arith}
use Rattle.scr_ids.specs.Ranges.{first}
use Rattle.scr_ids.specs.declared.table.Table.TheVariants as tables
use Rattle.scr_sum_slots.specs.Parts.{key_of, slot_at}
use Rattle.scr_partial_sums.proofs.Numbered.{number-within, part_in, slot-is, slot-there}
use Rattle.scr_partial_sums.proofs.writing.Subtotals.number.Goals as goal

pub first-requires : goal.first-requires
first-requires c =
    let s = c.args.self.now in
    let low = c.requires.numbered.rows (part_in s c.args.level c.args.index) c.in-Some.slot (sym c.slot.ensures ∙ c.in-Some.is) in
    omega (arith, low)

pub unreachable-requires : goal.unreachable-requires
unreachable-requires c =
    let s = c.args.self.now in
    let clash : None ≡ Some (slot_at (key_of s.list c.args.level) c.args.index s.parts.now) =
    sym c.in-None.is ∙ c.slot.ensures ∙ slot-there s c.args.count c.requires.numbered c.args.level c.args.index c.requires.there in
    cc

pub returns-clause-number : goal.returns-clause-number
returns-clause-number c =
    let s = c.args.self.now in
    ap (λ (k : ℕ). k + s.own) (c.first.ensures.first ∙ ap (first s.places.now tables.Part)
    (slot-is s c.args.count c.requires.numbered c.args.level c.args.index c.in-Some.slot c.requires.there (sym c.slot.ensures ∙ c.in-Some.is)))

pub returns-clause-within : goal.returns-clause-within
returns-clause-within c = number-within c.args.self.now c.args.count c.requires.numbered c.args.level c.args.index c.requires.there
