use Rattle.std.proofs.Common.{◌+◌, sym, ap, ◌∙◌, arith}
use Rattle.std.specs.Option.{option_map}
use Rattle.scr_sheet.specs.declared.keys.Table.TheVariants as tables
use Rattle.scr_sheet.specs.declared.roll.Roll.TheVariants as rolls
use Rattle.scr_book.proofs.rolls.Rolls.number.Goals as goal

pub overflow_add-result : goal.overflow_add-result
overflow_add-result c =
    let own = c.requires.1.numbered.own (rolls.Flows c.in-Flows.currency) (c.in-Some.number + 1)
    (ap (option_map (λ n. n + 1)) (sym c.number-in-Flows.ensures ∙ c.in-Some.is)) in
    let inside = own.0 in
    let few = (c.requires.1.seated tables.Security).few in
    omega (arith, inside, few)
