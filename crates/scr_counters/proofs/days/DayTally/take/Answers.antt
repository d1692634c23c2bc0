use Rattle.std.proofs.Common.{◌≡◌, ℕ, ◌+◌, ◌-◌, List, Option, ap, subst, ◌∙◌, arith}
use Rattle.scr_dates.specs.Civil.{IsDay}
use Rattle.scr_dates.specs.declared.day.Day.{Day}
use Rattle.scr_counters.specs.Blocks.{count_in}
use Rattle.scr_counters.specs.Days.{count_of, ends_on, IsDayOrNone}
use Rattle.scr_counters.proofs.ByDay.{ends-own, read-day, written-day, written-less}
use Rattle.scr_counters.proofs.days.DayTally.take.Goals as goal

pub take-requires-clause-some : goal.take-requires-clause-some
take-requires-clause-some c =
    let known : IsDay c.in-Some.day.number = subst IsDayOrNone c.in-Some.is c.requires.day in
    let at = read-day c.self.inside.blocks c.place_of-block.result.0 c.place_of-block.result.1 c.in-Some.day.number c.place_of-block.ensures.block c.place_of-block.ensures.place in
    let view = ap (count_of c.in-Some.day.number) c.self.view_is in
    let own : ends_on c.in-Some.day.number c.args.last ≡ 1 = ap (ends_on c.in-Some.day.number) c.in-Some.is ∙ ends-own c.in-Some.day in
    let counted = c.requires.counted c.in-Some.day.number known in
    omega (arith, at, view, own, counted)

pub returns-in-Some : goal.returns-in-Some
returns-in-Some c day in_day =
    let known : IsDay c.in-Some.day.number = subst IsDayOrNone c.in-Some.is c.requires.day in
    let old : List (List ℕ) = c.self.inside.blocks in
    let now : List (List ℕ) = c.take.new.self in
    let n : ℕ = count_in old c.place_of-block.result.0 c.place_of-block.result.1 - 1 in
    let written = written-day old now c.place_of-block.result.0 c.place_of-block.result.1 n c.in-Some.day.number c.place_of-block.ensures.block c.place_of-block.ensures.place c.take.ensures in
    let at = read-day old c.place_of-block.result.0 c.place_of-block.result.1 c.in-Some.day.number c.place_of-block.ensures.block c.place_of-block.ensures.place in
    let view = ap (count_of c.in-Some.day.number) c.self.view_is in
    let own : ends_on c.in-Some.day.number c.args.last ≡ 1 = ap (ends_on c.in-Some.day.number) c.in-Some.is ∙ ends-own c.in-Some.day in
    let counted = c.requires.counted c.in-Some.day.number known in
    let less = written-less old now c.in-Some.day known n written (omega (arith, at, view, own, counted)) day in_day in
    ap (λ (last : Option Day). count_of day now + ends_on day last) c.in-Some.is ∙ less ∙ ap (count_of day) c.self.view_is
