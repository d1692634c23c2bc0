use Rattle.std.proofs.Common.{◌≡◌, ℕ, ◌+◌, List, Option, Some, sym, ap, subst, ◌∙◌, arith}
use Rattle.scr_dates.specs.Civil.{IsDay}
use Rattle.scr_dates.specs.declared.day.Day.{Day}
use Rattle.scr_counters.specs.Blocks.{count_in}
use Rattle.scr_counters.specs.Days.{count_of, ends_on, IsDayOrNone}
use Rattle.scr_counters.proofs.ByDay.{ends-own, read-day, written-day, written-more}
use Rattle.scr_counters.proofs.days.DayTally.add.Goals as goal

pub add-requires-clause-fits : goal.add-requires-clause-fits
add-requires-clause-fits c =
    let known : IsDay c.in-Some.day.number = subst IsDayOrNone c.in-Some.is c.requires.day in
    let at = read-day c.self.inside.blocks c.place_of-block.result.0 c.place_of-block.result.1 c.in-Some.day.number c.place_of-block.ensures.block c.place_of-block.ensures.place in
    let view = ap (count_of c.in-Some.day.number) c.self.view_is in
    let own : ends_on c.in-Some.day.number c.args.last ≡ 1 = ap (ends_on c.in-Some.day.number) c.in-Some.is ∙ ends-own c.in-Some.day in
    let fits = c.requires.fits c.in-Some.day.number known in
    omega (arith, at, view, own, fits)

pub returns-in-Some : goal.returns-in-Some
returns-in-Some c day in_day =
    let known : IsDay c.in-Some.day.number = subst IsDayOrNone c.in-Some.is c.requires.day in
    let old : List (List ℕ) = c.self.inside.blocks in
    let now : List (List ℕ) = c.add.new.self in
    let n : ℕ = count_in old c.place_of-block.result.0 c.place_of-block.result.1 + 1 in
    let written = written-day old now c.place_of-block.result.0 c.place_of-block.result.1 n c.in-Some.day.number c.place_of-block.ensures.block c.place_of-block.ensures.place c.add.ensures in
    let at = read-day old c.place_of-block.result.0 c.place_of-block.result.1 c.in-Some.day.number c.place_of-block.ensures.block c.place_of-block.ensures.place in
    let more = written-more old now c.in-Some.day known n written (ap (λ (k : ℕ). k + 1) at) day in_day in
    more ∙ ap (λ (k : ℕ). k + ends_on day (Some c.in-Some.day)) (ap (count_of day) c.self.view_is)
    ∙ ap (λ (last : Option Day). count_of day c.args.self.now + ends_on day last) (sym c.in-Some.is)
