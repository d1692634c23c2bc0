use Rattle.std.proofs.Common.{◌≤◌, List, slice_get, map, sum_by, unsigned_abs, ℤ, refl, sym, subst}
use Rattle.std.specs.List.{range_with_len}
use Rattle.scr_num.specs.Rounding.{ends}
use Rattle.scr_discounts.specs.Kept.{rows_of, tables}
use Rattle.scr_rules.specs.LifeRules.{less_at}
use Rattle.scr_rules.specs.Paid.{valued_in}
use Rattle.scr_rules.proofs.CodeLemmas.{row-found}
use Rattle.scr_discounts.proofs.FallRows.{place-within}
use Rattle.scr_rules.proofs.LifeCode.{curve-there, flows-are, flows-small, excess-worked}
use Rattle.scr_rules.proofs.FallRows.{kept-years}
use Rattle.scr_rules.proofs.life_rules.worth_more.Goals as goal

pub bucketed-before-requires-clause-kept : goal.bucketed-before-requires-clause-kept
bucketed-before-requires-clause-kept c = kept-years c.args.sheet.now (rows_of c.args.curves.now) c.args.kept c.requires.kept

pub bucketed-requires-clause-kept : goal.bucketed-requires-clause-kept
bucketed-requires-clause-kept c = kept-years c.args.sheet.now (rows_of c.args.curves.now) c.args.kept c.requires.kept

pub row-requires : goal.row-requires
row-requires c =
    let there = curve-there (slice_get c.args.sheet.now.curves c.in-Some.place) c.args.currency.now c.in-Some.ensures.place in
    place-within c.args.sheet.now c.args.curves.now c.in-Some.place there.0 c.requires.rows there.1

pub worth_above-requires-clause-small : goal.worth_above-requires-clause-small
worth_above-requires-clause-small c =
    let are = flows-are c.args.sheet.now.numbers.asof.number c.args.stressed.now c.args.base.now c.bucketed.result c.bucketed-before.result
    (map (less_at c.bucketed.result c.bucketed-before.result) (range_with_len 0 100)) c.bucketed.ensures.value c.bucketed-before.ensures.value refl in
    subst (λ (xs : List ℤ). sum_by unsigned_abs xs ≤ 100_000_000_000_000) (sym are) (flows-small (valued_in c.args.sheet.now c.args.currency.now c.args.base.now) c.args.stressed.now c.requires.fits)

pub worth_above-requires-clause-in_range : goal.worth_above-requires-clause-in_range
worth_above-requires-clause-in_range c =
    let there = curve-there (slice_get c.args.sheet.now.curves c.in-Some.place) c.args.currency.now c.in-Some.ensures.place in
    let found = row-found c.args.sheet.now c.requires.valid c.args.currency.now c.args.curves.now c.in-Some.place there.0 c.row.result.now c.requires.rows c.in-Some.ensures.place there.1 c.row.ensures in
    found.discounts.base.in_range

pub returns : goal.returns
returns c =
    let there = curve-there (slice_get c.args.sheet.now.curves c.in-Some.place) c.args.currency.now c.in-Some.ensures.place in
    let found = row-found c.args.sheet.now c.requires.valid c.args.currency.now c.args.curves.now c.in-Some.place there.0 c.row.result.now c.requires.rows c.in-Some.ensures.place there.1 c.row.ensures in
    let flows = map (less_at c.bucketed.result c.bucketed-before.result) (range_with_len 0 100) in
    let are = flows-are c.args.sheet.now.numbers.asof.number c.args.stressed.now c.args.base.now c.bucketed.result c.bucketed-before.result flows c.bucketed.ensures.value c.bucketed-before.ensures.value refl in
    record {
      value = excess-worked c.args.sheet.now c.args.currency.now c.args.stressed.now c.args.base.now (rows_of c.args.curves.now) (tables c.row.result.now) there.0.rates flows
          (tables c.row.result.now).base (ends c.worth_above.result) found refl are c.worth_above.ensures;
    }
