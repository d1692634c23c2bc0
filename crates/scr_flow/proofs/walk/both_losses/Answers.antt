use Rattle.std.proofs.Common.{◌≡◌, ◌-◌, ◌+◌, ◌<◌, ◌≤◌, ℕ, ℤ, pos, FitsSigned, w64, length, get_or, to_z-of_z, arith, rules, refl, sym, ◌∙◌}
use Rattle.scr_num.specs.Rounding.{ends, exact_ends}
use Rattle.scr_dates.specs.declared.day.Day.{Day}
use Rattle.scr_dates.specs.Years.{maturity_of}
use Rattle.scr_dates.specs.declared.term.Maturity.TheVariants.{TooFar}
use Rattle.scr_flow.proofs.OneValue.{years-within}
use Rattle.scr_flow.proofs.DueLemmas.{past-of, due-of}
use Rattle.scr_flow.specs.Sums.{flow_ends}
use Rattle.scr_flow.proofs.WalkLemmas.{IsLostBefore, lost-begun, lost-past, lost-due, lost-ended, amount-small}
use Rattle.scr_flow.proofs.walk.both_losses.Goals as goal
use Rattle.scr_flow.proofs.walk.both_losses.Goals.{then-maturity-gt0, else-maturity-gt0}

-- what a read past the end would give
abbrev nobody : Day × ℤ
nobody = (record { number = pos 0 }, pos 0)

pub loop-day-init : goal.loop-day-init
loop-day-init c =
    let left : IsLostBefore 0 c.args.years.now c.args.pairs.now c.args.first.now (ends c.exact-left.result) =
    rw c.exact-left.ensures.ends (lost-begun c.args.years.now c.args.pairs.now c.args.first.now) in
    let right : IsLostBefore 0 c.args.years.now c.args.pairs.now c.args.second.now (ends c.exact-right.result) =
    rw c.exact-right.ensures.ends (lost-begun c.args.years.now c.args.pairs.now c.args.second.now) in
    (left, right)

pub until_after-requires-clause-near : goal.until_after-requires-clause-near
until_after-requires-clause-near c = λ years. c.requires.near c.loop-day.day-index nobody (omega arith) years

pub with_lost-left-requires-clause-flow_in : goal.with_lost-left-requires-clause-flow_in
with_lost-left-requires-clause-flow_in c =
    let amount : FitsSigned w64 (get_or c.args.pairs.now c.loop-day.day-index nobody).1 = search rules in
    simp to_z-of_z (omega (arith, amount-small c.loop-day.day-index c.args.pairs.now nobody (omega arith), c.requires.small))

pub with_lost-left-requires-clause-not_negative : goal.with_lost-left-requires-clause-not_negative
with_lost-left-requires-clause-not_negative c =
    let amount : FitsSigned w64 (get_or c.args.pairs.now c.loop-day.day-index nobody).1 = search rules in
    simp to_z-of_z (c.requires.none_owed c.loop-day.day-index nobody (omega arith))

pub with_lost-right-requires-clause-flow_in : goal.with_lost-right-requires-clause-flow_in
with_lost-right-requires-clause-flow_in c =
    let amount : FitsSigned w64 (get_or c.args.pairs.now c.loop-day.day-index nobody).1 = search rules in
    simp to_z-of_z (omega (arith, amount-small c.loop-day.day-index c.args.pairs.now nobody (omega arith), c.requires.small))

pub with_lost-right-requires-clause-not_negative : goal.with_lost-right-requires-clause-not_negative
with_lost-right-requires-clause-not_negative c =
    let amount : FitsSigned w64 (get_or c.args.pairs.now c.loop-day.day-index nobody).1 = search rules in
    simp to_z-of_z (c.requires.none_owed c.loop-day.day-index nobody (omega arith))

pub loop-day-preserved : goal.loop-day-preserved
loop-day-preserved c =
    let i = c.loop-day.day-index in
    let asof = c.args.years.now in
    let pairs = c.args.pairs.now in
    let inside : c.loop-day.day-index < length c.args.pairs.now = omega arith in
    let near : (years : ℕ) → maturity_of asof (get_or pairs i nobody).0.number ≡ TooFar years → ⊥ = λ years. c.requires.near i nobody inside years in
    let years = c.from-maturity.ensures ∙ c.until_after.ensures.value in
    elim c.if-maturity-gt0.branch [
      | then-maturity-gt0 w ↦
          let some : 1 ≤ c.from-maturity.result = omega (arith, w.if-maturity-gt0.true) in
          let most : c.from-maturity.result ≤ 100 = omega (arith, c.from-maturity.ensures, c.until_after.ensures.most) in
          let amount : FitsSigned w64 (get_or c.args.pairs.now c.loop-day.day-index nobody).1 = search rules in
          let place = c.from-maturity.result - 1 in
          let few : place < 100 = omega (arith, some, most) in
          let due = due-of (maturity_of asof (get_or pairs i nobody).0.number) (1 + place) near (omega arith) (sym years ∙ omega (arith, some)) in
          let e = exact_ends (pos 0) in
          let flow = (get_or pairs i nobody).1 in (
            rw (w.left-is, simp to_z-of_z at (w.with_lost-left.ensures.ends e))
                (lost-due i asof pairs c.args.first.now (ends c.loop-day.left) nobody inside c.requires.none_owed c.loop-day.invariant.0 place (flow_ends flow (get_or c.args.first.now place e)) e due few w.with_lost-left.ensures.count
                refl (simp to_z-of_z at (w.with_lost-left.ensures.low_size e)) (simp to_z-of_z at (w.with_lost-left.ensures.high_size e))),
            rw (w.right-is, simp to_z-of_z at (w.with_lost-right.ensures.ends e))
                (lost-due i asof pairs c.args.second.now (ends c.loop-day.right) nobody inside c.requires.none_owed c.loop-day.invariant.1 place (flow_ends flow (get_or c.args.second.now place e)) e due few w.with_lost-right.ensures.count
                refl (simp to_z-of_z at (w.with_lost-right.ensures.low_size e)) (simp to_z-of_z at (w.with_lost-right.ensures.high_size e))),
          )
      | else-maturity-gt0 w ↦
          let none : c.from-maturity.result ≡ 0 = omega (arith, w.if-maturity-gt0.false) in
          let past = past-of (maturity_of asof (get_or pairs i nobody).0.number) near (years-within asof (get_or pairs i nobody).0.number) (sym years ∙ none) in (
            rw w.left-is (lost-past i asof pairs c.args.first.now (ends c.loop-day.left) nobody inside c.requires.none_owed c.loop-day.invariant.0 past),
            rw w.right-is (lost-past i asof pairs c.args.second.now (ends c.loop-day.right) nobody inside c.requires.none_owed c.loop-day.invariant.1 past),
          )
    ]

pub returns-clause-first : goal.returns-clause-first
returns-clause-first c = lost-ended c.loop-day.day-index c.args.years.now c.args.pairs.now c.args.first.now (ends c.loop-day.left) (omega arith) c.loop-day.invariant.0

pub returns-clause-second : goal.returns-clause-second
returns-clause-second c = lost-ended c.loop-day.day-index c.args.years.now c.args.pairs.now c.args.second.now (ends c.loop-day.right) (omega arith) c.loop-day.invariant.1
