use Rattle.std.proofs.Common.{◌≡◌, ◌-◌, ◌+◌, ◌<◌, ◌≤◌, ℕ, ℤ, pos, ◌+ℤ◌, FitsSigned, w64, length, get_or, to_z-of_z, arith, rules, sym, ◌∙◌}
use Rattle.std.proofs.lemmas.Int.{ints, fits_signed_from_abs}
use Rattle.scr_dates.specs.declared.day.Day.{Day}
use Rattle.scr_dates.specs.Years.{maturity_of}
use Rattle.scr_dates.specs.declared.term.Maturity.TheVariants.{TooFar}
use Rattle.scr_flow.proofs.OneValue.{years-within}
use Rattle.scr_flow.proofs.DueLemmas.{due_begun, past_added, due_added, due_small, due_ended, past-of, due-of}
use Rattle.scr_flow.proofs.due.bucket_by.Goals as goal
use Rattle.scr_flow.proofs.due.bucket_by.Goals.{then-maturity-gt0, else-maturity-gt0}

pub loop-day-init : goal.loop-day-init
loop-day-init c = due_begun c.args.years.now c.args.pairs.now

-- what a read past the end would give
abbrev nobody : Day × ℤ
nobody = (record { number = pos 0 }, pos 0)

pub until_after-requires-clause-near : goal.until_after-requires-clause-near
until_after-requires-clause-near c = λ years. c.requires.near c.loop-day.day-index nobody (omega arith) years

pub overflow_add-flows : goal.overflow_add-flows
overflow_add-flows c =
    let some : 1 ≤ c.from-maturity.result = omega (arith, c.if-maturity-gt0.true) in
    let most : c.from-maturity.result ≤ 100 = omega (arith, c.from-maturity.ensures, c.until_after.ensures.most) in
    let flow : FitsSigned w64 (get_or c.loop-day.flows (c.from-maturity.result - 1) (pos 0)) = search rules in
    let amount : FitsSigned w64 (get_or c.args.pairs.now c.loop-day.day-index nobody).1 = search rules in
    let small = due_small c.loop-day.day-index c.args.years.now c.args.pairs.now c.loop-day.flows nobody (c.from-maturity.result - 1) (pos 0) (omega arith) (omega (arith, some, most)) c.loop-day.invariant in
    simp to_z-of_z (fits_signed_from_abs w64 _ (omega (arith, ints, small, c.requires.small)))

pub loop-day-preserved : goal.loop-day-preserved
loop-day-preserved c =
    let i = c.loop-day.day-index in
    let asof = c.args.years.now in
    let pairs = c.args.pairs.now in
    let place : c.loop-day.day-index < length c.args.pairs.now = omega arith in
    let near : (years : ℕ) → maturity_of asof (get_or pairs i nobody).0.number ≡ TooFar years → ⊥ = λ years. c.requires.near i nobody place years in
    let years = c.from-maturity.ensures ∙ c.until_after.ensures.value in
    elim c.if-maturity-gt0.branch [
      | then-maturity-gt0 w ↦
          let some : 1 ≤ c.from-maturity.result = omega (arith, w.if-maturity-gt0.true) in
          let most : c.from-maturity.result ≤ 100 = omega (arith, c.from-maturity.ensures, c.until_after.ensures.most) in
          let flow : FitsSigned w64 (get_or c.loop-day.flows (c.from-maturity.result - 1) (pos 0)) = search rules in
          let amount : FitsSigned w64 (get_or c.args.pairs.now c.loop-day.day-index nobody).1 = search rules in
          let small = due_small i asof pairs c.loop-day.flows nobody (c.from-maturity.result - 1) (pos 0) place (omega (arith, some, most)) c.loop-day.invariant in
          let sum : FitsSigned w64 (get_or c.loop-day.flows (c.from-maturity.result - 1) (pos 0) +ℤ (get_or c.args.pairs.now c.loop-day.day-index nobody).1) =
          fits_signed_from_abs w64 _ (omega (arith, ints, small, c.requires.small)) in
          rw (simp to_z-of_z at w.flows-is)
          (due_added i asof pairs c.loop-day.flows nobody c.from-maturity.result (c.from-maturity.result - 1) (pos 0) place (omega (arith, some)) (omega (arith, some, most))
          (due-of (maturity_of asof (get_or pairs i nobody).0.number) c.from-maturity.result near some (sym years)) c.loop-day.invariant)
      | else-maturity-gt0 w ↦
          let none : c.from-maturity.result ≡ 0 = omega (arith, w.if-maturity-gt0.false) in
          rw w.flows-is (past_added i asof pairs c.loop-day.flows nobody place
          (past-of (maturity_of asof (get_or pairs i nobody).0.number) near (years-within asof (get_or pairs i nobody).0.number) (sym years ∙ none)) c.loop-day.invariant)
    ]

pub returns-clause-value : goal.returns-clause-value
returns-clause-value c = due_ended c.loop-day.day-index c.args.years.now c.args.pairs.now c.loop-day.flows (omega arith) c.loop-day.invariant
