use Rattle.std.proofs.Common.{◌≡◌, inl, inr, ℕ, ◌≤◌, List, Option, Some, None, length, slice_get, refl, sym, subst, ◌∙◌, arith}
use Rattle.std.proofs.lemmas.Bool.{cases_lt}
use Rattle.std.proofs.lemmas.Option.{get_or_from_slice_get, slice_get_within}
use Rattle.scr_tree.specs.Ceiling.{IsCeiling, IsWithinAt}
use Rattle.scr_tree.specs.Order.{IsJournaled}
use Rattle.scr_tree.specs.declared.journal.Former.{Former}
use Rattle.scr_tree.proofs.Ceiling.{ceiling-stands, no-ceiling}
use Rattle.scr_tree.proofs.reckoning.ceiling_now.Goals as goal

pub returns-in_default : goal.returns-in_default
returns-in_default c = no-ceiling c.args.places.now c.args.figures.now None refl

pub returns-then-former-gt-FEW : goal.returns-then-former-gt-FEW
returns-then-former-gt-FEW c = no-ceiling c.args.places.now c.args.figures.now None refl

pub returns-then-not-is_within : goal.returns-then-not-is_within
returns-then-not-is_within c = no-ceiling c.args.places.now c.args.figures.now None refl

pub loop-was-init : goal.loop-was-init
loop-was-init c = λ k was low at. absurd (omega (arith, low))

pub loop-was-preserved : goal.loop-was-preserved
loop-was-preserved c = λ k was low at. elim (cases_lt k c.loop-was.was-index) [
  | inl before ↦ c.loop-was.invariant k was before at
  | inr not ↦
      (let same : k ≡ c.loop-was.was-index = omega (arith, low, not) in
      let here : slice_get c.former-former.result.now c.loop-was.was-index ≡ Some was = subst (λ i. slice_get c.former-former.result.now i ≡ Some was) same at in
      let told = c.is_within.ensures c.if-not-is_within.false in
      subst (λ (w : Former). IsWithinAt c.args.places.now c.args.figures.now c.in-Some.most w.number)
      (c.was-item.is ∙ get_or_from_slice_get c.former-former.result.now c.loop-was.was-index was c.was-item.result here) told)
]

pub returns : goal.returns
returns c =
    let former = c.former-former.result.now in
    let end : length former ≤ c.loop-was.was-index = omega (arith, c.loop-was-test.false) in
    let was = c.requires.before in
    ceiling-stands c.args.places.now c.in-Some.most former was.before c.args.figures.now
    (subst (λ (f : List Former). IsJournaled f was.before c.args.figures.now) (sym c.former-former.ensures) was.journaled)
    (λ k one at. let low = slice_get_within former k one at in c.loop-was.invariant k one (omega (arith, low, end)) at)
    (subst (λ (o : Option ℕ). IsCeiling c.args.places.now was.before o) c.in-Some.is was.ceiling)
