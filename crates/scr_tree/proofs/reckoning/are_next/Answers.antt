use Rattle.std.proofs.Common.{◌≡◌, ◌⊎◌, ◌&&◌, inl, inr, ℕ, ◌+◌, Bool, true, false, eqb, Some, slice_get, refl, sym, ap, subst, ◌∙◌, arith}
use Rattle.std.specs.Prelude.{slice_index}
use Rattle.std.proofs.lemmas.Bool.{cases_lt, eqb-false, eqb-true}
use Rattle.std.proofs.lemmas.Option.{slice_get-get_or}
use Rattle.scr_tree.proofs.Still.{next-left}
use Rattle.scr_tree.proofs.reckoning.are_next.Goals as goal

both : (are : Bool) (x y : ℕ) → (are && eqb x y) ≡ true → (are ≡ true) × (x ≡ y)
both true x y is = (refl, eqb-true x y is)
both false x y is = absurd (cc)

one-not : (are : Bool) (x y : ℕ) → (are && eqb x y) ≡ false → (are ≡ false) ⊎ (x ≡ y → ⊥)
one-not true x y is = inr (eqb-false x y is)
one-not false x y is = inl refl

pub returns-then-numbers-count-clause-not : goal.returns-then-numbers-count-clause-not
returns-then-numbers-count-clause-not c = λ no next.
    let left = next-left c.args.firsts.now c.args.numbers.now next in
    absurd (omega (arith, left, c.if-numbers-count.true))

pub loop-row-init : goal.loop-row-init
loop-row-init c = record { all = λ yes row low. absurd (omega (arith, low)); one = λ no. absurd (cc) }

pub loop-row-preserved : goal.loop-row-preserved
loop-row-preserved c =
    let row = c.loop-row.row in
    let number = slice_index c.args.numbers.now row in
    let wanted = slice_index c.args.firsts.now row + 1 in
    let here : slice_get c.args.numbers.now row ≡ Some number = slice_get-get_or c.args.numbers.now row 0 (omega (arith, c.loop-row-test.true, c.if-numbers-count.false)) in
    record {
      all = λ yes other low.
          let are = both c.loop-row.are number wanted yes in
          elim (cases_lt other row) [
            | inl before ↦ c.loop-row.invariant.all are.0 other before
            | inr not ↦
                (let same : row ≡ other = omega (arith, low, not) in
                subst (λ k. slice_get c.args.numbers.now k ≡ Some (slice_index c.args.firsts.now k + 1)) same (here ∙ ap Some are.1))
          ];
      one = λ no.
          elim (one-not c.loop-row.are number wanted no) [
            | inl already ↦ (let found = c.loop-row.invariant.one already in (found.0, omega (arith, found.1), found.2))
            | inr other ↦
                (row, omega arith, λ at. let is : Some number ≡ Some wanted = sym here ∙ at in other (cc))
          ];
    }

pub returns-clause-yes : goal.returns-clause-yes
returns-clause-yes c = λ yes row low.
    let end = c.loop-row-test.false in
    c.loop-row.invariant.all yes row (omega (arith, low, end))

pub returns-clause-not : goal.returns-clause-not
returns-clause-not c = λ no next.
    let found = c.loop-row.invariant.one no in
    let end = c.loop-row.auto.row-end in
    found.2 (next found.0 (omega (arith, found.1, end)))
