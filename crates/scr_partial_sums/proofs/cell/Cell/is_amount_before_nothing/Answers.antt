use Rattle.std.proofs.Common.{◌≡◌, ◌/◌, ◌%◌, ◌^◌, true, false, sym, arith, ◌∙◌}
use Rattle.std.proofs.lemmas.Bool.{eqb-true, leb-false, leb-true}
use Rattle.scr_partial_sums.proofs.Amounts.{amount-bits, amount-of}
use Rattle.scr_partial_sums.proofs.cell.Cell.is_amount_before_nothing.Goals.{then-self, else-self}
use Rattle.scr_partial_sums.proofs.cell.Cell.is_amount_before_nothing.Goals as goal

none : false ≡ true → ⊥
none is = absurd (cc)

pub returns-then-is_nothing-clause-yes : goal.returns-then-is_nothing-clause-yes
returns-then-is_nothing-clause-yes c = λ yes.
    let bits = c.self.inside.bits in
    elim c.if-self.branch [
      | then-self w ↦
          (let nothing_is : w.is_nothing.result ≡ true = sym w.value-is ∙ c.if-is_nothing.true in
          let told = amount-of bits c.self.inside.ordered c.args.most w.if-self.true (leb-true (bits % 2 ^ 64) c.args.most yes) in
          ((told.0, sym c.self.view_is ∙ told.1, told.2), w.is_nothing.ensures.yes nothing_is))
      | else-self w ↦ absurd (w.if-self.false (eqb-true (bits / 2 ^ 64) (2 ^ 25) (sym w.value-is ∙ c.if-is_nothing.true)))
    ]

pub returns-then-is_nothing-clause-not : goal.returns-then-is_nothing-clause-not
returns-then-is_nothing-clause-not c = λ no figure is amount after.
    let bits = c.self.inside.bits in
    let told = amount-bits bits c.self.inside.ordered c.args.most (omega (arith, c.ranges.most.fits)) figure (c.self.view_is ∙ is) amount in
    let above = leb-false (bits % 2 ^ 64) c.args.most no in
    let within = told.1 in
    omega (arith, above, within)

pub returns-else-is_nothing-clause-yes : goal.returns-else-is_nothing-clause-yes
returns-else-is_nothing-clause-yes c = λ yes.
    absurd (none (sym c.if-is_nothing.false ∙ yes))

pub returns-else-is_nothing-clause-not : goal.returns-else-is_nothing-clause-not
returns-else-is_nothing-clause-not c = λ no figure is amount after.
    let told = amount-bits c.self.inside.bits c.self.inside.ordered c.args.most (omega (arith, c.ranges.most.fits)) figure (c.self.view_is ∙ is) amount in
    elim c.if-self.branch [
      | then-self w ↦ w.is_nothing.ensures.not (sym w.value-is ∙ c.if-is_nothing.false) after
      | else-self w ↦ w.if-self.false told.0
    ]
