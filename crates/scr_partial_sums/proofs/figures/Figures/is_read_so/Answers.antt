use Rattle.std.proofs.Common.{◌≡◌, Some, sym, subst, arith, ◌∙◌}
use Rattle.scr_partial_sums.specs.Tables.{IsOneAmount}
use Rattle.scr_partial_sums.proofs.figures.Figures.is_read_so.Goals as goal

pub overflow_add-number : goal.overflow_add-number
overflow_add-number c =
    let fits = c.len-length.type_inv in let long = c.len-length.ensures in omega (arith, c.requires, long, fits)

pub returns-then-is_amount-clause-yes : goal.returns-then-is_amount-clause-yes
returns-then-is_amount-clause-yes c = λ yes. record {
  figure = c.figure.result;
  here = c.figure.ensures;
  amount = c.is_amount.ensures.yes c.if-is_amount.true;
  next = c.is_nothing.ensures.yes yes;
}

pub returns-then-is_amount-clause-not : goal.returns-then-is_amount-clause-not
returns-then-is_amount-clause-not c = λ no is. c.is_nothing.ensures.not no is.next

pub returns-else-is_amount-clause-not : goal.returns-else-is_amount-clause-not
returns-else-is_amount-clause-not c = λ no is.
    let both : Some is.figure ≡ Some c.figure.result = sym is.here ∙ c.figure.ensures in
    let same : is.figure ≡ c.figure.result = cc in
    c.is_amount.ensures.not c.if-is_amount.false (subst (IsOneAmount c.args.most) same is.amount)
