use Rattle.std.proofs.Common.{◌≡◌, inl, inr, ◌+◌, ◌<◌, ◌≤◌, Some, slice_get, sym, ap, subst, ◌∙◌, arith}
use Rattle.std.specs.Prelude.{slice_index}
use Rattle.std.proofs.lemmas.Bool.{cases_lt}
use Rattle.std.proofs.lemmas.Option.{slice_get-get_or, slice_get_within}
use Rattle.scr_partial_sums.specs.Tables.{IsAmountBeforeNothing}
use Rattle.scr_tree.proofs.reckoning.count_still.Goals as goal

pub loop-row-init : goal.loop-row-init
loop-row-init c = record {
  come = λ row low. absurd (omega (arith, low));
  each = λ row low. absurd (omega (arith, low));
}

pub loop-row-preserved : goal.loop-row-preserved
loop-row-preserved c =
    let firsts = c.args.firsts.now in
    let numbers = c.args.numbers.now in
    let row = c.loop-row.row in
    let low : row < c.min-count.result = c.loop-row-test.true in
    let told = c.is_amount_before_nothing.ensures.yes c.if-not-is_amount_before_nothing.false in
    let here : slice_get numbers row ≡ Some (slice_index firsts row + 1) =
    slice_get-get_or numbers row 0 (omega (arith, low, c.min-count.ensures)) ∙ ap Some c.if-numbers-row.false in
    record {
      come = λ other less. elim (cases_lt other row) [
        | inl before ↦ c.loop-row.invariant.come other before
        | inr not ↦
            (let same : row ≡ other = omega (arith, less, not) in
            subst (λ k. slice_get numbers k ≡ Some (slice_index firsts k + 1)) same here)
      ];
      each = λ other less. elim (cases_lt other row) [
        | inl before ↦ c.loop-row.invariant.each other before
        | inr not ↦
            (let same : row ≡ other = omega (arith, less, not) in
            subst (λ k. IsAmountBeforeNothing c.args.free c.args.figures.now (slice_index firsts k)) same told)
      ];
    }

pub returns-then-numbers-row : goal.returns-then-numbers-row
returns-then-numbers-row c =
    let low : c.loop-row.row < c.min-count.result = c.loop-row-test.true in
    record {
      still = record {
        few = omega (arith, low, c.min-count.ensures);
        left = omega (arith, low, c.min-count.ensures);
        come = c.loop-row.invariant.come;
        each = c.loop-row.invariant.each;
      };
      last = λ within at still.
          let numbers = c.args.numbers.now in
          let number = slice_index c.args.firsts.now c.loop-row.row + 1 in
          let both : Some (slice_index numbers c.loop-row.row) ≡ Some number =
          sym (slice_get-get_or numbers c.loop-row.row 0 (omega (arith, low, c.min-count.ensures))) ∙ at in
          let same : slice_index numbers c.loop-row.row ≡ number = cc in
          c.if-numbers-row.true same;
    }

pub returns-then-not-is_amount_before_nothing : goal.returns-then-not-is_amount_before_nothing
returns-then-not-is_amount_before_nothing c =
    let low : c.loop-row.row < c.min-count.result = c.loop-row-test.true in
    record {
      still = record {
        few = omega (arith, low, c.min-count.ensures);
        left = omega (arith, low, c.min-count.ensures);
        come = c.loop-row.invariant.come;
        each = c.loop-row.invariant.each;
      };
      last = λ within at still. c.is_amount_before_nothing.ensures.not c.if-not-is_amount_before_nothing.true still;
    }

pub returns : goal.returns
returns c =
    let end : c.min-count.result ≤ c.loop-row.row = c.loop-row-test.false in
    record {
      still = record {
        few = omega (arith, c.min-count.ensures);
        left = omega (arith, c.min-count.ensures);
        come = λ row low. c.loop-row.invariant.come row (omega (arith, low, end));
        each = λ row low. c.loop-row.invariant.each row (omega (arith, low, end));
      };
      last = λ within at still.
          let low = slice_get_within c.args.numbers.now c.min-count.result (slice_index c.args.firsts.now c.min-count.result + 1) at in
          absurd (omega (arith, within, low, c.min-count.ensures));
    }
