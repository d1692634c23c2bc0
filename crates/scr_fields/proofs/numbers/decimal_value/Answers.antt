-- One digit more.
use Rattle.std.proofs.Common.{ℕ, ◌+◌, ◌-◌, ◌*◌, ◌<◌, ◌≤◌, ◌^◌, get_or, ap, sym, ◌∙◌, arith}
use Rattle.std.proofs.lemmas.List.Sums.{fold_more}
use Rattle.scr_fields.proofs.Decimals.{digit_at, below_power, powers_rise}
use Rattle.scr_fields.proofs.numbers.decimal_value.Goals as goal

pub overflow_sub-digit : goal.overflow_sub-digit
overflow_sub-digit c = (digit_at c.args.digits.now c.loop-digit.digit-index c.requires.digits c.loop-digit-test.true).0

-- a value below a power of ten of at most 17 digits leaves room for one digit more
room : (value i n : ℕ) → value < 10 ^ i → i < n → n ≤ 18 → value < 10 ^ 17
room value i n below before few = omega (arith, below, powers_rise i 17 (omega (arith, before, few)))

pub overflow_mul-value : goal.overflow_mul-value
overflow_mul-value c = omega (
  arith,
  room c.loop-digit.value c.loop-digit.digit-index _ c.loop-digit.invariant.small c.loop-digit-test.true
      c.requires.few,
)

pub overflow_add-value : goal.overflow_add-value
overflow_add-value c = omega (
  arith,
  room c.loop-digit.value c.loop-digit.digit-index _ c.loop-digit.invariant.small c.loop-digit-test.true
      c.requires.few,
  c.from.ensures,
  digit_at c.args.digits.now c.loop-digit.digit-index c.requires.digits c.loop-digit-test.true,
)

pub loop-digit-preserved : goal.loop-digit-preserved
loop-digit-preserved c = record {
  so_far = ap (λ n. c.loop-digit.value * 10 + n) c.from.ensures
      ∙ ap (λ n. n * 10 + (get_or c.args.digits.now c.loop-digit.digit-index 0 - 48)) c.loop-digit.invariant.so_far
      ∙ sym (fold_more (λ value digit. value * 10 + (digit - 48)) 0 c.args.digits.now c.loop-digit.digit-index 0
      c.loop-digit-test.true);
  small = below_power c.loop-digit.value c.loop-digit.digit-index c.from.result c.loop-digit.invariant.small
      (omega (
        arith,
        c.from.ensures,
        digit_at c.args.digits.now c.loop-digit.digit-index c.requires.digits c.loop-digit-test.true,
      ));
}

pub returns-clause-small : goal.returns-clause-small
returns-clause-small c = omega (
  arith,
  c.loop-digit.invariant.small,
  powers_rise c.loop-digit.digit-index 18
      (omega (arith, c.requires.few, c.loop-digit.auto.digit-index-end)),
)
