-- One digit more, and the digits that there are.
use Rattle.std.proofs.Common.{◌≡◌, ℕ, ◌+◌, ◌<◌, ◌≤◌, ◌^◌, false, length, take, get_or, ap, sym, ◌∙◌, arith, rules}
use Rattle.std.specs.Char.{is_ascii_digit}
use Rattle.std.specs.List.{prefix_len}
use Rattle.std.proofs.lemmas.List.Folds.{length-prefix_len}
use Rattle.std.proofs.lemmas.List.Sums.{prefix_len_is}
use Rattle.scr_fields.specs.Numbers.{decimal_value}
use Rattle.scr_fields.proofs.Decimals.{powers_rise}
use Rattle.scr_fields.proofs.numbers.leading_digits.Goals as goal

-- a value below a power of ten of at most 17 digits leaves room for one digit more
room : (value i n : ℕ) → value < 10 ^ i → i < n → n ≤ 18 → value < 10 ^ 17
room value i n below before few = omega (arith, below, powers_rise i 17 (omega (arith, before, few)))

fits : (value i n : ℕ) → value < 10 ^ i → i ≤ n → n ≤ 18 → value < 10 ^ 18
fits value i n below within few = omega (arith, below, powers_rise i 18 (omega (arith, within, few)))

pub overflow_mul-value : goal.overflow_mul-value
overflow_mul-value c = omega (
  arith,
  room c.digits.value c.digits.count _ c.digits.invariant.small c.digits-test.true c.requires.few,
)

pub overflow_add-value : goal.overflow_add-value
overflow_add-value c =
    let digit : c.from.result < 256 = search rules in
    omega (
      arith,
      room c.digits.value c.digits.count _ c.digits.invariant.small c.digits-test.true c.requires.few,
      digit,
    )

pub returns-else-is_ascii_digit-clause-value : goal.returns-else-is_ascii_digit-clause-value
returns-else-is_ascii_digit-clause-value c =
    let other : is_ascii_digit (get_or c.args.text.now c.digits.count 0) ≡ false = search rules in
    c.digits.invariant.so_far
    ∙ ap (λ n. decimal_value (take n c.args.text.now))
    (sym (prefix_len_is is_ascii_digit c.args.text.now c.digits.count 0 c.digits.invariant.within
    c.digits.invariant.passed (λ _. other)))

pub returns-else-is_ascii_digit-clause-small : goal.returns-else-is_ascii_digit-clause-small
returns-else-is_ascii_digit-clause-small c =
    fits c.digits.value c.digits.count _ c.digits.invariant.small c.digits.invariant.within c.requires.few

pub returns-else-is_ascii_digit-clause-count : goal.returns-else-is_ascii_digit-clause-count
returns-else-is_ascii_digit-clause-count c =
    let other : is_ascii_digit (get_or c.args.text.now c.digits.count 0) ≡ false = search rules in
    sym (length-prefix_len is_ascii_digit c.args.text.now
    ∙ prefix_len_is is_ascii_digit c.args.text.now c.digits.count 0 c.digits.invariant.within
    c.digits.invariant.passed (λ _. other))

pub returns-after-digits-clause-value : goal.returns-after-digits-clause-value
returns-after-digits-clause-value c =
    c.digits.invariant.so_far
    ∙ ap (λ n. decimal_value (take n c.args.text.now))
    (sym (prefix_len_is is_ascii_digit c.args.text.now c.digits.count 0 c.digits.invariant.within
    c.digits.invariant.passed (λ more. absurd (omega (arith, c.digits-test.false, more)))))

pub returns-after-digits-clause-small : goal.returns-after-digits-clause-small
returns-after-digits-clause-small c =
    fits c.digits.value c.digits.count _ c.digits.invariant.small c.digits.invariant.within c.requires.few

pub returns-after-digits-clause-count : goal.returns-after-digits-clause-count
returns-after-digits-clause-count c =
    sym (length-prefix_len is_ascii_digit c.args.text.now
    ∙ prefix_len_is is_ascii_digit c.args.text.now c.digits.count 0 c.digits.invariant.within
    c.digits.invariant.passed (λ more. absurd (omega (arith, c.digits-test.false, more))))
