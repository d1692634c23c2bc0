-- What the digits so far stand for.
use Rattle.std.proofs.Common.{◌≡◌, ◌-◌, ◌<◌, ◌≤◌, ◌^◌, ℕ, true, length, take, get_or}
use Rattle.std.specs.Char.{is_ascii_digit}
use Rattle.scr_fields.specs.Numbers.{decimal_value}
use Rattle.scr_fields.proofs.numbers.leading_digits.Given as goal

abbrev pub invariant-digits : goal.invariant-digits
invariant-digits l = record {
  within : l.count ≤ length l.text;
  so_far : l.value ≡ decimal_value (take l.count l.text);
  small : l.value < 10 ^ l.count;
  passed : (k : ℕ) → k < l.count → is_ascii_digit (get_or l.text k 0) ≡ true;
}

abbrev pub decreases-digits : goal.decreases-digits
decreases-digits l = length l.text - l.count
