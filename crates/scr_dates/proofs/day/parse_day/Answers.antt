use Rattle.std.proofs.Common.{◌≡◌, ◌&&◌, ℕ, true, List, length, slice_index, sym, ◌∙◌, arith, eq-eqb}
use Rattle.std.proofs.lemmas.Bool.{and_parts}
use Rattle.scr_dates.specs.Text.{day_of_text, day_of_date, has_two_digits, has_eight_digits, written_year, written_month, written_day}
use Rattle.scr_dates.proofs.Texts.{day_of_text-range}
use Rattle.scr_dates.proofs.day.parse_day.Goals as goal

formed : (text : List ℕ) → length text ≡ 10 → slice_index text 4 ≡ 45 → slice_index text 7 ≡ 45
    → has_two_digits text 0 ≡ true → has_two_digits text 2 ≡ true → has_two_digits text 5 ≡ true
    → has_two_digits text 8 ≡ true
    → day_of_text text ≡ day_of_date (written_year text) (written_month text) (written_day text)
formed text len four seven a b c d =
    rw (
      eq-eqb (length text) 10 len,
      eq-eqb (slice_index text 4) 45 four,
      eq-eqb (slice_index text 7) 45 seven,
      a,
      b,
      c,
      d,
    )

-- the four pairs of digits
record Pairs (text : List ℕ) : Type 0 where
  century : has_two_digits text 0 ≡ true
  year : has_two_digits text 2 ≡ true
  month : has_two_digits text 5 ≡ true
  day : has_two_digits text 8 ≡ true

pairs : (text : List ℕ) → has_eight_digits text ≡ true → Pairs text
pairs text all =
    let to_month = and_parts ((has_two_digits text 0 && has_two_digits text 2) && has_two_digits text 5) (has_two_digits text 8) all in
    let to_year = and_parts (has_two_digits text 0 && has_two_digits text 2) (has_two_digits text 5) to_month.0 in
    let to_century = and_parts (has_two_digits text 0) (has_two_digits text 2) to_year.0 in
    record { century = to_century.0; year = to_century.1; month = to_year.1; day = to_month.1 }

pub year-requires-clause-century : goal.year-requires-clause-century
year-requires-clause-century c = (pairs c.args.text.now (sym c.has_digits.ensures ∙ c.if-not-has_digits.false)).century

pub year-requires-clause-year : goal.year-requires-clause-year
year-requires-clause-year c = (pairs c.args.text.now (sym c.has_digits.ensures ∙ c.if-not-has_digits.false)).year

pub two_digits-requires-clause-digits : goal.two_digits-requires-clause-digits
two_digits-requires-clause-digits c = (pairs c.args.text.now (sym c.has_digits.ensures ∙ c.if-not-has_digits.false)).month

pub two_digits-requires-2-clause-digits : goal.two_digits-requires-2-clause-digits
two_digits-requires-2-clause-digits c = (pairs c.args.text.now (sym c.has_digits.ensures ∙ c.if-not-has_digits.false)).day

pub returns-clause-value : goal.returns-clause-value
returns-clause-value c =
    let text = c.args.text.now in
    let p = pairs text (sym c.has_digits.ensures ∙ c.if-not-has_digits.false) in
    let is = formed text (omega arith) (omega arith) (omega arith) p.century p.year p.month p.day in
    c.day_of_date.ensures
    ∙ rw (c.year.ensures.value, c.two_digits.ensures.value, c.two_digits-2.ensures.value) (sym is)

pub returns-clause-in_range : goal.returns-clause-in_range
returns-clause-in_range c = rw (returns-clause-value c) (day_of_text-range c.args.text.now)
