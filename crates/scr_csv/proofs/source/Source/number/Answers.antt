-- No digit ends a field, and the digits are the number.
use Rattle.std.proofs.Common.{w64, ◌≡◌, take, Some, sym, rules}
use Rattle.std.specs.Prelude.{FitsSigned}
use Rattle.scr_fields.specs.Numbers.{number_value, leading_number}
use Rattle.scr_fields.proofs.LeadingDigits.{leading_read}
use Rattle.scr_csv.specs.Parts.{behind, first_as}
use Rattle.scr_csv.specs.Sources.{fields_in}
use Rattle.scr_csv.proofs.Fronts.{digits_apart, first_read}
use Rattle.scr_csv.proofs.source.Source.number.Goals as goal

pub behind_first-requires-clause-inside : goal.behind_first-requires-clause-inside
behind_first-requires-clause-inside c =
    let read : leading_number c.in_ok-text.text.now ≡ Some (c.in_ok-number.number, c.in_ok-number.digits) =
    sym c.in_ok-number.ensures.value in
    digits_apart c.args.self.end (take c.in_ok-number.digits c.in_ok-text.text.now) c.args.self.low
    (leading_read c.in_ok-text.text.now c.in_ok-number.number c.in_ok-number.digits read).digits

pub returns-clause-value : goal.returns-clause-value
returns-clause-value c =
    let read : leading_number c.in_ok-text.text.now ≡ Some (c.in_ok-number.number, c.in_ok-number.digits) =
    sym c.in_ok-number.ensures.value in
    let number = leading_read c.in_ok-text.text.now c.in_ok-number.number c.in_ok-number.digits read in
    let first : first_as number_value (fields_in c.args.self)
    ≡ Some (c.in_ok-number.number, behind c.args.self.end c.in_ok-rest.rest) =
    first_read number_value (fields_in c.args.self) (take c.in_ok-number.digits c.in_ok-text.text.now)
    (behind c.args.self.end c.in_ok-rest.rest) c.in_ok-number.number (search rules) number.read in
    let fits : FitsSigned w64 c.in_ok-number.number = search rules in
    search (rules, first, fits)
