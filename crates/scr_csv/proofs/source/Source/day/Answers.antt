-- No byte of a day ends a field.
use Rattle.std.proofs.Common.{◌≡◌, take, Some, rules}
use Rattle.scr_dates.specs.Text.{day_of_text}
use Rattle.scr_csv.proofs.Fronts.{day_apart}
use Rattle.scr_csv.proofs.source.Source.day.Goals as goal

pub behind_first-requires-clause-inside : goal.behind_first-requires-clause-inside
behind_first-requires-clause-inside c =
    let read : day_of_text (take 10 c.in_ok-text.text.now) ≡ Some c.in_ok-day.day = search rules in
    day_apart c.args.self.end (take 10 c.in_ok-text.text.now) c.in_ok-day.day c.args.self.low read
