-- A byte goes where csv's step takes it.
use Rattle.std.proofs.Common.{◌≡◌, subst, rules}
use Rattle.scr_csv.specs.Splits.{Copied}
use Rattle.scr_csv.proofs.Splitting.{copied, copied-step}
use Rattle.scr_csv.proofs.split.Split.take.Goals as goal
use Rattle.scr_csv.proofs.split.Split.take.Goals.{in-Skip, in-Copy+in_ok-push-in-Copy, in-End+in_ok-push-in-End}

pub returns : goal.returns
returns c =
    let old = c.args.self.now in
    let same : copied c.step-place.result.1 c.args.byte old.copy.items ≡ c.match-action.self.copy.items =
    elim c.match-action.branch [
      | in-Skip w ↦ search rules
      | in-Copy+in_ok-push-in-Copy w ↦ search rules
      | in-End+in_ok-push-in-End w ↦ search rules
    ] in
    record {
      steps = λ rest line before.
          subst (λ copy. Copied c.step-place.result.0 copy rest line) same
          (copied-step old.place c.step-place.result.0 c.step-place.result.1 old.copy.items c.args.byte rest line
          c.requires.printed c.step-place.ensures before);
    }
