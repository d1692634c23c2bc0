-- Each verb, read from its word.
use Rattle.scr_csv.proofs.Verbs.{spelled_verb}
use Rattle.scr_csv.proofs.laws.verbs.Goals as goal

pub returns : goal.returns
returns c = λ verb. (spelled_verb verb).read
