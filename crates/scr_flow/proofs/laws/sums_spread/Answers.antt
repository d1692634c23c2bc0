use Rattle.scr_flow.proofs.WidthLemmas.{narrow-present, narrow-loss, narrow-scaled}
use Rattle.scr_flow.proofs.laws.sums_spread.Goals as goal

pub returns : goal.returns
returns c = record { present = narrow-present; loss = narrow-loss; scaled = narrow-scaled }
