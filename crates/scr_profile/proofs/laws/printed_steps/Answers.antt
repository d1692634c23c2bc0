use Rattle.std.proofs.Common.{refl}
use Rattle.scr_profile.proofs.laws.printed_steps.Goals as goal

pub returns-clause-thresholds : goal.returns-clause-thresholds
returns-clause-thresholds c = refl

pub returns-clause-risk_factors : goal.returns-clause-risk_factors
returns-clause-risk_factors c = refl

pub returns-clause-probabilities : goal.returns-clause-probabilities
returns-clause-probabilities c = refl
