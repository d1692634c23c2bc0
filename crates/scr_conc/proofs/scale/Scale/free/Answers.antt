use Rattle.std.proofs.Common.{ℕ, subst}
use Rattle.scr_conc.specs.Scales.{IsMostFree}
use Rattle.scr_conc.proofs.scale.Scale.free.Goals as goal

pub returns : goal.returns
returns c = subst (λ (assets : ℕ). IsMostFree assets c.self.inside.free) c.self.view_is c.self.invariant.free
