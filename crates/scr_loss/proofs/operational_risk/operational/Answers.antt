use Rattle.scr_loss.specs.Operational.{prem_figure, prov_figure, cap_figure}
use Rattle.scr_loss.proofs.operational_risk.operational.Goals as goal

pub returns-clause-op_within : goal.returns-clause-op_within
returns-clause-op_within c =
    λ f h. c.op.ensures.encloses (cap_figure f) (prem_figure c.args.op.now) (prov_figure c.args.op.now) (c.cap-cap.ensures.encloses f h)
    c.prem-prem.ensures.encloses c.prov-prov.ensures.encloses
