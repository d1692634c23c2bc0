use Rattle.scr_loss.proofs.OperationalBounds.{prem-encloses, prov-encloses, prov-size, cap-encloses, cap-size, op-encloses, op-size}
use Rattle.scr_loss.proofs.laws.operational_charges.Goals as goal

pub returns-clause-prem : goal.returns-clause-prem
returns-clause-prem c = prem-encloses

pub returns-clause-prov : goal.returns-clause-prov
returns-clause-prov c = prov-encloses

pub returns-clause-prov_size : goal.returns-clause-prov_size
returns-clause-prov_size c = prov-size

pub returns-clause-cap : goal.returns-clause-cap
returns-clause-cap c = cap-encloses

pub returns-clause-cap_size : goal.returns-clause-cap_size
returns-clause-cap_size c = cap-size

pub returns-clause-op : goal.returns-clause-op
returns-clause-op c = op-encloses

pub returns-clause-op_size : goal.returns-clause-op_size
returns-clause-op_size c = op-size
