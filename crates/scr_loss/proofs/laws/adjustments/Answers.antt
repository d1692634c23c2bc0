use Rattle.scr_loss.proofs.AdjustmentBounds.{adj_tp-encloses, adj_tp-size, adj_dt-encloses, adj_dt-size}
use Rattle.scr_loss.proofs.laws.adjustments.Goals as goal

pub returns-clause-tp : goal.returns-clause-tp
returns-clause-tp c = adj_tp-encloses

pub returns-clause-tp_size : goal.returns-clause-tp_size
returns-clause-tp_size c = adj_tp-size

pub returns-clause-dt : goal.returns-clause-dt
returns-clause-dt c = adj_dt-encloses

pub returns-clause-dt_size : goal.returns-clause-dt_size
returns-clause-dt_size c = adj_dt-size
