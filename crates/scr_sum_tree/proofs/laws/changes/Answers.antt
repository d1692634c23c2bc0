use Rattle.scr_sum_tree.proofs.BlockChanges.{came-told, went-told}
use Rattle.scr_sum_tree.proofs.SameMembers.{figures-once}
use Rattle.scr_sum_tree.proofs.TopChanges.{tops-told}
use Rattle.scr_sum_tree.proofs.laws.changes.Goals as goal

pub returns-clause-came : goal.returns-clause-came
returns-clause-came g c = came-told

pub returns-clause-went : goal.returns-clause-went
returns-clause-went g c = λ member block list after place leaves once. went-told member block list after place leaves once

pub returns-clause-tops : goal.returns-clause-tops
returns-clause-tops g c = tops-told

pub returns-clause-once : goal.returns-clause-once
returns-clause-once g c = figures-once
