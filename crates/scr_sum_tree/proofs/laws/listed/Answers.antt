use Rattle.scr_sum_tree.proofs.ChangedLists.{coming-listed, coming-once, coming-few, leaving-listed, leaving-once, leaving-few}
use Rattle.scr_sum_tree.proofs.laws.listed.Goals as goal

pub returns-clause-came : goal.returns-clause-came
returns-clause-came c = coming-listed

pub returns-clause-came_once : goal.returns-clause-came_once
returns-clause-came_once c = coming-once

pub returns-clause-came_few : goal.returns-clause-came_few
returns-clause-came_few c = coming-few

pub returns-clause-went : goal.returns-clause-went
returns-clause-went c = leaving-listed

pub returns-clause-went_once : goal.returns-clause-went_once
returns-clause-went_once c = leaving-once

pub returns-clause-went_few : goal.returns-clause-went_few
returns-clause-went_few c = leaving-few
