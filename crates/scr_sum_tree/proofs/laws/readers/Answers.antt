use Rattle.scr_sum_tree.proofs.Read.{member-reader, block-reader, member-read, block-read, added-only}
use Rattle.scr_sum_tree.proofs.Once.{added-once}
use Rattle.scr_sum_tree.proofs.laws.readers.Goals as goal

pub returns-clause-there : goal.returns-clause-there
returns-clause-there g c = member-reader

pub returns-clause-above : goal.returns-clause-above
returns-clause-above g c = block-reader

pub returns-clause-member : goal.returns-clause-member
returns-clause-member g c = λ member block apart list once place name is reader reads. member-read member block apart list once place name is reader reads

pub returns-clause-block : goal.returns-clause-block
returns-clause-block g c = λ member block apart list level i there reader reads. block-read member block apart list level i there reader reads

pub returns-clause-only : goal.returns-clause-only
returns-clause-only g c = λ member block list reader reads node h. added-only member block list reader reads node h

pub returns-clause-once : goal.returns-clause-once
returns-clause-once g c = added-once
