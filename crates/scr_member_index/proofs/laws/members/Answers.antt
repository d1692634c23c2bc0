use Rattle.scr_member_index.proofs.Members.{members-own}
use Rattle.scr_member_index.proofs.laws.members.Goals as goal

pub returns : goal.returns
returns c = members-own
