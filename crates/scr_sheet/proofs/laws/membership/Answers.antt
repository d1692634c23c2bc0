use Rattle.scr_sheet.proofs.Membership.{member-other}
use Rattle.scr_sheet.proofs.laws.membership.Goals as goal

pub returns : goal.returns
returns c = λ edit sheet roll name. member-other sheet roll name edit
