-- Groups of records, by what they change in a book (this project's own).
use Rattle.std.specs.Prelude.{Bool, true, false}
use Rattle.scr_sheet.specs.declared.edit.Edit.{Edit}
use Rattle.scr_sheet.specs.declared.edit.Edit.TheVariants as edits

-- the records that change the single numbers alone, and none of the sums that a book keeps
abbrev pub is_of_numbers : Edit → Bool
is_of_numbers (edits.Asof date currency) = true
is_of_numbers (edits.Cat key cents) = true
is_of_numbers (edits.Lapse set cents) = true
is_of_numbers (edits.Due overdue other) = true
is_of_numbers (edits.Op tpl tpul tpn el eul pel peul en pen expul) = true
is_of_numbers (edits.Sym millionths) = true
is_of_numbers (edits.Tax millionths most) = true
is_of_numbers (edits.Fdb cents) = true
is_of_numbers (edits.Intangible cents) = true
is_of_numbers edit = false

-- the records that neither make a row nor hand in a list
abbrev pub takes_no_memory : Edit → Bool
takes_no_memory (edits.Curve currency rates) = false
takes_no_memory (edits.Group name kind step) = false
takes_no_memory (edits.Security name class group currency duration) = false
takes_no_memory (edits.Flows security flows) = false
takes_no_memory (edits.Fund name components) = false
takes_no_memory (edits.Liability name kind currency) = false
takes_no_memory (edits.LiabilityFlows liability projection flows) = false
takes_no_memory (edits.Rein name group recoverables mitigation collateral) = false
takes_no_memory (edits.Bank name group cents) = false
takes_no_memory edit = true

-- a record of a liability's flows under a projection
abbrev pub is_liability_flows : Edit → Bool
is_liability_flows (edits.LiabilityFlows liability projection flows) = true
is_liability_flows edit = false

-- a record of the volumes of a segment in a region
abbrev pub is_segment : Edit → Bool
is_segment (edits.Segment set number region premium reserve) = true
is_segment edit = false

-- a record of payments, of a security or of a liability
abbrev pub hands_in_payments : Edit → Bool
hands_in_payments (edits.Flows security flows) = true
hands_in_payments (edits.LiabilityFlows liability projection flows) = true
hands_in_payments edit = false
