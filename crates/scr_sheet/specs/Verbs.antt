-- Records by their verb (this project's own).
use Rattle.std.specs.Prelude.{Bool, true, false}
use Rattle.scr_sheet.specs.declared.edit.Edit.{Edit}
use Rattle.scr_sheet.specs.declared.edit.Edit.TheVariants as edits

-- the record of what the operational risk is worked from, which has more fields than a function would take one by one
abbrev pub is_operational : Edit → Bool
is_operational (edits.Op tpl tpul tpn el eul pel peul en pen expul) = true
is_operational edit = false

-- the records that change the single numbers and no row
abbrev pub changes_numbers_alone : Edit → Bool
changes_numbers_alone (edits.Asof date currency) = true
changes_numbers_alone (edits.Segment set number region premium reserve) = true
changes_numbers_alone (edits.Cat key cents) = true
changes_numbers_alone (edits.Lapse set cents) = true
changes_numbers_alone (edits.Due overdue other) = true
changes_numbers_alone (edits.Op tpl tpul tpn el eul pel peul en pen expul) = true
changes_numbers_alone (edits.Sym millionths) = true
changes_numbers_alone (edits.Tax millionths most) = true
changes_numbers_alone (edits.Fdb cents) = true
changes_numbers_alone (edits.Intangible cents) = true
changes_numbers_alone edit = false
