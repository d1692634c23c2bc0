-- Worked rolls, by computation.
use Rattle.std.specs.Prelude.{◌≡◌, [], refl}
use Rattle.scr_sheet.specs.BalanceSheet.{euro}
use Rattle.scr_sheet.specs.declared.roll.Roll.TheVariants as rolls
use Rattle.scr_sheet.specs.declared.rows.Class.TheVariants as classes
use Rattle.scr_book.specs.WorkedRolls.{members_after, thirds_dropped, thirds_left}

pub of-class : members_after (rolls.Class classes.Property) thirds_dropped ≡ thirds_left
unfolding members_after thirds_dropped thirds_left
of-class = refl

pub of-currency : members_after (rolls.Assets euro) thirds_dropped ≡ thirds_left
unfolding members_after thirds_dropped thirds_left
of-currency = refl

pub of-groups : members_after rolls.Grouped thirds_dropped ≡ []
unfolding members_after thirds_dropped
of-groups = refl
