use Rattle.std.proofs.Common.{sym, subst}
use Rattle.scr_sheet.specs.Forms.{AreOnDays}
use Rattle.scr_counters.specs.Days.{IsDayOrNone}
use Rattle.scr_book.proofs.LastDays.{on_day}
use Rattle.scr_book.proofs.days.take_projected.Goals as goal

pub take-requires-clause-day : goal.take-requires-clause-day
take-requires-clause-day c = subst IsDayOrNone (sym c.last_day.ensures) (on_day c.under.result.now (subst AreOnDays (sym c.under.ensures) (c.requires.on_days _).0))
