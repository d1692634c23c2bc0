use Rattle.scr_book.specs.Users.{HaveCounted}
use Rattle.scr_book.proofs.users.Users.add_all.Given as goal

abbrev pub invariant-loop-row : goal.invariant-loop-row
invariant-loop-row g l = HaveCounted g.R.Using.uses_of l.row-iterator l.rows l.initial.self l.self
