use Rattle.scr_book.proofs.RollGrowth.{numbered-groups}
use Rattle.scr_book.proofs.rolls.Rolls.group_numbers.Goals as goal

pub returns-in_err-number-clause-kept : goal.returns-in_err-number-clause-kept
returns-in_err-number-clause-kept c = λ sheet h. numbered-groups sheet c.args.self.now h c.in-Some.group c.owned_number.new.seating c.owned_number.new.owners c.owned_number.ensures.gives

pub returns-clause-kept : goal.returns-clause-kept
returns-clause-kept c = λ sheet h. numbered-groups sheet c.args.self.now h c.in-Some.group c.owned_number.new.seating c.owned_number.new.owners c.owned_number.ensures.gives
