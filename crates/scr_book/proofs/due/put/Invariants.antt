use Rattle.scr_book.proofs.Anew.{HavePut}
use Rattle.scr_book.proofs.due.put.Given as goal

abbrev pub invariant-loop-stake : goal.invariant-loop-stake
invariant-loop-stake l = HavePut l.graph l.stake-iterator l.funds
