use Rattle.scr_funds.proofs.Handing.{Turn}
use Rattle.scr_funds.proofs.look_through.hand_out.Given as goal

abbrev pub invariant-loop-place : goal.invariant-loop-place
invariant-loop-place l = Turn l.initial.values l.funds l.values l.waiting l.ready.items l.place
