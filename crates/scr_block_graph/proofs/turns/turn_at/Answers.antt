use Rattle.std.proofs.Common.{◌≡◌, None, Some, option_map, sym, ap, subst, ◌∙◌}
use Rattle.std.proofs.lemmas.Option.{same_Some}
use Rattle.scr_block_graph.specs.Books.{rolled_of}
use Rattle.scr_block_graph.specs.Graph.{IsRoll}
use Rattle.scr_block_graph.specs.Sums.{roll_of}
use Rattle.scr_block_graph.specs.Turns.{turn_of}
use Rattle.scr_block_graph.proofs.turns.turn_at.Goals as goal

pub returns-in-Some-clause-turn : goal.returns-in-Some-clause-turn
returns-in-Some-clause-turn c =
    ap Some c.turn_of.ensures.turn ∙ ap (option_map (turn_of c.args.edit.now (rolled_of c.args.book.now))) (sym c.in-Some.is)

pub returns-in-Some-clause-own : goal.returns-in-Some-clause-own
returns-in-Some-clause-own c = λ of is.
    subst (λ s. IsRoll (rolled_of c.args.book.now) (roll_of s)) (same_Some c.in-Some.sum of (sym c.in-Some.is ∙ is)) c.turn_of.ensures.own

pub returns-in-None-clause-own : goal.returns-in-None-clause-own
returns-in-None-clause-own c = λ of is. (let never : None ≡ Some of = sym c.in-None.is ∙ is in absurd (cc))
