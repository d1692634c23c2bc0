use Rattle.std.proofs.Common.{drop, sym, subst, ◌∙◌, arith}
use Rattle.scr_tree.specs.Ready.{AreInTurnOn, AreKnownBut}
use Rattle.scr_tree.specs.Still.{AreNothingOn, AreStillOn}
use Rattle.scr_tree.proofs.Ceiling.{some-still}
use Rattle.scr_tree.proofs.reckoning.write_square_sum.Goals as goal

pub write_blocks-requires-clause-still : goal.write_blocks-requires-clause-still
write_blocks-requires-clause-still g c = λ yes.
    some-still c.write_squares-kept.result (AreStillOn c.args.basis) (AreNothingOn c.args.basis) (λ most still. still.squares) c.write_squares-kept.ensures.still
    (sym c.is_some.ensures ∙ yes)

pub write_squares-kept-requires-clause-ceiling : goal.write_squares-kept-requires-clause-ceiling
write_squares-kept-requires-clause-ceiling g c = c.requires.ceiling

pub returns-clause-still : goal.returns-clause-still
returns-clause-still g c = c.write_squares-kept.ensures.still

pub write_blocks-requires-clause-turn : goal.write_blocks-requires-clause-turn
write_blocks-requires-clause-turn g c = subst (AreInTurnOn c.args.basis) (sym c.write_squares-kept.ensures.numbers) c.requires.turn

pub write_blocks-requires-clause-known : goal.write_blocks-requires-clause-known
write_blocks-requires-clause-known g c =
    subst (λ ns. AreKnownBut c.args.basis c.write_squares-kept.new.figures (drop c.write_squares-kept.new.journal.next ns)) (sym c.write_squares-kept.ensures.numbers)
    c.write_squares-kept.ensures.known

pub write_blocks-requires-clause-room : goal.write_blocks-requires-clause-room
write_blocks-requires-clause-room g c = omega (arith, c.requires.room, c.write_squares-kept.ensures.long)

pub returns-clause-some : goal.returns-clause-some
returns-clause-some g c = omega (arith, c.write_squares-kept.ensures.run.some, c.write_blocks.ensures.run.on)

pub returns-clause-known : goal.returns-clause-known
returns-clause-known g c =
    subst (λ ns. AreKnownBut c.args.basis c.write_blocks.new.figures (drop c.write_blocks.new.journal.next ns)) c.write_squares-kept.ensures.numbers
    c.write_blocks.ensures.known

pub returns-clause-numbers : goal.returns-clause-numbers
returns-clause-numbers g c = c.write_blocks.ensures.numbers ∙ c.write_squares-kept.ensures.numbers

pub returns-clause-journaled : goal.returns-clause-journaled
returns-clause-journaled g c = λ before is. c.write_blocks.ensures.journaled before (c.write_squares-kept.ensures.journaled before is)

pub returns-clause-steps : goal.returns-clause-steps
returns-clause-steps g c = omega (arith, c.write_squares-kept.ensures.steps, c.write_blocks.ensures.steps)
