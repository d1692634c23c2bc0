use Rattle.std.proofs.Common.{◌≡◌, ◌≤◌, ◌∙◌, true, sym, ap, subst, length, Some, arith}
use Rattle.scr_tree.specs.Summed.{AreBlocksOn, AreMembersOn, sum_on, summed_in}
use Rattle.scr_tree.specs.Points.{AreNumbersOf}
use Rattle.scr_tree.specs.declared.graph.Numbers.{Numbers}
use Rattle.scr_block_graph.specs.Graph.{reads}
use Rattle.scr_sheet.specs.Validity.{Valid}
use Rattle.scr_tree.proofs.SumsMade.{blocks-weaker, members-on, members-weaker, sum-worth, there-on}
use Rattle.scr_tree.proofs.making.sum_under.Goals as goal

pub sum_there-requires-clause-numbers : goal.sum_there-requires-clause-numbers
sum_there-requires-clause-numbers c =
    subst (λ (n : Numbers). AreNumbersOf n.book.now n.places.now n.lists.now) (sym c.numbers.ensures) c.requires.ground.points

pub sum_there-requires-clause-valid : goal.sum_there-requires-clause-valid
sum_there-requires-clause-valid c = subst (λ (n : Numbers). Valid n.book.now.sheet) (sym c.numbers.ensures) c.requires.ground.valid

pub sum_there-requires-clause-reads : goal.sum_there-requires-clause-reads
sum_there-requires-clause-reads c =
    subst (λ (n : Numbers). reads n.book.now.sheet c.in-Some.sum ≡ true) (sym c.numbers.ensures) (c.requires.reads c.in-Some.sum c.in-Some.is)

pub sum_there-requires-clause-count : goal.sum_there-requires-clause-count
sum_there-requires-clause-count c =
    subst (λ (n : Numbers). n.places.now.size ≤ length c.args.figures.now) (sym c.numbers.ensures)
    (let long = c.requires.count in omega (arith, long))

pub sum_there-requires-clause-members : goal.sum_there-requires-clause-members
sum_there-requires-clause-members c =
    subst (λ (n : Numbers). AreMembersOn n c.in-Some.sum c.args.figures.now) (sym c.numbers.ensures)
    (members-on c.args.ground c.requires.ground c.in-Some.sum (c.requires.reads c.in-Some.sum c.in-Some.is) c.args.figures.now
    (members-weaker c.args.ground c.requires.ground c.args.figures.now (λ s. c.args.found.now ≡ Some s) (λ s. s ≡ c.in-Some.sum)
    (λ s e. c.in-Some.is ∙ ap Some (sym e)) c.requires.members))

pub sum_there-requires-clause-blocks : goal.sum_there-requires-clause-blocks
sum_there-requires-clause-blocks c =
    subst (λ (n : Numbers). AreBlocksOn n c.in-Some.sum c.args.figures.now c.args.figures.now) (sym c.numbers.ensures)
    (there-on c.args.ground c.requires.ground c.in-Some.sum (c.requires.reads c.in-Some.sum c.in-Some.is) c.args.figures.now
    (members-weaker c.args.ground c.requires.ground c.args.figures.now (λ s. c.args.found.now ≡ Some s) (λ s. s ≡ c.in-Some.sum)
    (λ s e. c.in-Some.is ∙ ap Some (sym e)) c.requires.members)
    (blocks-weaker c.args.ground c.requires.ground c.args.figures.now (λ s. c.args.found.now ≡ Some s) (λ s. s ≡ c.in-Some.sum)
    (λ s e. c.in-Some.is ∙ ap Some (sym e)) c.requires.blocks))

pub returns-in-Some : goal.returns-in-Some
returns-in-Some c =
    c.sum_there.ensures
    ∙ ap (λ (n : Numbers). sum_on n c.in-Some.sum c.args.figures.now) c.numbers.ensures
    ∙ sum-worth c.args.ground c.requires.ground c.in-Some.sum (c.requires.reads c.in-Some.sum c.in-Some.is) c.args.figures.now
    (members-weaker c.args.ground c.requires.ground c.args.figures.now (λ s. c.args.found.now ≡ Some s) (λ s. s ≡ c.in-Some.sum)
    (λ s e. c.in-Some.is ∙ ap Some (sym e)) c.requires.members)
    ∙ sym (ap (summed_in c.args.ground.inputs.factors.now c.args.ground.inputs.book.now) c.in-Some.is)

pub returns-in-None : goal.returns-in-None
returns-in-None c =
    c.exact.ensures.ends ∙ sym (ap (summed_in c.args.ground.inputs.factors.now c.args.ground.inputs.book.now) c.in-None.is)
