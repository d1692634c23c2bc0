use Rattle.std.proofs.Common.{◌≡◌, ◌≤◌, ◌∙◌, true, sym, ap, subst, length, Some, arith}
use Rattle.scr_tree.specs.First.{numbers_of}
use Rattle.scr_tree.specs.Summed.{AreBlocksOn, AreMembersOn, KeepsOffBlocksOn}
use Rattle.scr_tree.specs.Points.{AreNumbersOf}
use Rattle.scr_tree.specs.declared.graph.Numbers.{Numbers}
use Rattle.scr_block_graph.specs.Graph.{reads}
use Rattle.scr_sheet.specs.Validity.{Valid}
use Rattle.scr_tree.proofs.SumsMade.{members-on, members-weaker, none-there, off-found, off-none, some-there}
use Rattle.scr_tree.proofs.making.put_found.Goals as goal

pub put_blocks-requires-clause-numbers : goal.put_blocks-requires-clause-numbers
put_blocks-requires-clause-numbers g c =
    subst (λ (n : Numbers). AreNumbersOf n.book.now n.places.now n.lists.now) (sym c.numbers.ensures) c.requires.ground.points

pub put_blocks-requires-clause-valid : goal.put_blocks-requires-clause-valid
put_blocks-requires-clause-valid g c = subst (λ (n : Numbers). Valid n.book.now.sheet) (sym c.numbers.ensures) c.requires.ground.valid

pub put_blocks-requires-clause-reads : goal.put_blocks-requires-clause-reads
put_blocks-requires-clause-reads g c =
    subst (λ (n : Numbers). reads n.book.now.sheet c.in-Some.sum ≡ true) (sym c.numbers.ensures) (c.requires.reads c.in-Some.sum c.in-Some.is)

pub put_blocks-requires-clause-count : goal.put_blocks-requires-clause-count
put_blocks-requires-clause-count g c =
    subst (λ (n : Numbers). n.places.now.size ≤ length c.args.figures.now) (sym c.numbers.ensures)
    (let long = c.requires.count in omega (arith, long))

pub put_blocks-requires-clause-members : goal.put_blocks-requires-clause-members
put_blocks-requires-clause-members g c =
    subst (λ (n : Numbers). AreMembersOn n c.in-Some.sum c.args.figures.now) (sym c.numbers.ensures)
    (members-on c.args.ground c.requires.ground c.in-Some.sum (c.requires.reads c.in-Some.sum c.in-Some.is) c.args.figures.now
    (members-weaker c.args.ground c.requires.ground c.args.figures.now (λ s. c.args.found.now ≡ Some s) (λ s. s ≡ c.in-Some.sum)
    (λ s e. c.in-Some.is ∙ ap Some (sym e)) c.requires.members))

pub returns-in-Some-clause-blocks : goal.returns-in-Some-clause-blocks
returns-in-Some-clause-blocks g c =
    let old = c.args.figures.now in
    let now = c.put_blocks.new.figures in
    let written : AreBlocksOn (numbers_of c.args.ground) c.in-Some.sum old now =
    subst (λ (n : Numbers). AreBlocksOn n c.in-Some.sum old now) c.numbers.ensures c.put_blocks.ensures.blocks in
    let long : length now ≡ length old = c.put_blocks.ensures.others.count in
    some-there c.args.ground c.requires.ground old now c.args.found.now c.in-Some.sum c.in-Some.is
    (c.requires.reads c.in-Some.sum c.in-Some.is) c.requires.members (long ∙ c.requires.count) written

pub returns-in-Some-clause-others : goal.returns-in-Some-clause-others
returns-in-Some-clause-others g c =
    let old = c.args.figures.now in
    let now = c.put_blocks.new.figures in
    let kept : KeepsOffBlocksOn (numbers_of c.args.ground) c.in-Some.sum old now =
    subst (λ (n : Numbers). KeepsOffBlocksOn n c.in-Some.sum old now) c.numbers.ensures c.put_blocks.ensures.others in
    off-found c.args.ground c.requires.ground old now c.args.found.now c.in-Some.sum c.in-Some.is kept

pub returns-in-None-clause-blocks : goal.returns-in-None-clause-blocks
returns-in-None-clause-blocks g c =
    none-there c.args.ground c.requires.ground c.args.figures.now c.args.found.now c.in-None.is

pub returns-in-None-clause-others : goal.returns-in-None-clause-others
returns-in-None-clause-others g c =
    off-none c.args.ground c.requires.ground c.args.figures.now (λ s. c.args.found.now ≡ Some s)
