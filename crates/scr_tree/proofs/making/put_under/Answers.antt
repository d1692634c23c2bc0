use Rattle.std.proofs.Common.{◌≡◌, ◌∙◌, inl, inr, Option, Some, sym, subst}
use Rattle.scr_block_graph.specs.Sums.{reader_of, second_sum}
use Rattle.scr_block_graph.specs.declared.sum.Sum.{Sum}
use Rattle.scr_tree.specs.First.{AreBlocksThere, IsSumOf, KeepsOffBlocks}
use Rattle.scr_tree.proofs.SumsMade.{are-read, blocks-weaker, both-off, both-there, members-kept, members-weaker, no-reader, off-none}
use Rattle.scr_tree.proofs.making.put_under.Goals as goal

pub returns-then-not-is_reader-clause-blocks : goal.returns-then-not-is_reader-clause-blocks
returns-then-not-is_reader-clause-blocks g c =
    blocks-weaker c.args.ground c.requires.ground c.args.figures.now (λ sum. IsSumOf c.args.node.now sum × (reader_of sum ≡ c.args.node.now → ⊥))
    (IsSumOf c.args.node.now) (λ sum of. (of, no-reader c.args.node.now (sym c.is_reader.ensures ∙ c.if-not-is_reader.true) sum)) c.requires.there

pub returns-then-not-is_reader-clause-others : goal.returns-then-not-is_reader-clause-others
returns-then-not-is_reader-clause-others g c =
    off-none c.args.ground c.requires.ground c.args.figures.now (λ sum. reader_of sum ≡ c.args.node.now)

pub put_found-requires-clause-reads : goal.put_found-requires-clause-reads
put_found-requires-clause-reads g c = λ sum e.
    are-read c.args.ground.inputs.book.now.sheet c.args.node.now c.requires.live sum (inl (sym c.first_sum-first.ensures ∙ e))

pub put_found-requires-clause-members : goal.put_found-requires-clause-members
put_found-requires-clause-members g c =
    members-weaker c.args.ground c.requires.ground c.args.figures.now (IsSumOf c.args.node.now) (λ sum. c.first_sum-first.result ≡ Some sum)
    (λ sum e. inl (sym c.first_sum-first.ensures ∙ e)) c.requires.members

pub put_found-requires-2-clause-reads : goal.put_found-requires-2-clause-reads
put_found-requires-2-clause-reads g c = λ sum e.
    are-read c.args.ground.inputs.book.now.sheet c.args.node.now c.requires.live sum (inr (sym c.second_sum-second.ensures ∙ e))

pub put_found-requires-2-clause-count : goal.put_found-requires-2-clause-count
put_found-requires-2-clause-count g c = c.put_found.ensures.others.count ∙ c.requires.count

pub put_found-requires-2-clause-members : goal.put_found-requires-2-clause-members
put_found-requires-2-clause-members g c =
    members-kept c.args.ground c.requires.ground c.args.figures.now c.put_found.new.figures (λ sum. c.second_sum-second.result ≡ Some sum)
    (λ sum. c.first_sum-first.result ≡ Some sum) c.put_found.ensures.others
    (members-weaker c.args.ground c.requires.ground c.args.figures.now (IsSumOf c.args.node.now) (λ sum. c.second_sum-second.result ≡ Some sum)
    (λ sum e. inr (sym c.second_sum-second.ensures ∙ e)) c.requires.members)

pub returns-clause-blocks : goal.returns-clause-blocks
returns-clause-blocks g c =
    let kept : KeepsOffBlocks c.args.ground (λ sum. second_sum c.args.node.now ≡ Some sum) c.put_found.new.figures c.put_found-2.new.figures =
    subst (λ (found : Option Sum). KeepsOffBlocks c.args.ground (λ sum. found ≡ Some sum) c.put_found.new.figures c.put_found-2.new.figures)
    c.second_sum-second.ensures c.put_found-2.ensures.others in
    both-there c.args.ground c.requires.ground c.put_found.new.figures c.put_found-2.new.figures c.args.node.now
    (subst (λ (found : Option Sum). AreBlocksThere c.args.ground c.put_found.new.figures (λ sum. found ≡ Some sum))
    c.first_sum-first.ensures c.put_found.ensures.blocks)
    kept
    (subst (λ (found : Option Sum). AreBlocksThere c.args.ground c.put_found-2.new.figures (λ sum. found ≡ Some sum))
    c.second_sum-second.ensures c.put_found-2.ensures.blocks)

pub returns-clause-others : goal.returns-clause-others
returns-clause-others g c =
    both-off c.args.ground c.requires.ground c.args.figures.now c.put_found.new.figures c.put_found-2.new.figures c.args.node.now
    (sym c.is_reader.ensures ∙ c.if-not-is_reader.false)
    (subst (λ (found : Option Sum). KeepsOffBlocks c.args.ground (λ sum. found ≡ Some sum) c.args.figures.now c.put_found.new.figures)
    c.first_sum-first.ensures c.put_found.ensures.others)
    (subst (λ (found : Option Sum). KeepsOffBlocks c.args.ground (λ sum. found ≡ Some sum) c.put_found.new.figures c.put_found-2.new.figures)
    c.second_sum-second.ensures c.put_found-2.ensures.others)
