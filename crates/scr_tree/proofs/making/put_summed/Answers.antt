use Rattle.std.proofs.Common.{◌≡◌, Bool, ◌<◌, ◌+◌, ◌∙◌, false, inl, inr, refl, sym, ap, ap₂, subst, Some}
use Rattle.scr_num.specs.Rounding.{Ends}
use Rattle.scr_figure_ids.specs.Families.{family_of, table_of}
use Rattle.scr_ids.specs.Ranges.{first}
use Rattle.scr_partial_sums.specs.declared.figure.Figure.{Figure}
use Rattle.scr_block_graph.specs.Sums.{reader_of}
use Rattle.scr_tree.specs.Figures.{worth_of, worth_at}
use Rattle.scr_tree.specs.First.{IsSumOf, link_ground}
use Rattle.scr_tree.specs.Summed.{summed_in}
use Rattle.scr_tree.proofs.Grounds.{family-few, for-links, number-within, row-few}
use Rattle.scr_tree.proofs.SumsMade.{are-read, blocks-weaker, earlier-reader, earlier-there, members-kept, members-there, members-weaker, summed-done, summed-shut}
use Rattle.scr_tree.proofs.making.put_summed.Goals as goal

pub put_under-requires-clause-count : goal.put_under-requires-clause-count
put_under-requires-clause-count g c = c.requires.done.reckoned.count

pub put_under-requires-clause-members : goal.put_under-requires-clause-members
put_under-requires-clause-members g c =
    members-there c.args.ground c.requires.ground c.args.node.now c.args.row c.requires.row c.requires.live c.requires.summed c.requires.later
    c.args.figures.now c.requires.done.reckoned.known

pub put_under-requires-clause-there : goal.put_under-requires-clause-there
put_under-requires-clause-there g c =
    earlier-there c.args.ground c.requires.ground c.args.node.now c.args.row c.args.figures.now c.requires.done.blocks_there
    (earlier-reader c.args.ground.inputs.book.now.sheet c.args.node.now c.args.row c.requires.row)

pub sum_under-held-requires-clause-reads : goal.sum_under-held-requires-clause-reads
sum_under-held-requires-clause-reads g c = λ sum e.
    are-read c.args.ground.inputs.book.now.sheet c.args.node.now c.requires.live sum (inl (sym c.first_sum-first.ensures ∙ e))

pub sum_under-held-requires-clause-count : goal.sum_under-held-requires-clause-count
sum_under-held-requires-clause-count g c =
    c.put_under.ensures.others.count ∙ c.requires.done.reckoned.count

pub sum_under-held-requires-clause-members : goal.sum_under-held-requires-clause-members
sum_under-held-requires-clause-members g c =
    members-kept c.args.ground c.requires.ground c.args.figures.now c.put_under.new.figures (λ sum. c.first_sum-first.result ≡ Some sum)
    (λ sum. reader_of sum ≡ c.args.node.now) c.put_under.ensures.others
    (members-weaker c.args.ground c.requires.ground c.args.figures.now (IsSumOf c.args.node.now) (λ sum. c.first_sum-first.result ≡ Some sum)
    (λ sum e. inl (sym c.first_sum-first.ensures ∙ e))
    (members-there c.args.ground c.requires.ground c.args.node.now c.args.row c.requires.row c.requires.live c.requires.summed c.requires.later
    c.args.figures.now c.requires.done.reckoned.known))

pub sum_under-held-requires-clause-blocks : goal.sum_under-held-requires-clause-blocks
sum_under-held-requires-clause-blocks g c =
    blocks-weaker c.args.ground c.requires.ground c.put_under.new.figures (IsSumOf c.args.node.now) (λ sum. c.first_sum-first.result ≡ Some sum)
    (λ sum e. inl (sym c.first_sum-first.ensures ∙ e)) c.put_under.ensures.blocks

pub sum_under-owed-requires-clause-reads : goal.sum_under-owed-requires-clause-reads
sum_under-owed-requires-clause-reads g c = λ sum e.
    are-read c.args.ground.inputs.book.now.sheet c.args.node.now c.requires.live sum (inr (sym c.second_sum-second.ensures ∙ e))

pub sum_under-owed-requires-clause-count : goal.sum_under-owed-requires-clause-count
sum_under-owed-requires-clause-count g c =
    c.put_under.ensures.others.count ∙ c.requires.done.reckoned.count

pub sum_under-owed-requires-clause-members : goal.sum_under-owed-requires-clause-members
sum_under-owed-requires-clause-members g c =
    members-kept c.args.ground c.requires.ground c.args.figures.now c.put_under.new.figures (λ sum. c.second_sum-second.result ≡ Some sum)
    (λ sum. reader_of sum ≡ c.args.node.now) c.put_under.ensures.others
    (members-weaker c.args.ground c.requires.ground c.args.figures.now (IsSumOf c.args.node.now) (λ sum. c.second_sum-second.result ≡ Some sum)
    (λ sum e. inr (sym c.second_sum-second.ensures ∙ e))
    (members-there c.args.ground c.requires.ground c.args.node.now c.args.row c.requires.row c.requires.live c.requires.summed c.requires.later
    c.args.figures.now c.requires.done.reckoned.known))

pub sum_under-owed-requires-clause-blocks : goal.sum_under-owed-requires-clause-blocks
sum_under-owed-requires-clause-blocks g c =
    blocks-weaker c.args.ground c.requires.ground c.put_under.new.figures (IsSumOf c.args.node.now) (λ sum. c.second_sum-second.result ≡ Some sum)
    (λ sum e. inr (sym c.second_sum-second.ensures ∙ e)) c.put_under.ensures.blocks

pub number_at-number-requires-clause-row : goal.number_at-number-requires-clause-row
number_at-number-requires-clause-row g c =
    row-few (link_ground c.args.ground) (for-links c.args.ground c.requires.ground) c.args.node.now c.args.row
    (first c.args.ground.places.now (table_of c.args.node.now) c.args.row + family_of c.args.node.now) c.requires.row refl c.requires.live

pub number_at-number-requires-clause-family : goal.number_at-number-requires-clause-family
number_at-number-requires-clause-family g c =
    family-few (link_ground c.args.ground) (for-links c.args.ground c.requires.ground) c.args.node.now c.args.row
    (first c.args.ground.places.now (table_of c.args.node.now) c.args.row + family_of c.args.node.now) c.requires.row refl c.requires.live

pub by_sums-span-requires-clause-inputs : goal.by_sums-span-requires-clause-inputs
by_sums-span-requires-clause-inputs g c = c.requires.ground.rates

pub by_sums-span-requires-clause-held : goal.by_sums-span-requires-clause-held
by_sums-span-requires-clause-held g c =
    c.sum_under-held.ensures ∙ ap (summed_in c.args.ground.inputs.factors.now c.args.ground.inputs.book.now) c.first_sum-first.ensures

pub by_sums-span-requires-clause-owed : goal.by_sums-span-requires-clause-owed
by_sums-span-requires-clause-owed g c =
    c.sum_under-owed.ensures ∙ ap (summed_in c.args.ground.inputs.factors.now c.args.ground.inputs.book.now) c.second_sum-second.ensures

pub write-requires : goal.write-requires
write-requires g c =
    subst (λ n. c.number_at-number.result < n) (sym (c.put_under.ensures.others.count ∙ c.requires.done.reckoned.count))
    (number-within (link_ground c.args.ground) (for-links c.args.ground c.requires.ground) c.args.node.now c.args.row
    c.number_at-number.result c.requires.row c.number_at-number.ensures c.requires.live)

pub returns : goal.returns
returns g c =
    let ground = c.args.ground in
    let node = c.args.node.now in
    let figure : Figure = record { span = c.by_sums-span.result; close = false } in
    let right : worth_of figure ≡ worth_at ground.inputs.factors.now ground.inputs.book.now.sheet node =
    ap₂ (λ (a : Ends) (b : Bool). record { worked = a; close = b }) c.by_sums-span.ensures.span
    (sym (summed-shut ground.inputs.factors.now ground.inputs.book.now.sheet c.requires.ground.valid node c.requires.summed)) in
    summed-done ground c.requires.ground node c.args.row c.number_at-number.result c.requires.row c.number_at-number.ensures c.requires.live
    c.args.figures.now c.put_under.new.figures c.write.new.figures c.requires.done
    c.put_under.ensures.others c.put_under.ensures.blocks figure right c.write.ensures.count c.write.ensures.there c.write.ensures.others
