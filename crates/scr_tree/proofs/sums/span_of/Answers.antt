use Rattle.std.proofs.Common.{◌≡◌, ◌^◌, true, map, sym, ap, subst, ◌∙◌}
use Rattle.scr_num.specs.Rounding.{Ends}
use Rattle.scr_num.specs.Sizes.{AreTogether}
use Rattle.scr_num.specs.Sums.{sum_ends}
use Rattle.scr_rules.specs.Worked.{worked}
use Rattle.scr_block_graph.specs.Books.{rolled_of}
use Rattle.scr_block_graph.specs.Graph.{is_live_in, sources_in, worth_in}
use Rattle.scr_block_graph.specs.declared.point.Point.{Point}
use Rattle.scr_tree.proofs.SumWorth.{block-small, block-sum}
use Rattle.scr_tree.proofs.Upright.{rolls-are}
use Rattle.scr_tree.proofs.sums.span_of.Goals as goal

pub total-requires : goal.total-requires
total-requires g c =
    let factors = c.args.inputs.factors.now in
    let book = c.args.inputs.book.now in
    let worth : Point → Ends = worth_in sum_ends (worked factors book.sheet) (rolled_of book) in
    record {
      together = subst (AreTogether (2 ^ 124))
          (sym (c.requires.below ∙ ap (λ p. map worth (sources_in (rolled_of book) p)) c.in-Block.is))
          (block-small factors book c.known.ensures.valid (rolls-are book c.known.ensures.rolls) c.known.ensures.form c.in-Block.field-0
          (subst (λ p. is_live_in (rolled_of book) p ≡ true) c.in-Block.is c.requires.live));
    }

pub returns-in-Block-clause-span : goal.returns-in-Block-clause-span
returns-in-Block-clause-span g c =
    let factors = c.args.inputs.factors.now in
    let book = c.args.inputs.book.now in
    let worth : Point → Ends = worth_in sum_ends (worked factors book.sheet) (rolled_of book) in
    c.total.ensures.ends
    ∙ ap sum_ends (c.requires.below ∙ ap (λ p. map worth (sources_in (rolled_of book) p)) c.in-Block.is)
    ∙ block-sum factors book c.known.ensures.valid (rolls-are book c.known.ensures.rolls) c.in-Block.field-0
    ∙ sym (ap worth c.in-Block.is)

pub figure_of-requires-clause-live : goal.figure_of-requires-clause-live
figure_of-requires-clause-live g c =
    subst (λ p. is_live_in (rolled_of c.args.inputs.book.now) p ≡ true) c.in-Figure.is c.requires.live

pub figure_of-requires-clause-below : goal.figure_of-requires-clause-below
figure_of-requires-clause-below g c =
    let factors = c.args.inputs.factors.now in
    let book = c.args.inputs.book.now in
    let worth : Point → Ends = worth_in sum_ends (worked factors book.sheet) (rolled_of book) in
    c.requires.below ∙ ap (λ p. map worth (sources_in (rolled_of book) p)) c.in-Figure.is

pub returns-in-Figure-clause-span : goal.returns-in-Figure-clause-span
returns-in-Figure-clause-span g c =
    let factors = c.args.inputs.factors.now in
    let book = c.args.inputs.book.now in
    let worth : Point → Ends = worth_in sum_ends (worked factors book.sheet) (rolled_of book) in
    c.figure_of.ensures.span ∙ sym (ap worth c.in-Figure.is)
