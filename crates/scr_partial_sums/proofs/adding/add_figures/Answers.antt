use Rattle.std.proofs.Common.{◌≡◌, ◌+◌, ◌||◌, Bool, false, get_or, ap, ap₂, sym, ◌∙◌, arith}
use Rattle.std.specs.Prelude.{nat_abs}
use Rattle.std.specs.Option.{option_map_or}
use Rattle.std.proofs.lemmas.List.Folds.{list_any_more}
use Rattle.std.proofs.lemmas.Option.{get_or_from_slice_get}
use Rattle.scr_num.specs.Rounding.{add_ends, ends}
use Rattle.scr_num.specs.declared.span.Span.{Span}
use Rattle.scr_partial_sums.specs.declared.figure.Figure.{Figure}
use Rattle.scr_partial_sums.specs.Figures.{member_number, members_ends}
use Rattle.scr_partial_sums.specs.Written.{is_open_at}
use Rattle.scr_partial_sums.proofs.Added.{added-next, next-high, next-low}
use Rattle.scr_partial_sums.proofs.Members.{member-at, members-length}
use Rattle.scr_partial_sums.proofs.adding.add_figures.Goals as goal

pub add-span-requires-clause-b_low : goal.add-span-requires-clause-b_low
add-span-requires-clause-b_low c =
    let figures = c.args.figures.now in
    let firsts = c.args.firsts.now in
    let d = c.figure-figure.result in
    let i = c.loop-first.first-index in
    let few = next-low (members_ends figures c.args.family firsts) (ends c.loop-first.span)
    (ends (get_or figures (get_or firsts i 0 + c.args.family) d).span) i _
    (omega (arith, c.loop-first-test.true, members-length figures c.args.family firsts))
    (member-at figures c.args.family firsts i d c.loop-first-test.true c.requires.within)
    c.requires.together.lows c.loop-first.invariant.added in
    let is : d.span ≡ (get_or figures (get_or firsts i 0 + c.args.family) d).span = sym (ap (λ (f : Figure). f.span) (get_or_from_slice_get figures (get_or firsts i 0 + c.args.family) d d c.figure-figure.ensures)) in
    let same = ap (λ (s : Span). nat_abs s.low) is in
    omega (arith, few, same)

pub add-span-requires-clause-b_high : goal.add-span-requires-clause-b_high
add-span-requires-clause-b_high c =
    let figures = c.args.figures.now in
    let firsts = c.args.firsts.now in
    let d = c.figure-figure.result in
    let i = c.loop-first.first-index in
    let few = next-high (members_ends figures c.args.family firsts) (ends c.loop-first.span)
    (ends (get_or figures (get_or firsts i 0 + c.args.family) d).span) i _
    (omega (arith, c.loop-first-test.true, members-length figures c.args.family firsts))
    (member-at figures c.args.family firsts i d c.loop-first-test.true c.requires.within)
    c.requires.together.highs c.loop-first.invariant.added in
    let is : d.span ≡ (get_or figures (get_or firsts i 0 + c.args.family) d).span = sym (ap (λ (f : Figure). f.span) (get_or_from_slice_get figures (get_or firsts i 0 + c.args.family) d d c.figure-figure.ensures)) in
    let same = ap (λ (s : Span). nat_abs s.high) is in
    omega (arith, few, same)

pub loop-first-preserved : goal.loop-first-preserved
loop-first-preserved c =
    let figures = c.args.figures.now in
    let firsts = c.args.firsts.now in
    let family = c.args.family in
    let i = c.loop-first.first-index in
    let number = get_or firsts i 0 + family in
    let d = c.figure-figure.result in
    let is : d.span ≡ (get_or figures number d).span = sym (ap (λ (f : Figure). f.span) (get_or_from_slice_get figures number d d c.figure-figure.ensures)) in
    let mark : is_open_at figures number ≡ d.close = ap (λ found. option_map_or (λ (f : Figure). f.close) found false) c.figure-figure.ensures in
    record {
      added = added-next (members_ends figures family firsts) (ends c.loop-first.span)
          (ends (get_or figures number d).span) (ends c.add-span.result) i
          (omega (arith, c.loop-first-test.true, members-length figures family firsts))
          (member-at figures family firsts i d c.loop-first-test.true c.requires.within)
          (c.add-span.ensures.ends ∙ ap (λ (s : Span). add_ends (ends c.loop-first.span) (ends s)) is) c.loop-first.invariant.added;
      close = ap₂ (λ (x : Bool) (y : Bool). x || y) c.loop-first.invariant.close (sym mark)
          ∙ sym (list_any_more (λ first. is_open_at figures (member_number family first)) firsts i 0 c.loop-first-test.true);
    }
