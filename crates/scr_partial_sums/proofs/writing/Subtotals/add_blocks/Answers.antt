use Rattle.std.proofs.Common.{◌≡◌, ℕ, suc, ◌-◌, ◌+◌, ◌<◌, ◌||◌, Bool, false, get_or, length, sym, ap, ap₂, subst, ◌∙◌, arith}
use Rattle.std.specs.Prelude.{nat_abs}
use Rattle.std.specs.Option.{option_map_or}
use Rattle.std.proofs.lemmas.Option.{get_or_from_slice_get}
use Rattle.scr_num.specs.Rounding.{add_ends, ends}
use Rattle.scr_partial_sums.specs.Written.{any_block_open, blocks_ends, is_open_at, number_of}
use Rattle.scr_partial_sums.specs.declared.figure.Figure.{Figure}
use Rattle.scr_partial_sums.proofs.Added.{AddedTo, added-end, added-next, next-high, next-low}
use Rattle.scr_partial_sums.proofs.Seconds.{any-next, block-at, blocks-length}
use Rattle.scr_partial_sums.proofs.writing.Subtotals.add_blocks.Goals as goal

pub figure-figure-requires : goal.figure-figure-requires
figure-figure-requires c =
    let there = c.requires.within c.loop-index.index c.loop-index.invariant.from c.loop-index-test.true in
    omega (arith, there, c.number-number.ensures.number)

pub add-span-requires-clause-b_low : goal.add-span-requires-clause-b_low
add-span-requires-clause-b_low c =
    let figures = c.args.figures.now in
    let s = c.args.self.now in
    let many = c.args.end - c.args.start in
    let i = c.loop-index.index in
    let n = c.number-number.result in
    let is = c.number-number.ensures.number in
    let from = c.loop-index.invariant.from in
    let low = c.loop-index-test.true in
    let within : n < length figures = (let there = c.requires.within i from low in omega (arith, there, is)) in
    let d = c.figure-figure.result in
    let at = block-at figures s c.args.level c.args.start many i n d from (omega (arith, low, from)) is within in
    let one : get_or figures n d ≡ d = get_or_from_slice_get figures n d d c.figure-figure.ensures in
    let few = next-low (blocks_ends figures s c.args.level c.args.start many) (ends c.loop-index.span) (ends (get_or figures n d).span) (i - c.args.start) _
    (omega (arith, low, from, blocks-length figures s c.args.level c.args.start many)) at c.requires.together.lows c.loop-index.invariant.added in
    let same = ap (λ (f : Figure). nat_abs f.span.low) one in
    omega (arith, few, same)

pub add-span-requires-clause-b_high : goal.add-span-requires-clause-b_high
add-span-requires-clause-b_high c =
    let figures = c.args.figures.now in
    let s = c.args.self.now in
    let many = c.args.end - c.args.start in
    let i = c.loop-index.index in
    let n = c.number-number.result in
    let is = c.number-number.ensures.number in
    let from = c.loop-index.invariant.from in
    let low = c.loop-index-test.true in
    let within : n < length figures = (let there = c.requires.within i from low in omega (arith, there, is)) in
    let d = c.figure-figure.result in
    let at = block-at figures s c.args.level c.args.start many i n d from (omega (arith, low, from)) is within in
    let one : get_or figures n d ≡ d = get_or_from_slice_get figures n d d c.figure-figure.ensures in
    let few = next-high (blocks_ends figures s c.args.level c.args.start many) (ends c.loop-index.span) (ends (get_or figures n d).span) (i - c.args.start) _
    (omega (arith, low, from, blocks-length figures s c.args.level c.args.start many)) at c.requires.together.highs c.loop-index.invariant.added in
    let same = ap (λ (f : Figure). nat_abs f.span.high) one in
    omega (arith, few, same)

pub loop-index-preserved : goal.loop-index-preserved
loop-index-preserved c =
    let figures = c.args.figures.now in
    let s = c.args.self.now in
    let many = c.args.end - c.args.start in
    let i = c.loop-index.index in
    let n = c.number-number.result in
    let is = c.number-number.ensures.number in
    let from = c.loop-index.invariant.from in
    let low = c.loop-index-test.true in
    let within : n < length figures = (let there = c.requires.within i from low in omega (arith, there, is)) in
    let d = c.figure-figure.result in
    let at = block-at figures s c.args.level c.args.start many i n d from (omega (arith, low, from)) is within in
    let one : get_or figures n d ≡ d = get_or_from_slice_get figures n d d c.figure-figure.ensures in
    let all = blocks_ends figures s c.args.level c.args.start many in
    let next = added-next all (ends c.loop-index.span) (ends (get_or figures n d).span) (ends c.add-span.result) (i - c.args.start)
    (omega (arith, low, from, blocks-length figures s c.args.level c.args.start many)) at
    (c.add-span.ensures.ends ∙ ap (λ (f : Figure). add_ends (ends c.loop-index.span) (ends f.span)) (sym one)) c.loop-index.invariant.added in
    let mark : is_open_at figures (number_of s c.args.level i) ≡ d.close =
    ap (is_open_at figures) (sym is) ∙ ap (λ found. option_map_or (λ (f : Figure). f.close) found false) c.figure-figure.ensures in
    let longer : suc (i - c.args.start) ≡ i + 1 - c.args.start = omega (arith, from) in
    record {
      from = omega (arith, from);
      until = omega (arith, low);
      added = subst (λ (k : ℕ). AddedTo all (ends c.add-span.result) k) (omega (arith, from)) next;
      close = ap₂ (λ (x : Bool) (y : Bool). x || y) c.loop-index.invariant.close (sym mark)
          ∙ sym (any-next (λ k. is_open_at figures (number_of s c.args.level k)) c.args.start (i - c.args.start) i (omega (arith, from)))
          ∙ ap (any_block_open figures s c.args.level c.args.start) longer;
    }

pub returns-clause-span : goal.returns-clause-span
returns-clause-span c =
    let many = c.args.end - c.args.start in
    let past = c.loop-index-test.false in
    let from = c.loop-index.invariant.from in
    added-end (blocks_ends c.args.figures.now c.args.self.now c.args.level c.args.start many) (ends c.loop-index.span) (c.loop-index.index - c.args.start)
    (omega (arith, past, from, blocks-length c.args.figures.now c.args.self.now c.args.level c.args.start many)) c.loop-index.invariant.added

pub returns-clause-close : goal.returns-clause-close
returns-clause-close c =
    let past = c.loop-index-test.false in
    let from = c.loop-index.invariant.from in
    let until = c.loop-index.invariant.until in
    let all : c.loop-index.index - c.args.start ≡ c.args.end - c.args.start = omega (arith, past, from, until) in
    c.loop-index.invariant.close ∙ ap (any_block_open c.args.figures.now c.args.self.now c.args.level c.args.start) all
