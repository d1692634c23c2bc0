-- Block by block.
use Rattle.std.proofs.Common.{◌≡◌, ◌+◌, ◌-◌, ◌≤◌, true, length, take, drop, sym, ap, ◌∙◌, arith}
use Rattle.std.specs.List.{list_all}
use Rattle.scr_fields.proofs.FormLemmas.{all_left}
use Rattle.scr_csv.specs.LineFields.{is_plain}
use Rattle.scr_csv.proofs.Blocks.{block_passes, rest_tells}
use Rattle.scr_csv.proofs.split.is_plain.Goals as goal

pub walk-preserved : goal.walk-preserved
walk-preserved c =
    let text = c.args.text.now in
    let at = c.walk.at in
    let size : at + 16 - at ≡ 16 = omega arith in
    let block : list_all is_plain (take 16 (drop at text)) ≡ true =
    sym (c.is_plain_block.ensures ∙ ap (λ k. list_all is_plain (take k (drop at text))) size)
    ∙ c.if-not-is_plain_block.false in
    record {
      plain = block_passes is_plain text at 16 c.walk.invariant.plain block;
      within = omega (arith, c.walk-test.true, c.if-text-lt-BLOCK.false);
    }

pub returns : goal.returns
returns c =
    let text = c.args.text.now in
    let last = length text - 16 in
    let past : last ≤ c.walk.at = omega (arith, c.walk-test.false) in
    c.is_plain_block-2.ensures ∙ ap (list_all is_plain) (all_left last text)
    ∙ rest_tells is_plain text last c.walk.at past c.walk.invariant.plain
