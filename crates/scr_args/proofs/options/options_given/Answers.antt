use Rattle.std.proofs.Common.{◌∙◌, rules}
use Rattle.scr_args.proofs.Steps.{all_read, word_read, word_refused}
use Rattle.scr_args.proofs.options.options_given.Goals as goal

pub returns-then-not-branch : goal.returns-then-not-branch
returns-then-not-branch c =
    word_refused _ _ _ _ c.loop-word-test.true c.word-item.is c.as_str.ensures.value c.loop-word.reader c.read.new.self _ c.loop-word.invariant c.in_ok-read.field-0
    (search rules) c.in_ok-read.ensures

pub loop-word-preserved : goal.loop-word-preserved
loop-word-preserved c =
    word_read _ _ _ _ c.loop-word-test.true c.word-item.is c.as_str.ensures.value c.loop-word.reader c.read.new.self _ c.loop-word.invariant c.in_ok-read.field-0
    (search rules) c.in_ok-read.ensures

pub returns : goal.returns
returns c = c.whole.ensures ∙ all_read _ _ c.loop-word.reader _ c.loop-word-test.false c.loop-word.invariant
