-- Each line that ends has a newline.
use Rattle.std.proofs.Common.{◌+◌, ℕ, length, ap, ◌∙◌, arith}
use Rattle.memchr.specs.Find.{is_byte}
use Rattle.memchr.proofs.lemmas.CallerLemmas.{length-places}
use Rattle.scr_line_chunks.proofs.lines.passed_behind.Goals as goal

pub loop-init : goal.loop-init
loop-init c =
    let same = ap length c.into_iter-iterator.ensures.into_iter_gives in
    let few = c.memchr_iter-items.ensures.len in
    record {
      counted = ap (λ (n : ℕ). c.args.passed + n) (same ∙ ap length c.memchr_iter-items.ensures.value ∙ length-places (is_byte 10) c.args.bytes.now);
      small = omega (arith, same, few);
    }
