use Rattle.std.proofs.Common.{map, refl, arith, length-set}
use Rattle.std.proofs.lemmas.List.{length-map}
use Rattle.scr_num.specs.Rounding.{ends}
use Rattle.scr_rules.proofs.CodeLemmas.{listed-more}
use Rattle.scr_rules.proofs.rules.decided.Goals as goal

pub loop-k-preserved : goal.loop-k-preserved
loop-k-preserved c =
    listed-more (map ends c.args.spans.now) c.loop-k.k c.loop-k.list _ c.alternative.result (omega (arith, c.requires.few, length-map c.args.spans.now ends)) c.alternative.ensures refl (length-set c.loop-k.list c.loop-k.k _) c.loop-k.invariant
