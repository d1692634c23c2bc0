use Rattle.std.proofs.Common.{◌^◌, length}
use Rattle.scr_sum_tree.specs.Blocks.{blocks_at}
use Rattle.scr_sum_tree.specs.declared.blocks.Level.TheVariants as levels
use Rattle.scr_partial_sums.proofs.Summed.{kept-after, sums-after, written-together}
use Rattle.scr_partial_sums.proofs.writing.Subtotals.put_all.Goals as goal

pub put_seconds-requires-clause-together : goal.put_seconds-requires-clause-together
put_seconds-requires-clause-together c =
    written-together c.args.self.now c.args.family c.args.firsts.now (blocks_at (length c.args.firsts.now) levels.First) c.args.figures.now
    c.put_firsts.new.figures c.put_firsts.ensures (2 ^ 124) c.requires.together

pub returns-clause-sums : goal.returns-clause-sums
returns-clause-sums c =
    sums-after c.args.self.now c.args.family c.args.firsts.now c.requires.numbered c.args.figures.now c.put_firsts.new.figures c.put_seconds.new.figures
    c.put_firsts.ensures c.put_seconds.ensures c.requires.off

pub returns-clause-kept : goal.returns-clause-kept
returns-clause-kept c = λ number apart.
    kept-after c.args.self.now c.args.family c.args.firsts.now c.requires.numbered c.args.figures.now c.put_firsts.new.figures c.put_seconds.new.figures
    c.put_firsts.ensures c.put_seconds.ensures c.requires.off number apart
