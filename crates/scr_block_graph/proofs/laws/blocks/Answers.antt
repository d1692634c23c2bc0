use Rattle.std.specs.List.{list_any}
use Rattle.scr_num.specs.Sums.{sum_ends}
use Rattle.scr_block_graph.proofs.Worth.{block-sources}
use Rattle.scr_block_graph.proofs.laws.blocks.Goals as goal

pub returns : goal.returns
returns c = record {
  ends = λ worth book block there. block-sources sum_ends worth book block.sum block.level block.index;
  any = λ holds book block there. block-sources (list_any (λ b. b)) holds book block.sum block.level block.index;
}
