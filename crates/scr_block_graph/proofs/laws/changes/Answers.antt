use Rattle.scr_block_graph.proofs.Changed.{block-begins, block-changed, block-ends}
use Rattle.scr_block_graph.proofs.Regroup.{summed-same}
use Rattle.scr_block_graph.proofs.laws.changes.Goals as goal

pub returns : goal.returns
returns c = record {
  block = λ factors before after block was is. block-changed factors before after block was is;
  ends = λ factors before after block was is. block-ends factors before after block was is;
  begins = λ factors before after block was is. block-begins factors before after block was is;
  figure = λ factors before after node summed live. summed-same factors before after node summed live;
}
