use Rattle.scr_plan.proofs.ToSheet.{block-way}
use Rattle.scr_plan.proofs.laws.readers.Goals as goal

pub returns : goal.returns
returns c = λ factors edit book kept block node reached reader live. record {
  live = live;
  leads = block-way factors edit book kept block.sum block.level block.index reached.leads node reader;
}
