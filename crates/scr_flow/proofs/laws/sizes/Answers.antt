use Rattle.scr_flow.proofs.SizeLemmas.{present-within, loss-within, scaled-within}
use Rattle.scr_flow.proofs.laws.sizes.Goals as goal

pub returns : goal.returns
returns c = record { present = present-within; loss = loss-within; scaled = scaled-within }
