use Rattle.scr_widths.proofs.AllWidths.{cents-kept, grains-kept}
use Rattle.scr_widths.proofs.laws.widths.Goals as goal

pub returns : goal.returns
returns c = record {
  grains = λ factors known sheet valid. grains-kept factors known sheet valid;
  cents = λ factors known sheet valid. cents-kept factors known sheet valid;
}
