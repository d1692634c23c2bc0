use Rattle.scr_default.proofs.Roots.{type2-encloses, type2-size, default-encloses, default-size}
use Rattle.scr_default.proofs.laws.default_enclosure.Goals as goal

pub returns : goal.returns
returns c = record { type2 = type2-encloses; type2_size = type2-size; encloses = default-encloses; size = default-size }
