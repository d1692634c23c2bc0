use Rattle.scr_nonlife.proofs.NonlifeBounds.{nat-encloses, manmade-encloses, nat-size, manmade-size}
use Rattle.scr_nonlife.proofs.laws.perils.Goals as goal

pub returns-clause-nat : goal.returns-clause-nat
returns-clause-nat c = nat-encloses

pub returns-clause-manmade : goal.returns-clause-manmade
returns-clause-manmade c = manmade-encloses

pub returns-clause-nat_size : goal.returns-clause-nat_size
returns-clause-nat_size c = nat-size

pub returns-clause-manmade_size : goal.returns-clause-manmade_size
returns-clause-manmade_size c = manmade-size
