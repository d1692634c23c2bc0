use Rattle.scr_profile.proofs.Words.{class-first, class-listed, class-shared}
use Rattle.scr_profile.proofs.laws.classes_of_default.Goals as goal

pub returns-clause-shared : goal.returns-clause-shared
returns-clause-shared c = class-shared

pub returns-clause-first : goal.returns-clause-first
returns-clause-first c = class-first

pub returns-clause-listed : goal.returns-clause-listed
returns-clause-listed c = class-listed
