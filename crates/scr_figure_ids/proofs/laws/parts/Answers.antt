use Rattle.scr_figure_ids.proofs.Standing.{figure-or-part, parts-keep, parts-numbered}
use Rattle.scr_figure_ids.proofs.laws.parts.Goals as goal

pub returns-clause-numbered : goal.returns-clause-numbered
returns-clause-numbered c = λ sheet before now same. parts-numbered sheet before now same

pub returns-clause-kept : goal.returns-clause-kept
returns-clause-kept c = λ sheet before now same. parts-keep sheet before now same

pub returns-clause-apart : goal.returns-clause-apart
returns-clause-apart c = λ sheet places apart. figure-or-part sheet places apart
