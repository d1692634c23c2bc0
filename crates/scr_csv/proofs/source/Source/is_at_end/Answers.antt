-- No field is left where no text is.
use Rattle.scr_csv.proofs.Fronts.{at_end}
use Rattle.scr_csv.proofs.source.Source.is_at_end.Goals as goal

pub returns : goal.returns
returns c = at_end c.args.self.end c.args.self.rest c.is_none.result c.is_none.ensures
