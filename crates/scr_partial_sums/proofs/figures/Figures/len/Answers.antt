use Rattle.std.proofs.Common.{length, sym, ap, ◌∙◌}
use Rattle.std.proofs.lemmas.List.{length-map}
use Rattle.scr_partial_sums.specs.KeptTables.{figure_of}
use Rattle.scr_partial_sums.proofs.figures.Figures.len.Goals as goal

pub returns : goal.returns
returns c =
    ap length c.as_slice.ensures.value ∙ sym (length-map c.self.inside.cells.items (figure_of c.self.inside.wide.items))
    ∙ ap length c.self.view_is
