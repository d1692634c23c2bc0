use Rattle.std.proofs.Common.{ℕ, ◌*◌, List, [], map, ap, ap₂, ◌∙◌}
use Rattle.std.specs.Prelude.{slice_index, slice_index_or}
use Rattle.scr_conc.specs.Thresholds.{threshold_units}
use Rattle.scr_conc.specs.Scales.{kinds, shares_of}
use Rattle.scr_conc.proofs.Scales.{kept}
use Rattle.scr_conc.proofs.scale.Scale.share.Goals as goal

pub returns : goal.returns
returns c =
    ap (λ (rows : List (List ℕ)). slice_index (slice_index_or rows c.row.result []) c.column.result) c.self.invariant.shares
    ∙ ap₂ (λ (i j : ℕ). slice_index (slice_index_or (map (shares_of c.self.inside.assets) kinds) i []) j) c.row.ensures.value c.column.ensures.value
    ∙ kept (λ kind step. threshold_units kind step * c.self.inside.assets) c.args.kind c.args.step c.requires
    ∙ ap (λ (assets : ℕ). threshold_units c.args.kind c.args.step * assets) c.self.view_is
