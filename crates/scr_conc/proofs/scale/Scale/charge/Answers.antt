use Rattle.std.proofs.Common.{◌≤◌, ℕ, List, [], map, sym, ap, ap₂, subst, ◌∙◌}
use Rattle.std.specs.Prelude.{slice_index, slice_index_or}
use Rattle.scr_conc.specs.Thresholds.{factor_units}
use Rattle.scr_conc.specs.Scales.{kinds, charges_of}
use Rattle.scr_conc.proofs.Scales.{kept}
use Rattle.scr_conc.proofs.Table.{charge-size}
use Rattle.scr_conc.proofs.scale.Scale.charge.Goals as goal

pub returns-clause-value : goal.returns-clause-value
returns-clause-value c =
    ap (λ (rows : List (List ℕ)). slice_index (slice_index_or rows c.row.result []) c.column.result) c.self.invariant.charges
    ∙ ap₂ (λ (i j : ℕ). slice_index (slice_index_or (map charges_of kinds) i []) j) c.row.ensures.value c.column.ensures.value
    ∙ kept factor_units c.args.kind c.args.step c.requires

pub returns-clause-size : goal.returns-clause-size
returns-clause-size c =
    subst (λ (n : ℕ). n ≤ 73) (sym (returns-clause-value c)) (charge-size c.args.kind c.args.step)
