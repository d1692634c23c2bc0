use Rattle.std.proofs.Common.{◌∙◌, ℕ, ◌+◌, ◌/◌, ap}
use Rattle.std.specs.Prelude.{option_map}
use Rattle.scr_widths.specs.Widths.{width}
use Rattle.scr_widths.specs.declared.scale.Scale.{Scale}
use Rattle.scr_widths.proofs.widths.stated_width.Goals as goal

pub returns : goal.returns
returns c =
    ap (option_map (λ (grains : ℕ). grains / 1000 + 2))
    (c.in_ok-grains.ensures ∙ ap (λ (scale : Scale). width scale c.args.node.now) c.scale_of.ensures.value)
