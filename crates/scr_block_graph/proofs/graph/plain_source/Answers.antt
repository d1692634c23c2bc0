use Rattle.std.proofs.Common.{sym, ap, ◌∙◌, option_map}
use Rattle.std.proofs.lemmas.Option.{slice_get-map}
use Rattle.scr_nodes.specs.Sources.{sources_of}
use Rattle.scr_block_graph.specs.declared.point.Point.TheVariants as points
use Rattle.scr_block_graph.proofs.graph.plain_source.Goals as goal

pub returns-in-Some : goal.returns-in-Some
returns-in-Some c =
    sym (slice_get-map points.Figure (sources_of c.args.sheet.now c.args.node.now) c.args.place
    ∙ ap (option_map points.Figure) (sym c.source.ensures ∙ c.in-Some.is))

pub returns-in-None : goal.returns-in-None
returns-in-None c =
    sym (slice_get-map points.Figure (sources_of c.args.sheet.now c.args.node.now) c.args.place
    ∙ ap (option_map points.Figure) (sym c.source.ensures ∙ c.in-None.is))
