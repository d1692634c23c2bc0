use Rattle.std.proofs.Common.{sym, ◌∙◌}
use Rattle.scr_reachability.proofs.Cutting.{first-link, link-named, cutting-more, cutting-fewer, cutting-done}
use Rattle.scr_reachability.proofs.relinking.unlink.Goals as goal

pub cut-requires : goal.cut-requires
cut-requires c =
    link-named c.loop-edge.links c.args.number c.in-Some.edge
    (first-link c.loop-edge.links c.args.number c.in-Some.edge (sym c.in-Some.is ∙ c.first_link.ensures.first))

pub loop-edge-smaller : goal.loop-edge-smaller
loop-edge-smaller c =
    cutting-fewer c.args.number c.in-Some.edge c.loop-edge.links c.cut.new.self
    (first-link c.loop-edge.links c.args.number c.in-Some.edge (sym c.in-Some.is ∙ c.first_link.ensures.first))
    c.cut.ensures

pub loop-edge-preserved : goal.loop-edge-preserved
loop-edge-preserved c =
    cutting-more c.args.number c.in-Some.edge c.args.links.now c.loop-edge.links c.cut.new.self c.loop-edge.invariant
    (first-link c.loop-edge.links c.args.number c.in-Some.edge (sym c.in-Some.is ∙ c.first_link.ensures.first))
    c.first_link.ensures.apart c.cut.ensures

pub returns : goal.returns
returns c =
    cutting-done c.args.number c.args.links.now c.loop-edge.links c.loop-edge.invariant
    (sym c.in_default.is ∙ c.first_link.ensures.first)
