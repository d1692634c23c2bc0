use Rattle.std.proofs.Common.{◌≤◌, ◌++◌, sym, ap, subst, ◌∙◌}
use Rattle.scr_reachability.specs.Linked.{edges_to, sources_in}
use Rattle.scr_tree.proofs.first_links.link_next.Goals as goal

pub returns : goal.returns
returns c = record {
  size = λ size above all small. subst (λ n. n ≤ size) (sym c.link.ensures.size) (c.make_room.ensures.size size above all small);
  made = c.link.ensures.made ∙ ap (λ es. sources_in es c.args.number ++ c.args.sources.now) c.make_room.ensures.edges;
  kept = λ other apart. c.link.ensures.others other apart ∙ ap (λ es. edges_to es other) c.make_room.ensures.edges;
}
