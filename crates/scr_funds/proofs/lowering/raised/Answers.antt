use Rattle.std.proofs.Common.{◌≡◌, ◌≤◌, nat_eq, sym, ap, subst, ◌∙◌, arith}
use Rattle.indexmap.specs.IndexMap.{insert_entry}
use Rattle.scr_funds.specs.Edges.{edges_in, rows_in}
use Rattle.scr_funds.specs.Ranks.{IsRanking, rank_of}
use Rattle.scr_funds.proofs.Lowered.{raised_none, raised_one}
use Rattle.scr_funds.proofs.lowering.raised.Goals as goal
use Rattle.scr_funds.proofs.lowering.raised.Goals.{then-rank_of-above+in_ok-insert, else-rank_of-above}

pub returns : goal.returns
returns c =
    let edges = c.args.edges.now in
    elim c.if-rank_of-above.branch [
      | then-rank_of-above+in_ok-insert w ↦
          subst (λ fresh. IsRanking (edges_in edges) edges.ranks.now fresh.entries) (sym w.fresh-is)
          (subst (IsRanking (edges_in edges) edges.ranks.now)
          (sym (w.in_ok-insert.ensures.entries
          ∙ ap (λ es. insert_entry nat_eq es edges.from c.in-Some.above) c.new-fresh.ensures.empty))
          (raised_one edges.from edges.members.now (rows_in edges) edges.ranks.now c.requires.ranked c.requires.apart
          c.requires.none c.in-Some.above c.in-Some.ensures c.requires.fund))
      | else-rank_of-above w ↦
          let own : c.rank_of.result ≡ rank_of edges.ranks.now edges.from = c.rank_of.ensures in
          let enough : c.in-Some.above ≤ c.rank_of.result = omega (arith, w.if-rank_of-above.false) in
          subst (λ fresh. IsRanking (edges_in edges) edges.ranks.now fresh.entries) (sym w.fresh-is)
          (subst (IsRanking (edges_in edges) edges.ranks.now) (sym c.new-fresh.ensures.empty)
          (raised_none edges.from edges.members.now (rows_in edges) edges.ranks.now c.requires.ranked c.requires.apart
          c.requires.none c.in-Some.above c.in-Some.ensures (omega (arith, own, enough))))
    ]
