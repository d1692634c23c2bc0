use Rattle.std.proofs.Common.{◌≡◌, ◌||◌, IfSome, Option, is_some, true, sym, ap, subst, refl}
use Rattle.scr_block_graph.specs.Books.{rolled_of}
use Rattle.scr_block_graph.specs.Graph.{reads, tops_of}
use Rattle.scr_block_graph.specs.Sums.{first_sum, second_sum}
use Rattle.scr_block_graph.specs.declared.sum.Sum.{Sum}
use Rattle.scr_tree.specs.Adding.{AreKnownAt, IsAddedUp}
use Rattle.scr_tree.proofs.PointSources.{first-read, second-read}
use Rattle.scr_tree.proofs.Topped.{first-known, second-known, summed-right, top-sum}
use Rattle.scr_tree.proofs.tops.summed_up.Goals as goal

pub top-held-requires-clause-reads : goal.top-held-requires-clause-reads
top-held-requires-clause-reads g c =
    let sheet = c.args.basis.inputs.book.now.sheet in
    subst (λ (o : Option Sum). IfSome o (λ (s : Sum). reads sheet s ≡ true)) c.requires.first (first-read sheet c.args.node.now c.requires.live)

pub top-held-requires-clause-known : goal.top-held-requires-clause-known
top-held-requires-clause-known g c =
    let b = c.args.basis in
    subst (λ (o : Option Sum). AreKnownAt b c.args.figures.now (tops_of (rolled_of b.inputs.book.now) o)) c.requires.first
    (first-known b c.requires.basis c.args.node.now (ap is_some c.requires.first) c.args.figures.now c.args.number c.requires.ready c.requires.at c.requires.live)

pub top_if_any-owed-requires-clause-reads : goal.top_if_any-owed-requires-clause-reads
top_if_any-owed-requires-clause-reads g c =
    let sheet = c.args.basis.inputs.book.now.sheet in
    subst (λ (o : Option Sum). IfSome o (λ (s : Sum). reads sheet s ≡ true)) (sym c.second_sum.ensures) (second-read sheet c.args.node.now c.requires.live)

pub top_if_any-owed-requires-clause-known : goal.top_if_any-owed-requires-clause-known
top_if_any-owed-requires-clause-known g c =
    let b = c.args.basis in
    subst (λ (o : Option Sum). AreKnownAt b c.args.figures.now (tops_of (rolled_of b.inputs.book.now) o)) (sym c.second_sum.ensures)
    (second-known b c.requires.basis c.args.node.now (ap is_some c.requires.first) c.args.figures.now c.args.number c.requires.ready c.requires.at c.requires.live)

pub by_sums-span-requires-clause-inputs : goal.by_sums-span-requires-clause-inputs
by_sums-span-requires-clause-inputs g c = c.requires.basis.rates

pub by_sums-span-requires-clause-summed : goal.by_sums-span-requires-clause-summed
by_sums-span-requires-clause-summed g c = ap is_some c.requires.first

pub by_sums-span-requires-clause-held : goal.by_sums-span-requires-clause-held
by_sums-span-requires-clause-held g c =
    let b = c.args.basis in
    top-sum b c.requires.basis (first_sum c.args.node.now) c.top-held.result
    (subst (λ (o : Option Sum). IsAddedUp b (tops_of (rolled_of b.inputs.book.now) o) c.top-held.result) (sym c.requires.first) c.top-held.ensures)

pub by_sums-span-requires-clause-owed : goal.by_sums-span-requires-clause-owed
by_sums-span-requires-clause-owed g c =
    let b = c.args.basis in
    top-sum b c.requires.basis (second_sum c.args.node.now) c.top_if_any-owed.result
    (subst (λ (o : Option Sum). IsAddedUp b (tops_of (rolled_of b.inputs.book.now) o) c.top_if_any-owed.result) c.second_sum.ensures c.top_if_any-owed.ensures)

pub returns-clause-figure : goal.returns-clause-figure
returns-clause-figure g c =
    let b = c.args.basis in
    summed-right b c.requires.basis c.args.node.now (ap is_some c.requires.first) c.top-held.result c.top_if_any-owed.result
    (subst (λ (o : Option Sum). IsAddedUp b (tops_of (rolled_of b.inputs.book.now) o) c.top-held.result) (sym c.requires.first) c.top-held.ensures)
    (subst (λ (o : Option Sum). IsAddedUp b (tops_of (rolled_of b.inputs.book.now) o) c.top_if_any-owed.result) c.second_sum.ensures c.top_if_any-owed.ensures)
    c.by_sums-span.result (c.top-held.result.close || c.top_if_any-owed.result.close) c.by_sums-span.ensures.span refl
