use Rattle.std.proofs.Common.{◌≡◌, IfSome, Option, true, sym, subst}
use Rattle.scr_block_graph.specs.Books.{rolled_of}
use Rattle.scr_block_graph.specs.Graph.{reads, tops_of}
use Rattle.scr_block_graph.specs.declared.sum.Sum.{Sum}
use Rattle.scr_tree.specs.Adding.{AreKnownAt, IsAddedUp}
use Rattle.scr_tree.proofs.Topped.{none-added}
use Rattle.scr_tree.proofs.tops.top_if_any.Goals as goal

pub top-requires-clause-reads : goal.top-requires-clause-reads
top-requires-clause-reads c =
    subst (λ (o : Option Sum). IfSome o (λ (s : Sum). reads c.args.basis.inputs.book.now.sheet s ≡ true)) c.in-Some.is c.requires.reads

pub top-requires-clause-known : goal.top-requires-clause-known
top-requires-clause-known c =
    let b = c.args.basis in
    subst (λ (o : Option Sum). AreKnownAt b c.args.figures.now (tops_of (rolled_of b.inputs.book.now) o)) c.in-Some.is c.requires.known

pub returns-in-Some : goal.returns-in-Some
returns-in-Some c =
    let b = c.args.basis in
    subst (λ (o : Option Sum). IsAddedUp b (tops_of (rolled_of b.inputs.book.now) o) c.top.result) (sym c.in-Some.is) c.top.ensures

pub returns-in-None : goal.returns-in-None
returns-in-None c =
    none-added c.args.basis c.requires.basis c.args.sum.now c.nothing.result c.in-None.is c.nothing.ensures.span c.nothing.ensures.close
