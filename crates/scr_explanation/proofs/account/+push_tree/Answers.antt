use Rattle.std.proofs.Common.{◌≡◌, ◌∙◌, ◌++◌, ◌+◌, ◌-◌, ◌<◌, length, ap, arith}
use Rattle.std.specs.Prelude.{OnOk}
use Rattle.std.proofs.lemmas.Result.{on_ok_weaker}
use Rattle.scr_sheet.specs.declared.sheet.BalanceSheet.{BalanceSheet}
use Rattle.scr_nodes.specs.Sources.{sources_of}
use Rattle.scr_explanation.specs.Account.{account, rest_text}
use Rattle.scr_explanation.specs.Told.{shown}
use Rattle.scr_explanation.proofs.Trees.{whole}
use Rattle.scr_explanation.proofs.account.+push_tree.Goals as goal

pub returns : goal.returns
returns t c =
    let engine = c.args.engine.now in
    let sources = c.in_ok-sources.sources.items in
    let told = c.deref-source-items.result.now in
    let are : sources ≡ sources_of engine.sheet c.args.node.now =
    c.in_ok-sources.ensures
    ∙ ap (λ (sheet : BalanceSheet). sources_of sheet c.args.node.now) (c.sheet.ensures.sheet ∙ c.book.ensures.value) in
    let told_are : told ≡ shown engine.factors engine.sheet c.args.extent.top sources =
    c.deref-source-items.ensures.value ∙ c.in_ok-told.ensures.shown in
    let left : c.len-count.result - c.len.result ≡ length sources - length told =
    cc in
    let deep : 0 < c.args.extent.depth = omega arith in
    let rest = rest_text (c.args.level + 1) (c.len-count.result - c.len.result) in
    let start = c.args.out.now.items in
    let text = account engine.factors engine.sheet c.args.extent.top c.args.extent.depth c.args.level c.args.node.now in
    let ends : OnOk c.push_rest.result (c.push_rest.new.out.items ≡ c.loop-source.out.items ++ rest) = c.push_rest.ensures in
    let tree : c.loop-source.out.items ++ rest ≡ start ++ text =
    whole engine.factors engine.sheet c.args.extent.top c.args.level c.args.node.now sources are c.args.extent.depth deep told told_are
    start c.loop-source.out.items c.loop-source.source-index (c.len-count.result - c.len.result) left c.loop-source-test.false
    c.loop-source.invariant in
    on_ok_weaker {P = c.push_rest.new.out.items ≡ c.loop-source.out.items ++ rest} {Q = c.push_rest.new.out.items ≡ start ++ text}
    c.push_rest.result (λ written. written ∙ tree) ends
