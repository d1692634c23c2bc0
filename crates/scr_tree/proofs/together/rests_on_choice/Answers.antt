use Rattle.std.proofs.Common.{◌≡◌, ◌<◌, ◌≤◌, ◌+◌, Some, drop, get_or, length, slice_get, sym, ap, ◌∙◌, arith}
use Rattle.std.proofs.lemmas.List.{drop_all, drop_more}
use Rattle.std.proofs.lemmas.Option.{slice_get-get_or}
use Rattle.scr_partial_sums.specs.Tables.{nothing}
use Rattle.scr_tree.specs.Together.{any_close}
use Rattle.scr_tree.proofs.Spanned.{close-no, close-yes}
use Rattle.scr_tree.proofs.together.rests_on_choice.Goals as goal

pub is_close-requires : goal.is_close-requires
is_close-requires c = c.requires c.loop-source.source-index 0 c.loop-source-test.true

pub returns-then-is_close : goal.returns-then-is_close
returns-then-is_close c =
    let figures = c.args.figures.now in
    let sources = c.args.sources.now in
    let k = c.loop-source.source-index in
    let source = get_or sources k 0 in
    let figure = get_or figures source nothing in
    let within : source < length figures = c.requires k 0 c.loop-source-test.true in
    let here : slice_get figures source ≡ Some figure = slice_get-get_or figures source nothing within in
    sym (sym c.loop-source.invariant ∙ ap (any_close figures) (drop_more sources k 0 c.loop-source-test.true)
    ∙ close-yes figures source figure (drop (k + 1) sources) here (sym (c.is_close.ensures figure here) ∙ c.if-is_close.true))

pub loop-source-preserved : goal.loop-source-preserved
loop-source-preserved c =
    let figures = c.args.figures.now in
    let sources = c.args.sources.now in
    let k = c.loop-source.source-index in
    let source = get_or sources k 0 in
    let figure = get_or figures source nothing in
    let within : source < length figures = c.requires k 0 c.loop-source-test.true in
    let here : slice_get figures source ≡ Some figure = slice_get-get_or figures source nothing within in
    close-no figures source figure (drop (k + 1) sources) here (sym (c.is_close.ensures figure here) ∙ c.if-is_close.false)
    ∙ sym (ap (any_close figures) (drop_more sources k 0 c.loop-source-test.true)) ∙ c.loop-source.invariant

pub returns : goal.returns
returns c =
    let end : length c.args.sources.now ≤ c.loop-source.source-index = omega (arith, c.loop-source-test.false) in
    sym (ap (any_close c.args.figures.now) (drop_all c.loop-source.source-index c.args.sources.now end)) ∙ c.loop-source.invariant
