use Rattle.std.proofs.Common.{◌+◌, ◌≤◌, length, take, get_or, subst, arith}
use Rattle.std.proofs.lemmas.List.{take_all, take_more}
use Rattle.std.proofs.lemmas.List.Elements.{Contains-get_or}
use Rattle.scr_reachability.specs.declared.ranks.Due.{Due}
use Rattle.scr_tree.specs.Together.{AreDuesOn}
use Rattle.scr_tree.proofs.Spanned.{due-on, dues-next, dues-none}
use Rattle.scr_tree.proofs.together.dues_on.Goals as goal

pub loop-number-init : goal.loop-number-init
loop-number-init c = dues-none c.args.basis c.in_ok-dues.dues.items c.in_ok-dues.ensures.items

pub sources_at-requires-clause-live : goal.sources_at-requires-clause-live
sources_at-requires-clause-live c =
    let numbers = c.args.numbers.now in
    let k = c.loop-number.number-index in
    c.requires.turn.each (get_or numbers k 0) (Contains-get_or numbers k 0 c.loop-number-test.true)

pub loop-number-preserved : goal.loop-number-preserved
loop-number-preserved c =
    let b = c.args.basis in
    let numbers = c.args.numbers.now in
    let k = c.loop-number.number-index in
    let due : Due = record { number = get_or numbers k 0; sources = c.in_ok-sources.sources } in
    dues-next b (take k numbers) (take (k + 1) numbers) c.loop-number.dues.items c.push.new.self.items due c.loop-number.invariant
    (due-on b due c.requires.basis (c.requires.turn.each (get_or numbers k 0) (Contains-get_or numbers k 0 c.loop-number-test.true))
    c.in_ok-sources.ensures)
    c.in_ok-push.ensures.items (take_more numbers k 0 c.loop-number-test.true)

pub returns : goal.returns
returns c =
    let end : length c.args.numbers.now ≤ c.loop-number.number-index = omega (arith, c.loop-number-test.false) in
    subst (λ xs. AreDuesOn c.args.basis xs c.loop-number.dues.items) (take_all c.loop-number.number-index c.args.numbers.now end)
    c.loop-number.invariant
