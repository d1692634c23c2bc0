use Rattle.std.proofs.Common.{◌≡◌, Some, slice_get, subst, ap, ◌∙◌, arith}
use mir.Syntax.{w128}
use mir.Val.{of_z, to_z}
use Rattle.std.proofs.lemmas.Int.{ints}
use Rattle.scr_num.specs.Rounding.{exact_ends}
use Rattle.scr_sheet.specs.declared.sheet.BalanceSheet.{BalanceSheet}
use Rattle.scr_nodes.specs.Sources.{group_total}
use Rattle.scr_rules.specs.Worked.{worked}
use Rattle.scr_tree.specs.First.{numbers_of}
use Rattle.scr_tree.proofs.GroupSums.{group-begin, group-low, group-rows, group-sum, one-row}
use Rattle.scr_tree.proofs.row_spans.RowGround.group_total.Goals as goal

pub sum_of-requires : goal.sum_of-requires
sum_of-requires c =
    let ground = c.args.self.now.ground in
    let numbers = numbers_of ground in
    let factors = ground.inputs.factors.now in
    let is = c.requires.ground.ground in
    let totals = c.args.self.now.totals.now in
    let group = c.at.result.now in
    let at = subst (λ (s : BalanceSheet). slice_get s.groups c.args.k ≡ Some group) c.sheet.ensures.sheet c.at.ensures in
    let all = c.requires.ground.totals in (
      (group-rows numbers is.points factors is.valid c.args.k group at totals all).0,
      group-begin numbers is.points factors is.valid c.args.k group at totals all c.members-firsts.result.now c.members-firsts.ensures,
      group-low numbers is.points factors is.valid c.args.k group at totals all,
    )

pub returns : goal.returns
returns c = λ group there.
    let ground = c.args.self.now.ground in
    let numbers = numbers_of ground in
    let factors = ground.inputs.factors.now in
    let sheet = ground.inputs.book.now.sheet in
    let is = c.requires.ground.ground in
    let totals = c.args.self.now.totals.now in
    let own = c.at.result.now in
    let at = subst (λ (s : BalanceSheet). slice_get s.groups c.args.k ≡ Some own) c.sheet.ensures.sheet c.at.ensures in
    let all = c.requires.ground.totals in
    let rows = group-rows numbers is.points factors is.valid c.args.k own at totals all in
    let same : to_z w128 (of_z w128 c.sum_of.result) ≡ c.sum_of.result = omega (arith, ints) in
    c.exact.ensures.ends
    ∙ ap exact_ends (same ∙ c.sum_of.ensures rows.0
    (group-begin numbers is.points factors is.valid c.args.k own at totals all c.members-firsts.result.now c.members-firsts.ensures))
    ∙ group-sum numbers is.points factors is.valid c.args.k own at totals all
    ∙ ap (λ g. worked factors sheet (group_total g)) (one-row sheet.groups c.args.k own group at there)
