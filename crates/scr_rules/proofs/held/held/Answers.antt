use Rattle.std.proofs.Common.{◌≡◌, ◌≤◌, ◌+◌, length, map, sym, subst, arith, rules}
use Rattle.std.proofs.lemmas.List.{length-map}
use Rattle.scr_num.specs.Rounding.{ends}
use Rattle.scr_rules.specs.Fits.{IsShare}
use Rattle.scr_rules.specs.Weights.{shown}
use Rattle.scr_nodes.specs.Rows.{holders, share_in}
use Rattle.scr_rules.specs.Rules.{parts_held}
use Rattle.scr_rules.proofs.CodeLemmas.{stake-formed, part-worked, part-small, added-part, added-none, added-funds, added-totals}
use Rattle.scr_rules.proofs.ShareParts.{share-fits}
use Rattle.scr_rules.proofs.held.held.Goals as goal
use Rattle.scr_rules.proofs.held.held.Goals.{in-Some, in-None, else-loop-k-test, then-loop-k-test+then-next-spans}

pub part-sum-requires-clause-share : goal.part-sum-requires-clause-share
part-sum-requires-clause-share c =
    let formed = stake-formed c.args.sheet.now c.requires.valid c.loop-k.k c.at-stake.result.now c.at-stake.ensures in
    subst IsShare (sym c.in-Some.ensures.1) (share-fits c.args.name.now c.at-stake.result.now formed c.in-Some.ensures.0)

pub overflow_add-sum : goal.overflow_add-sum
overflow_add-sum c =
    let figures = map ends c.args.spans.now in
    let is = part-worked c.args.name.now figures c.loop-k.next c.at-stake.result.now (ends c.at.result) c.amount.result c.part-sum.result (shown c.in-Some.share) c.at.ensures c.amount.ensures.value c.in-Some.ensures.1
    c.part-sum.ensures.value in
    let small = part-small c.args.name.now c.args.cents c.args.sheet.now.funds figures c.loop-k.k c.loop-k.next c.loop-k.sum c.at-stake.result.now c.at-stake.ensures c.loop-k.invariant c.in-Some.ensures.0 in
    omega (arith, small, is, c.requires.fits.all)

pub loop-k-preserved : goal.loop-k-preserved
loop-k-preserved c =
    let name = c.args.name.now in
    let funds = c.args.sheet.now.funds in
    let figures = map ends c.args.spans.now in
    elim c.match-share_of.branch [
      | in-Some w ↦
          let is = part-worked name figures c.loop-k.next c.at-stake.result.now (ends w.at.result) w.amount.result w.part-sum.result (shown w.in-Some.share) w.at.ensures w.amount.ensures.value w.in-Some.ensures.1
          w.part-sum.ensures.value in
          rw (w.sum-is, w.next-is, is) (added-part name c.args.cents funds figures c.loop-k.k c.loop-k.next c.loop-k.sum c.at-stake.result.now c.at-stake.ensures c.loop-k.invariant w.in-Some.ensures.0)
      | in-None w ↦
          rw (w.sum-is, w.next-is) (added-none name c.args.cents funds figures c.loop-k.k c.loop-k.next c.loop-k.sum c.at-stake.result.now c.at-stake.ensures c.loop-k.invariant w.in-None.ensures)
    ]

pub returns : goal.returns
returns c =
    let name = c.args.name.now in
    let funds = c.args.sheet.now.funds in
    let figures = map ends c.args.spans.now in
    let all : c.loop-k.sum ≡ c.args.cents + parts_held (map (share_in name) (holders name c.args.sheet.now)) figures =
    elim c.loop-k-test.branch [
      | else-loop-k-test w ↦
          let past : length funds ≤ c.loop-k.k = let count = c.len-k-end.ensures.count in omega (arith, count, w.loop-k-test.false) in
          added-funds name c.args.cents funds figures c.loop-k.k c.loop-k.next c.loop-k.sum past c.loop-k.invariant
      | then-loop-k-test+then-next-spans w ↦
          let past : length figures ≤ c.loop-k.next = let long = length-map c.args.spans.now ends in omega (arith, long, w.if-next-spans.true) in
          added-totals name c.args.cents funds figures c.loop-k.k c.loop-k.next c.loop-k.sum past c.loop-k.invariant
    ] in
    rw (← all) (search rules)
