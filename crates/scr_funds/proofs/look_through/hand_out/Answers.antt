use Rattle.std.proofs.Common.{◌<◌, ◌≤◌, All, length, get_or, sum, subst, sym, ◌∙◌, arith}
use Rattle.scr_funds.proofs.Handing.{first_turn, one_ready, fund_is, fund_small, row_is, row_counted, as_many, parts_fit, turn_next, end-values, end-within}
use Rattle.scr_funds.proofs.look_through.hand_out.Goals as goal

pub loop-place-init : goal.loop-place-init
loop-place-init c =
    first_turn c.args.values.now c.args.funds.now c.args.waiting.now c.args.ready.now.items c.requires.funds
    c.requires.rows c.requires.acyclic c.requires.counts c.requires.ready

pub index-requires : goal.index-requires
index-requires c =
    let l : c.loop-place.place < length c.loop-place.ready.items =
    one_ready c.loop-place.invariant c.loop-place-test.true in
    let same_count = c.loop-place.ready.ok in
    omega arith

pub bounds-funds-fund : goal.bounds-funds-fund
bounds-funds-fund c = fund_is c.loop-place.invariant c.loop-place-test.true c.index.ensures

pub bounds-values-fund : goal.bounds-values-fund
bounds-values-fund c =
    let below : c.index.result.now < length c.args.funds.now =
    fund_is c.loop-place.invariant c.loop-place-test.true c.index.ensures in
    let fewer : length c.args.funds.now ≤ length c.args.values.now = c.requires.funds in
    omega arith

pub share_out-requires-clause-value : goal.share_out-requires-clause-value
share_out-requires-clause-value c =
    let most : get_or c.loop-place.values c.index.result.now 0 ≤ sum c.args.values.now =
    fund_small c.loop-place.invariant c.loop-place-test.true c.index.ensures in
    let all = c.requires.held in
    omega (arith, most, all)

pub share_out-requires-clause-few : goal.share_out-requires-clause-few
share_out-requires-clause-few c =
    (row_is c.loop-place.invariant c.loop-place-test.true c.index.ensures c.index-funds-fund.is
    c.as_slice-row.ensures.value).few

pub share_out-requires-clause-positive : goal.share_out-requires-clause-positive
share_out-requires-clause-positive c =
    (row_is c.loop-place.invariant c.loop-place-test.true c.index.ensures c.index-funds-fund.is
    c.as_slice-row.ensures.value).positive

pub share_out-requires-clause-small : goal.share_out-requires-clause-small
share_out-requires-clause-small c =
    (row_is c.loop-place.invariant c.loop-place-test.true c.index.ensures c.index-funds-fund.is
    c.as_slice-row.ensures.value).small

pub slice_bounds-parts-end : goal.slice_bounds-parts-end
slice_bounds-parts-end c =
    let few : length c.as_slice-row.result.now ≤ 1000 =
    (row_is c.loop-place.invariant c.loop-place-test.true c.index.ensures c.index-funds-fund.is
    c.as_slice-row.ensures.value).few in
    let room = c.type_inv.parts in
    omega (arith, few, room)

pub slice_bounds-add_parts-end : goal.slice_bounds-add_parts-end
slice_bounds-add_parts-end c =
    sym (as_many c.loop-place.invariant c.loop-place-test.true c.index.ensures c.index-funds-fund.is
    c.as_slice-row.ensures.value c.share_out.ensures)

pub add_parts-requires-clause-below : goal.add_parts-requires-clause-below
add_parts-requires-clause-below c =
    subst (λ n. All (λ d. d.0 < n) c.as_slice-row.result.now) (sym c.loop-place.auto.values)
    (row_is c.loop-place.invariant c.loop-place-test.true c.index.ensures c.index-funds-fund.is
    c.as_slice-row.ensures.value).below

pub add_parts-requires-clause-lengths : goal.add_parts-requires-clause-lengths
add_parts-requires-clause-lengths c = as_many c.loop-place.invariant c.loop-place-test.true c.index.ensures
    c.index-funds-fund.is c.as_slice-row.ensures.value c.share_out.ensures

pub add_parts-requires-clause-fits : goal.add_parts-requires-clause-fits
add_parts-requires-clause-fits c =
    parts_fit c.loop-place.invariant c.loop-place-test.true c.index.ensures c.index-funds-fund.is
    c.as_slice-row.ensures.value c.share_out.ensures
    c.requires.held c.loop-place.auto.values

pub release-requires-clause-below : goal.release-requires-clause-below
release-requires-clause-below c =
    subst (λ n. All (λ d. d.0 < n) c.as_slice-row.result.now) (sym (c.loop-place.auto.waiting ∙ c.requires.waiting))
    (row_is c.loop-place.invariant c.loop-place-test.true c.index.ensures c.index-funds-fund.is
    c.as_slice-row.ensures.value).below

pub release-requires-clause-counted : goal.release-requires-clause-counted
release-requires-clause-counted c = row_counted c.loop-place.invariant c.loop-place-test.true c.index.ensures
    c.index-funds-fund.is c.as_slice-row.ensures.value

pub loop-place-preserved : goal.loop-place-preserved
loop-place-preserved c =
    turn_next c.loop-place.invariant c.loop-place-test.true c.index.ensures c.index-funds-fund.is
    c.as_slice-row.ensures.value c.share_out.ensures
    c.add_parts.new.values c.release.new.waiting c.release.new.ready.items
    (λ x l. c.add_parts.ensures x (omega arith)) c.in_ok-release.ensures.counts c.in_ok-release.ensures.ready
    c.in_ok-release.ensures.front

pub returns-clause-totals : goal.returns-clause-totals
returns-clause-totals c = end-values c.loop-place.invariant (let past = c.loop-place-test.false in omega arith)
    c.loop-place.auto.values

pub returns-clause-within : goal.returns-clause-within
returns-clause-within c = end-within c.loop-place.invariant (let past = c.loop-place-test.false in omega arith)
    c.loop-place.auto.values
