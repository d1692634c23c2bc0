use Rattle.std.proofs.Common.{◌≡◌, ℕ, ◌+◌, ◌^◌, ◌<◌, ◌≤◌, ◌++◌, All, [], drop, get_or, length, take, subst, sym, ap, ◌∙◌, arith}
use Rattle.std.proofs.lemmas.List.{length-map}
use Rattle.std.proofs.lemmas.List.Elements.{All-from_get_or}
use Rattle.std.proofs.lemmas.List.Sums.{sum_by_more}
use Rattle.scr_funds.specs.ByNumber.{weighted_rows}
use Rattle.scr_funds.specs.HandedOn.{times}
use Rattle.scr_funds.proofs.RowSteps.{row-at, row_sound, times-short, written}
use Rattle.scr_funds.proofs.look_through.holders_of.Goals as goal

pub count_places-requires-clause-below : goal.count_places-requires-clause-below
count_places-requires-clause-below c =
    let sound = row_sound c.args.size c.args.funds.now c.loop-row.row-index c.row-item.result c.loop-row-test.true
    c.row-item.is c.requires.rows in
    let size : length c.deref_mut.result.now ≡ c.args.size = ap length c.deref_mut.ensures.value
    ∙ c.loop-row.invariant.size in
    subst (λ n. All (λ d. d.0 < n) c.deref.result.now) (sym size)
    (subst (All (λ d. d.0 < c.args.size)) (sym c.deref.ensures.value) sound.below)

pub count_places-requires-clause-fits : goal.count_places-requires-clause-fits
count_places-requires-clause-fits c = All-from_get_or (λ count. count + length c.deref.result.now < 2 ^ 64)
    c.deref_mut.result.now 0 each
  where
    each : (k : ℕ) → k < length c.deref_mut.result.now
        → get_or c.deref_mut.result.now k 0 + length c.deref.result.now < 2 ^ 64
    each k l =
        let sound = row_sound c.args.size c.args.funds.now c.loop-row.row-index c.row-item.result c.loop-row-test.true
        c.row-item.is c.requires.rows in
        let size : length c.deref_mut.result.now ≡ c.args.size = ap length c.deref_mut.ensures.value
        ∙ c.loop-row.invariant.size in
        let few : length c.row-item.result.items ≤ 1000 = sound.few in
        let row : length c.deref.result.now ≡ length c.row-item.result.items = ap length c.deref.ensures.value in
        let count = c.loop-row.invariant.counts k (omega arith) in
        let now : get_or c.deref_mut.result.now k 0 ≡ get_or c.loop-row.waiting.items k 0 =
        ap (λ xs. get_or xs k 0) c.deref_mut.ensures.value in
        let rows : length (weighted_rows c.args.funds.now) ≡ length c.args.funds.now =
        length-map c.args.funds.now (λ r. r.items) in
        let most = times-short c.args.size k c.loop-row.row-index (weighted_rows c.args.funds.now) c.requires.rows
        (omega arith) in
        let funds : length c.args.funds.now ≤ 2 ^ 32 = c.requires.few in
        omega (arith, few, row, count, now, most, funds)

pub loop-row-preserved : goal.loop-row-preserved
loop-row-preserved c = record {
  size = ap length new ∙ c.count_places.auto.waiting ∙ size;
  counts = λ x l.
      let before = c.loop-row.invariant.counts x l in
      let lent : get_or c.deref_mut.result.now x 0 ≡ get_or c.loop-row.waiting.items x 0 =
      ap (λ xs. get_or xs x 0) c.deref_mut.ensures.value in
      let counted = c.count_places.ensures x (omega (arith, size)) in
      let row : times x c.deref.result.now ≡ times x (get_or (weighted_rows c.args.funds.now) c.loop-row.row-index []) =
      ap (times x)
      (c.deref.ensures.value
      ∙ sym (row-at c.args.funds.now c.loop-row.row-index c.row-item.result c.loop-row-test.true c.row-item.is)) in
      let rows : length (weighted_rows c.args.funds.now) ≡ length c.args.funds.now =
      length-map c.args.funds.now (λ r. r.items) in
      let more = sum_by_more (times x) (weighted_rows c.args.funds.now) c.loop-row.row-index [] (omega arith) in
      omega (arith, before, lent, counted, row, more, ap (λ xs. get_or xs x 0) new);
}
  where
    size : length c.deref_mut.result.now ≡ c.args.size
    size = ap length c.deref_mut.ensures.value ∙ c.loop-row.invariant.size

    new : take c.loop-row.waiting.len
        (c.count_places.new.waiting ++ drop (length c.count_places.new.waiting) c.loop-row.waiting.items)
        ≡ c.count_places.new.waiting
    new = written c.loop-row.waiting.items c.count_places.new.waiting c.loop-row.waiting.len
        (c.count_places.auto.waiting ∙ ap length c.deref_mut.ensures.value)
        (sym c.deref_mut.ensures.len ∙ ap length c.deref_mut.ensures.value)
