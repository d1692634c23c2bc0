use Rattle.std.proofs.Common.{◌≡◌, ◌+◌, ◌<◌, ◌≤◌, length, map, sum, take, get_or, nat_eq, arith}
use Rattle.std.proofs.lemmas.List.Sums.{sum_by_more_le}
use Rattle.scr_funds.specs.LookThrough.{falling_to}
use Rattle.scr_funds.proofs.RowSteps.{falling_to-within, part_added}
use Rattle.scr_funds.proofs.look_through.add_parts.Goals as goal

pub overflow_add-values : goal.overflow_add-values
overflow_add-values c =
    let place = c.loop-place.place in
    let x = (get_or c.args.row.now place (0, 0)).0 in
    let within : x < length c.args.values.now = c.requires.below place (0, 0) c.loop-place-test.true in
    let now = c.loop-place.invariant x within in
    let most : falling_to nat_eq x (map (λ d. d.0) (take place c.args.row.now)) (take place c.args.parts.now)
    ≤ sum (take place c.args.parts.now) =
    falling_to-within x (map (λ d. d.0) (take place c.args.row.now)) (take place c.args.parts.now) in
    let lengths : length c.args.parts.now ≡ length c.args.row.now = c.requires.lengths in
    let all : sum (take place c.args.parts.now) + get_or c.args.parts.now place 0 ≤ sum c.args.parts.now =
    sum_by_more_le (λ p. p) c.args.parts.now place 0 (omega arith) in
    let fits = c.requires.fits x 0 within in
    omega (arith, now, most, all, fits)

pub loop-place-preserved : goal.loop-place-preserved
loop-place-preserved c = λ x l.
    let lengths : length c.args.parts.now ≡ length c.args.row.now = c.requires.lengths in
    let within = c.requires.below c.loop-place.place (0, 0) c.loop-place-test.true in
    part_added c.args.values.now c.loop-place.values c.args.row.now c.args.parts.now c.loop-place.place x
    c.loop-place-test.true (omega arith) (omega arith) (c.loop-place.invariant x l)
