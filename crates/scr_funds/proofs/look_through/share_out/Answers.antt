use Rattle.std.proofs.Common.{◌≡◌, ℕ, ◌<◌, ◌≤◌, ◌^◌, All, List, drop, get_or, length, map, subst, sym, ap, ◌∙◌, arith}
use Rattle.std.proofs.lemmas.List.{length-map, length-take-le, take_all, take-append-le}
use Rattle.std.proofs.lemmas.List.Elements.{All-map}
use Rattle.std.proofs.lemmas.List.FromFn.{fill_by_all}
use Rattle.scr_funds.specs.Parts.{part_of}
use Rattle.scr_funds.proofs.look_through.share_out.Goals as goal

pub allocate-requires-clause-positive : goal.allocate-requires-clause-positive
allocate-requires-clause-positive c = subst (All (λ w. 1 ≤ w)) (sym c.copy_weights.ensures)
    (All-map (λ w. 1 ≤ w) (λ d. d.1) c.args.row.now c.requires.positive)

pub allocate-requires-clause-small : goal.allocate-requires-clause-small
allocate-requires-clause-small c = subst (All (λ w. w ≤ 10 ^ 9)) (sym c.copy_weights.ensures)
    (All-map (λ w. w ≤ 10 ^ 9) (λ d. d.1) c.args.row.now c.requires.small)

pub returns : goal.returns
returns c =
    take-append-le (length c.args.row.now) c.allocate.new.out (drop (length c.args.row.now) c.args.parts.now)
    (omega (arith, count))
    ∙ take_all (length c.args.row.now) c.allocate.new.out (omega (arith, count))
    ∙ fill_by_all (part_of c.args.value weights) c.allocate.new.out (length weights) 0
    (count ∙ sym (length-map {A = ℕ × ℕ} {B = ℕ} c.args.row.now (λ d. d.1))) part
  where
    weights : List ℕ
    weights = map (λ d. d.1) c.args.row.now

    count : length c.allocate.new.out ≡ length c.args.row.now
    count = c.allocate.auto.out ∙ length-take-le (length c.args.row.now) c.args.parts.now
        (let few = c.requires.few in let room = c.requires.parts in omega arith)

    part : (k : ℕ) → k < length weights → get_or c.allocate.new.out k 0 ≡ part_of c.args.value weights k
    part k l =
        c.allocate.ensures.parts k (let many = length-map {A = ℕ × ℕ} {B = ℕ} c.args.row.now (λ d. d.1) in
        let same_count : length c.allocate.new.out ≡ length c.args.row.now = count in omega arith)
        ∙ ap (λ ws. part_of c.args.value ws k) c.copy_weights.ensures
