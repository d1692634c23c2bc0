use Rattle.std.proofs.Common.{◌≡◌, ◌++◌, [], ◌∷◌, length, take, map, sym, ap, ◌∙◌, arith}
use Rattle.std.proofs.lemmas.List.{append_assoc, append-nil}
use Rattle.std.proofs.Math.Seq.{take-length}
use Rattle.scr_sheet.specs.BalanceSheet.{stake_name, position_name, held_of}
use Rattle.scr_sheet.proofs.Holds.{held_of-row, held_of-fund}
use Rattle.scr_look_through.proofs.HolderNames.{map-names}
use Rattle.scr_look_through.proofs.Walks.{map-next}
use Rattle.scr_look_through.proofs.amounts.held_by_number.Goals as goal

pub loop-k-preserved : goal.loop-k-preserved
loop-k-preserved c =
    let sheet = c.args.sheet.now in
    let k = c.loop-k.k in
    c.in_ok-push.ensures.items ∙ ap (λ held. held ++ c.at.result.now.held ∷ []) c.loop-k.invariant
    ∙ ap (λ n. map (λ s. held_of sheet (stake_name s)) (take k sheet.funds) ++ n ∷ [])
    (sym (held_of-fund sheet k c.at.result.now c.requires c.at.ensures))
    ∙ sym (map-next (λ s. held_of sheet (stake_name s)) sheet.funds k c.at.result.now c.at.ensures)

pub loop-k-2-init : goal.loop-k-2-init
loop-k-2-init c =
    let sheet = c.args.sheet.now in
    c.loop-k.invariant ∙ ap (λ k. map (λ s. held_of sheet (stake_name s)) (take k sheet.funds)) last
    ∙ ap (map (λ s. held_of sheet (stake_name s))) (take-length sheet.funds)
    ∙ sym (append-nil (map (λ s. held_of sheet (stake_name s)) sheet.funds))
  where
    last : c.loop-k.k ≡ length c.args.sheet.now.funds
    last = omega (arith, c.loop-k-test.false, c.loop-k.auto.k-end, c.len-k-end.ensures.count)

pub loop-k-2-preserved : goal.loop-k-2-preserved
loop-k-2-preserved c =
    let sheet = c.args.sheet.now in
    let k = c.loop-k-2.k in
    let funds = map (λ s. held_of sheet (stake_name s)) sheet.funds in
    let so_far = map (λ p. held_of sheet (position_name p)) (take k sheet.securities) in
    c.in_ok-push-2.ensures.items ∙ ap (λ held. held ++ c.at-in-loop-k-2.result.now.held ∷ []) c.loop-k-2.invariant
    ∙ append_assoc funds so_far (c.at-in-loop-k-2.result.now.held ∷ [])
    ∙ ap (λ n. funds ++ (so_far ++ n ∷ [])) (sym (held_of-row sheet k c.at-in-loop-k-2.result.now c.requires c.at-in-loop-k-2.ensures))
    ∙ ap (λ more. funds ++ more)
    (sym (map-next (λ p. held_of sheet (position_name p)) sheet.securities k c.at-in-loop-k-2.result.now c.at-in-loop-k-2.ensures))

pub returns : goal.returns
returns c =
    let sheet = c.args.sheet.now in
    let funds = map (λ s. held_of sheet (stake_name s)) sheet.funds in
    c.loop-k-2.invariant
    ∙ ap (λ k. funds ++ map (λ p. held_of sheet (position_name p)) (take k sheet.securities)) last
    ∙ ap (λ ps. funds ++ map (λ p. held_of sheet (position_name p)) ps) (take-length sheet.securities)
    ∙ sym (map-names sheet (held_of sheet))
  where
    last : c.loop-k-2.k ≡ length c.args.sheet.now.securities
    last = omega (arith, c.loop-k-2-test.false, c.loop-k-2.auto.k-end, c.len-k-end-2.ensures.count)
