use Rattle.std.proofs.Common.{◌^◌, ◌≤◌, length, ap, arith}
use Rattle.scr_num.specs.Rounding.{Ends}
use Rattle.scr_num.proofs.Enclosing.{Encloses-same}
use Rattle.scr_agg.specs.Unbeaten.{alternatives, unbeaten}
use Rattle.scr_agg.proofs.Alternatives.{length-alternatives, mask_below-lt}
use Rattle.scr_agg.proofs.Bits.{mask_bits, mask_positive}
use Rattle.scr_agg.proofs.Enclosed.{one_unbeaten, chosen_unbeaten, gross_encloses, net_encloses, same_length}
use Rattle.scr_agg.proofs.ChoiceWidths.{open_choice}
use Rattle.scr_agg.proofs.choice.pick.Goals as goal

pub returns-clause-bits : goal.returns-clause-bits
returns-clause-bits c = λ place lt. rw c.mask.ensures
    (mask_bits (alternatives c.args.list.now) place (rw length-alternatives lt))

pub returns-clause-no_other_bits : goal.returns-clause-no_other_bits
returns-clause-no_other_bits c =
    let below = mask_below-lt (alternatives c.args.list.now) (length (alternatives c.args.list.now)) in
    let same = ap (λ n. 2 ^ n) (length-alternatives c.args.list.now) in
    rw c.mask.ensures (omega arith)

pub returns-clause-one_at_least : goal.returns-clause-one_at_least
returns-clause-one_at_least c = rw c.mask.ensures
    (mask_positive (alternatives c.args.list.now) (one_unbeaten c.args.list.now c.requires.some))

pub returns-clause-chosen : goal.returns-clause-chosen
returns-clause-chosen c =
    λ unit outcomes place h chosen.
    let list = alternatives c.args.list.now in
    let count = same_length unit list outcomes h in
    let listed = chosen.listed in (
      rw c.mask.ensures ((mask_bits list place (omega arith)).1 (chosen_unbeaten unit list outcomes place h chosen)),
      (Encloses-same unit _ _ _ _ _ (ap (λ (x : Ends). x.low) c.gross_of.ensures)
          (ap (λ (x : Ends). x.high) c.gross_of.ensures) (gross_encloses unit list outcomes place h chosen)),
      (Encloses-same unit _ _ _ _ _ (ap (λ (x : Ends). x.low) c.net_of.ensures)
          (ap (λ (x : Ends). x.high) c.net_of.ensures) (net_encloses unit list outcomes place h chosen)),
    )

pub returns-clause-gap : goal.returns-clause-gap
returns-clause-gap c =
    λ unit w outcomes h grosses nets close.
    let several : 2 ≤ length (unbeaten (alternatives c.args.list.now)) =
    grind (arith, close, c.unbeaten_count.ensures) in
    open_choice unit w (alternatives c.args.list.now) outcomes h grosses nets several
