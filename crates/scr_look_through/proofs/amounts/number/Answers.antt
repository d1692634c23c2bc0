use Rattle.std.proofs.Common.{◌+◌, sym, ap, ◌∙◌}
use Rattle.std.proofs.lemmas.Option.{slice_get-map}
use Rattle.scr_sheet.specs.BalanceSheet.{stake_name}
use Rattle.scr_look_through.proofs.HolderNames.{number-fund, number-security}
use Rattle.scr_look_through.proofs.amounts.number.Goals as goal
use Rattle.scr_look_through.proofs.amounts.number.Goals.{in-Some, in-None}

pub returns : goal.returns
returns c =
    let sheet = c.args.sheet.now in
    let once = c.requires.valid.named_once in
    elim c.match-place.branch [
      | in-Some w ↦ w.place-is
          ∙ sym (number-fund sheet once w.in-Some.k c.args.name.now (slice_get-map stake_name sheet.funds w.in-Some.k ∙ w.in-Some.ensures.place))
      | in-None w ↦ w.place-is ∙ ap (λ n. n + w.security_place.result) w.len.ensures.count
          ∙ sym (number-security sheet once w.security_place.result c.args.name.now w.security_place.ensures.place)
    ]
