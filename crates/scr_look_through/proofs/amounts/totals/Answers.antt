use Rattle.std.proofs.Common.{◌≡◌, All, map, length, nat_eq, sym, ap, subst, ◌∙◌}
use Rattle.std.specs.List.{range_with_len}
use Rattle.std.specs.Result.{IfOk}
use Rattle.std.proofs.lemmas.List.{length-map}
use Rattle.scr_funds.specs.ByNumber.{IsRow, held_at, numbered, weighted_rows}
use Rattle.scr_funds.specs.Chains.{IsAcyclic}
use Rattle.scr_funds.specs.LookThrough.{names_in, total}
use Rattle.scr_sheet.specs.BalanceSheet.{held_of}
use Rattle.scr_look_through.specs.ByNumber.{names_by_number, rows_by_number}
use Rattle.scr_look_through.proofs.FundRows.{rows-sound, acyclic-numbers}
use Rattle.scr_look_through.proofs.SeenThrough.{held-small, totals-named}
use Rattle.scr_look_through.proofs.amounts.totals.Goals as goal

pub totals-requires-clause-acyclic : goal.totals-requires-clause-acyclic
totals-requires-clause-acyclic c =
    subst (λ rows. IsAcyclic (names_in nat_eq (numbered rows))) (sym (ap weighted_rows c.deref-2.ensures.value ∙ c.in_ok-rows.ensures)) (acyclic-numbers c.args.sheet.now c.requires)

pub totals-requires-clause-rows : goal.totals-requires-clause-rows
totals-requires-clause-rows c =
    subst (All (IsRow (length c.deref.result.now))) (sym (ap weighted_rows c.deref-2.ensures.value ∙ c.in_ok-rows.ensures))
    (subst (λ n. All (IsRow n) (rows_by_number c.args.sheet.now)) size (rows-sound c.args.sheet.now c.requires))
  where
    size : length (names_by_number c.args.sheet.now) ≡ length c.deref.result.now
    size = sym (ap length (c.deref.ensures.value ∙ c.in_ok-held.ensures) ∙ length-map (names_by_number c.args.sheet.now) (held_of c.args.sheet.now))

pub totals-requires-clause-held : goal.totals-requires-clause-held
totals-requires-clause-held c = held-small c.args.sheet.now c.requires c.deref.result.now (c.deref.ensures.value ∙ c.in_ok-held.ensures)

pub returns : goal.returns
returns c =
    subst (λ found. IfOk c.totals.result (λ totals. totals.items ≡ found))
    (ap (λ rows. map (total nat_eq (held_at c.deref.result.now) (numbered rows)) (range_with_len 0 (length c.deref.result.now))) (ap weighted_rows c.deref-2.ensures.value ∙ c.in_ok-rows.ensures)
    ∙ totals-named c.args.sheet.now c.requires c.deref.result.now (c.deref.ensures.value ∙ c.in_ok-held.ensures))
    c.totals.ensures.totals
