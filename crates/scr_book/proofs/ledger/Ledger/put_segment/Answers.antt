use Rattle.std.proofs.Common.{◌≡◌, ℕ, ◌+◌, ◌-◌, sym, ap, subst, ◌∙◌, arith, w64, refl}
use Rattle.std.proofs.lemmas.Int.{to_z-of_z}
use Rattle.scr_profile.specs.declared.set.Set.TheVariants as sets
use Rattle.scr_sheet.specs.BalanceSheet.{volumes_total}
use Rattle.scr_sheet.specs.declared.sheet.BalanceSheet.{BalanceSheet}
use Rattle.scr_sheet.specs.Records.{applied, natural, with_segment}
use Rattle.scr_sheet.specs.declared.edit.Edit.{Edit}
use Rattle.scr_sheet.specs.declared.numbers.Numbers.{Numbers}
use Rattle.scr_sheet.proofs.Sums.{volumes-part}
use Rattle.scr_book.specs.Sums.{AreSumsOf, volumes_sum}
use Rattle.scr_book.specs.Kept.{IsKept}
use Rattle.scr_book.specs.declared.ledger.Ledger.TheInside.{Inside}
use Rattle.scr_sheet.specs.declared.edit.Edit.TheVariants as edits
use Rattle.scr_book.proofs.Moved.{volumes_sum-is, volumes-moved, sums-segment}
use Rattle.scr_book.proofs.Applied.{sums_now, kept-applied}
use Rattle.scr_book.proofs.ledger.Ledger.put_segment.Goals as goal

pub overflow_add-old : goal.overflow_add-old
overflow_add-old c =
    let part = volumes-part c.args.set c.args.number c.args.region c.self.inside.sheet c.volumes-old.result c.volumes-old.ensures in
    let most = c.self.invariant.valid.within.volumes c.args.set in
    omega arith

pub exchange_volumes-requires-clause-part : goal.exchange_volumes-requires-clause-part
exchange_volumes-requires-clause-part c =
    let part = volumes-part c.args.set c.args.number c.args.region c.self.inside.sheet c.volumes-old.result c.volumes-old.ensures in
    let own = volumes_sum-is c.args.set c.self.inside.sheet c.self.inside.sums c.self.invariant.sums in
    omega arith

kept : (c : goal.After-exchange_volumes) → let new : Inside = record c.self.inside { sheet = record c.self.inside.sheet { numbers = c.put_volumes.new.self }; sums = c.exchange_volumes.new.self } in
    IsKept new × (new.sheet ≡ applied (edits.Segment c.args.set c.args.number c.args.region c.args.premium c.args.reserve) c.args.self.now)
kept c =
    let new : Inside = record c.self.inside { sheet = record c.self.inside.sheet { numbers = c.put_volumes.new.self }; sums = c.exchange_volumes.new.self } in
    let edit : Edit = edits.Segment c.args.set c.args.number c.args.region c.args.premium c.args.reserve in
    let premium : c.natural.result ≡ natural c.args.premium = c.natural.ensures ∙ ap natural (to_z-of_z w64 c.args.premium c.ranges.premium) in
    let reserve : c.natural-2.result ≡ natural c.args.reserve = c.natural-2.ensures ∙ ap natural (to_z-of_z w64 c.args.reserve c.ranges.reserve) in
    let numbers : ℕ → ℕ → Numbers = λ p r. record c.self.inside.sheet.numbers {
      nl = with_segment sets.Nl c.args.set c.args.number c.args.region (p, r) c.self.inside.sheet.numbers.nl;
      nslt = with_segment sets.Nslt c.args.set c.args.number c.args.region (p, r) c.self.inside.sheet.numbers.nslt;
    } in
    let old : ℕ = c.volumes-old.result.0 + c.volumes-old.result.1 in
    let n : ℕ = volumes_sum c.args.set c.self.inside.sums - old + (c.natural.result + c.natural-2.result) in
    let moved : n ≡ volumes_total c.args.set (applied edit c.args.self.now) =
    ap (λ m. m - old + (c.natural.result + c.natural-2.result)) (volumes_sum-is c.args.set c.self.inside.sheet c.self.inside.sums c.self.invariant.sums)
    ∙ ap (λ p. volumes_total c.args.set c.self.inside.sheet - old + (p + c.natural-2.result)) premium
    ∙ ap (λ r. volumes_total c.args.set c.self.inside.sheet - old + (natural c.args.premium + r)) reserve
    ∙ sym (volumes-moved c.args.set c.args.number c.args.region c.args.premium c.args.reserve c.self.inside.sheet c.volumes-old.result c.volumes-old.ensures)
    ∙ ap (λ (s : BalanceSheet). volumes_total c.args.set (applied edit s)) c.self.view_is in
    kept-applied c.self.inside new c.args.self.now c.self.view_is c.self.invariant edit c.requires.formed c.requires.no_fault refl
    (ap (λ n. record c.self.inside.sheet { numbers = n })
    (c.put_volumes.ensures ∙ ap (λ p. numbers p c.natural-2.result) premium ∙ ap (λ r. numbers (natural c.args.premium) r) reserve))
    (subst (AreSumsOf (applied edit c.args.self.now)) (sym c.exchange_volumes.ensures)
    (sums-segment c.args.set c.args.number c.args.region c.args.premium c.args.reserve c.args.self.now c.self.inside.sums n (sums_now c.self.inside c.args.self.now c.self.view_is c.self.invariant) moved))

pub invariant_of-self : goal.invariant_of-self
invariant_of-self c = (kept c).0
