-- A book through a record and back: what is said of the sheet that its parts see is said of what contracts see of it.
use Rattle.std.proofs.Common.{◌≡◌, Bool, true, false, refl, sym, ap, subst, ◌∙◌}
use Rattle.scr_sheet.specs.Records.{applied}
use Rattle.scr_sheet.specs.Validity.{Valid}
use Rattle.scr_sheet.specs.declared.edit.Edit.{Edit}
use Rattle.scr_sheet.specs.declared.roll.Roll.{Roll}
use Rattle.scr_sheet.specs.declared.sheet.BalanceSheet.{BalanceSheet}
use Rattle.scr_book.specs.RolledSheets.{RolledSheet}
use Rattle.scr_book.specs.Rolls.{AreMoved, AreRollsOf, Await, CanGoBack, IsPrepared, IsReady, IsReturning, IsTaken, KeepsNumbers, KeptRolls, roll_back, roll_of, standing_of}
use Rattle.scr_book.specs.Undone.{back, returned_by, sheet_before, Fits, FitsSheet}
use Rattle.scr_book.specs.declared.rolls.Aim.{Aim}
use Rattle.scr_book.specs.declared.undo.Undo.{Undo}

-- what contracts see of a book with this sheet and these lists
abbrev pub book-of : BalanceSheet → KeptRolls → RolledSheet
book-of sheet rolls = record { sheet = sheet; rolls = rolls }

-- one that was refused takes memory
pub takes-memory : (without : Bool) → (without ≡ true → false ≡ true) → without ≡ false
takes-memory true never = sym (never refl)
takes-memory false never = refl

-- `first` and `next` are the sheets that the lists see before the record and after it
module _ (edit : Edit) (aim : Aim) (old new first next : BalanceSheet) (saw : first ≡ old) (sees : next ≡ new) (is : new ≡ applied edit old) where
  pub next-is : next ≡ applied edit old
  next-is = sees ∙ is

  pub awaited : (rolls : KeptRolls) → Await aim (applied edit first) rolls → Await aim next rolls
  awaited rolls = subst (λ (s : BalanceSheet). Await aim s rolls) (ap (applied edit) saw ∙ sym next-is)

  module _ (before ready now : KeptRolls) (prepared : IsPrepared edit first aim before ready) (taken : IsTaken next aim ready now) where
    ready-here : IsReady edit old aim before ready
    ready-here = subst (λ (s : BalanceSheet). IsReady edit s aim before ready) saw prepared.ready

    pub rolls-here : AreRollsOf new now
    rolls-here = subst (λ (s : BalanceSheet). AreRollsOf s now) sees taken.rolls

    module _ (book : RolledSheet) (view : book-of old before ≡ book) where
      pub moved-here : AreMoved edit book.sheet book.rolls now
      moved-here = subst (λ (b : RolledSheet). AreMoved edit b.sheet b.rolls now) view (taken.moved edit old before next-is ready-here)

      pub numbers-here : KeepsNumbers book.rolls now
      numbers-here = subst (λ (b : RolledSheet). KeepsNumbers b.rolls now) view (taken.numbers edit old before ready-here)

      pub goes-here : Valid old → CanGoBack (standing_of edit book.sheet book.rolls) book.sheet new now
      goes-here valid =
          subst (λ (b : RolledSheet). CanGoBack (standing_of edit b.sheet b.rolls) b.sheet new now) view
          (subst (λ (s : BalanceSheet). CanGoBack (standing_of edit old before) old s now) sees (taken.back edit old before valid next-is ready-here))

      pub returns-here : Valid old → (roll : Roll) → roll_back (standing_of edit book.sheet book.rolls) roll now ≡ roll_of roll book.rolls
      returns-here valid =
          subst (λ (b : RolledSheet). (roll : Roll) → roll_back (standing_of edit b.sheet b.rolls) roll now ≡ roll_of roll b.rolls) view
          (taken.returns edit old before valid next-is ready-here)

-- what was kept of a book before a record leads back from the book after it
module _ (edit : Edit) (undo : Undo) (ledger first : BalanceSheet) (rolls : KeptRolls) (book now : RolledSheet) (view : book-of ledger rolls ≡ book) (saw : first ≡ ledger)
    (ok : now.sheet ≡ applied edit book.sheet) (stood : undo.standing ≡ standing_of edit first rolls) where
  stood-there : undo.standing ≡ standing_of edit book.sheet book.rolls
  stood-there = stood ∙ ap (λ (s : BalanceSheet). standing_of edit s rolls) saw ∙ ap (λ (b : RolledSheet). standing_of edit b.sheet b.rolls) view

  pub leads-back : sheet_before undo.before (applied edit ledger) ≡ ledger → back undo now.sheet ≡ book.sheet
  leads-back led =
      ap (sheet_before undo.before) ok
      ∙ subst (λ (b : RolledSheet). sheet_before undo.before (applied edit b.sheet) ≡ b.sheet) view led

  pub lists-back : ((roll : Roll) → roll_back (standing_of edit book.sheet book.rolls) roll now.rolls ≡ roll_of roll book.rolls)
      → (roll : Roll) → returned_by undo roll now ≡ roll_of roll book.rolls
  lists-back returns = λ roll. ap (λ s. roll_back s roll now.rolls) stood-there ∙ returns roll

  pub fits-now : sheet_before undo.before (applied edit ledger) ≡ ledger → FitsSheet undo.before (applied edit ledger)
      → CanGoBack (standing_of edit book.sheet book.rolls) book.sheet now.sheet now.rolls → Fits undo now
  fits-now led fits goes = record {
    sheet = subst (FitsSheet undo.before) (sym ok) (subst (λ (b : RolledSheet). FitsSheet undo.before (applied edit b.sheet)) view fits);
    rolls = subst (λ s. CanGoBack s (back undo now.sheet) now.sheet now.rolls) (sym stood-there)
        (subst (λ (s : BalanceSheet). CanGoBack (standing_of edit book.sheet book.rolls) s now.sheet now.rolls) (sym (leads-back led)) goes);
  }

-- a record that is taken back
module _ (undo : Undo) (ledger : BalanceSheet) (rolls : KeptRolls) (book : RolledSheet) (view : book-of ledger rolls ≡ book) where
  pub fits-here : Fits undo book → Fits undo (book-of ledger rolls)
  fits-here = subst (Fits undo) (sym view)

  pub returning : (first next : BalanceSheet) (gone : KeptRolls) → first ≡ ledger → next ≡ back undo ledger → Fits undo book
      → ((goal : BalanceSheet) → CanGoBack undo.standing goal first rolls → IsReturning undo.standing goal rolls gone)
      → IsReturning undo.standing next rolls gone
  returning first next gone saw is fits leaves =
      let goes = subst (λ (s : BalanceSheet). CanGoBack undo.standing (back undo ledger) s rolls) (sym saw) (fits-here fits).rolls in
      subst (λ (s : BalanceSheet). IsReturning undo.standing s rolls gone) (sym is) (leaves (back undo ledger) goes)

  pub lists-here : (now : KeptRolls) → ((roll : Roll) → roll_of roll now ≡ roll_back undo.standing roll rolls)
      → (roll : Roll) → roll_of roll now ≡ returned_by undo roll book
  lists-here now are = subst (λ (b : RolledSheet). (roll : Roll) → roll_of roll now ≡ returned_by undo roll b) view are
